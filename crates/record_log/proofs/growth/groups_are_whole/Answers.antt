use Rattle.record_log.proofs.MarksKept.{moment_is_recent}
use Rattle.record_log.proofs.WholeGroups.{growth_gives, moment_keeps, growth_keeps}
use Rattle.record_log.proofs.growth.groups_are_whole.Goals as goal

pub returns : goal.returns
returns c =
    let append = c.append_is_whole.ensures in
    let beginning = c.beginning_is_safe.ensures in
    let logs = c.logs_are_lists.ensures in
    record {
      gives = growth_gives append.gives append.keeps logs.at c.images_of_settled.ensures logs.placed c.one_list.ensures beginning.gives beginning.keeps;
      moment = moment_keeps append.gives append.keeps logs.at c.images_of_settled.ensures logs.placed c.one_list.ensures beginning.gives beginning.keeps;
      recent = moment_is_recent append.gives append.keeps logs.at c.images_of_settled.ensures logs.placed c.one_list.ensures beginning.gives beginning.keeps append.format append.mark beginning.second c.upgrade_is_safe.ensures.second;
      keeps = growth_keeps append.gives append.keeps logs.at c.images_of_settled.ensures logs.placed c.one_list.ensures beginning.gives beginning.keeps;
    }
