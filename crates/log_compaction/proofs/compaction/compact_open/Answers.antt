use Rattle.std.proofs.Common.{◌+◌}
use Rattle.log_compaction.proofs.Compacting.{is_compacted, is_not_told, is_refused, open_laws, refused_guarded, written_guarded}
use Rattle.log_compaction.proofs.compaction.compact_open.Goals as goal

-- ---- they are refused

pub returns-in-Some-clause-answered : goal.returns-in-Some-clause-answered
returns-in-Some-clause-answered g c = λ before lists is many.
    let laws = open_laws c.logs_are_lists.ensures.placed c.one_list.ensures c.opening_is_safe.ensures.adds c.opening_is_safe.ensures.format c.upgrade_keeps.ensures c.images_of_settled.ensures c.logs_are_lists.ensures.at
    c.clear_is_safe.ensures.gives c.clear_is_safe.ensures.keeps c.upgrade_is_safe.ensures.gives c.upgrade_is_safe.ensures.keeps c.append_is_whole.ensures.gives c.append_is_whole.ensures.keeps
    c.few_may_be_appended.ensures.may in
    let logs = c.args.opened.now.logs.items in
    let found = c.args.opened.now.found in
    let set = c.args.set in
    is_refused laws before logs found set.head set.logs lists c.args.folded is many c.in-Some.no c.in-Some.ensures

pub returns-in-Some-clause-guarded : goal.returns-in-Some-clause-guarded
returns-in-Some-clause-guarded g c = λ before lists is many.
    let laws = open_laws c.logs_are_lists.ensures.placed c.one_list.ensures c.opening_is_safe.ensures.adds c.opening_is_safe.ensures.format c.upgrade_keeps.ensures c.images_of_settled.ensures c.logs_are_lists.ensures.at
    c.clear_is_safe.ensures.gives c.clear_is_safe.ensures.keeps c.upgrade_is_safe.ensures.gives c.upgrade_is_safe.ensures.keeps c.append_is_whole.ensures.gives c.append_is_whole.ensures.keeps
    c.few_may_be_appended.ensures.may in
    let logs = c.args.opened.now.logs.items in
    let found = c.args.opened.now.found in
    let set = c.args.set in
    refused_guarded laws before logs found set.head set.logs lists c.args.folded is many

-- ---- the checkpoint is written

pub returns-in-Ok-clause-answered : goal.returns-in-Ok-clause-answered
returns-in-Ok-clause-answered g c = λ before lists is many.
    let laws = open_laws c.logs_are_lists.ensures.placed c.one_list.ensures c.opening_is_safe.ensures.adds c.opening_is_safe.ensures.format c.upgrade_keeps.ensures c.images_of_settled.ensures c.logs_are_lists.ensures.at
    c.clear_is_safe.ensures.gives c.clear_is_safe.ensures.keeps c.upgrade_is_safe.ensures.gives c.upgrade_is_safe.ensures.keeps c.append_is_whole.ensures.gives c.append_is_whole.ensures.keeps
    c.few_may_be_appended.ensures.may in
    let logs = c.args.opened.now.logs.items in
    let found = c.args.opened.now.found in
    let set = c.args.set in (
      c.args.folded.generation + 1,
      c.in-Ok.ensures.line,
      is_compacted laws before logs found set.head set.logs lists c.args.folded is many c.tell_and_write.new.logs.items c.in-None.ensures c.requires.side c.requires.some c.tell_and_write.ensures.written c.in-Ok.ensures.done (c.requires.records c.in-None.ensures.unspent),
    )

pub returns-in-Ok-clause-guarded : goal.returns-in-Ok-clause-guarded
returns-in-Ok-clause-guarded g c = λ before lists is many.
    let laws = open_laws c.logs_are_lists.ensures.placed c.one_list.ensures c.opening_is_safe.ensures.adds c.opening_is_safe.ensures.format c.upgrade_keeps.ensures c.images_of_settled.ensures c.logs_are_lists.ensures.at
    c.clear_is_safe.ensures.gives c.clear_is_safe.ensures.keeps c.upgrade_is_safe.ensures.gives c.upgrade_is_safe.ensures.keeps c.append_is_whole.ensures.gives c.append_is_whole.ensures.keeps
    c.few_may_be_appended.ensures.may in
    let logs = c.args.opened.now.logs.items in
    let found = c.args.opened.now.found in
    let set = c.args.set in
    written_guarded laws before logs found set.head set.logs lists c.args.folded is many c.tell_and_write.new.logs.items c.in-None.ensures

-- ---- or it is not

pub returns-in-Err-clause-answered : goal.returns-in-Err-clause-answered
returns-in-Err-clause-answered g c = λ before lists is many.
    let laws = open_laws c.logs_are_lists.ensures.placed c.one_list.ensures c.opening_is_safe.ensures.adds c.opening_is_safe.ensures.format c.upgrade_keeps.ensures c.images_of_settled.ensures c.logs_are_lists.ensures.at
    c.clear_is_safe.ensures.gives c.clear_is_safe.ensures.keeps c.upgrade_is_safe.ensures.gives c.upgrade_is_safe.ensures.keeps c.append_is_whole.ensures.gives c.append_is_whole.ensures.keeps
    c.few_may_be_appended.ensures.may in
    let logs = c.args.opened.now.logs.items in
    let found = c.args.opened.now.found in
    let set = c.args.set in
    is_not_told laws before logs found set.head set.logs lists c.args.folded is many c.tell_and_write.new.logs.items c.in-None.ensures c.requires.side c.requires.some c.tell_and_write.ensures.written c.in-Err.no c.in-Err.ensures.cause

pub returns-in-Err-clause-guarded : goal.returns-in-Err-clause-guarded
returns-in-Err-clause-guarded g c = λ before lists is many.
    let laws = open_laws c.logs_are_lists.ensures.placed c.one_list.ensures c.opening_is_safe.ensures.adds c.opening_is_safe.ensures.format c.upgrade_keeps.ensures c.images_of_settled.ensures c.logs_are_lists.ensures.at
    c.clear_is_safe.ensures.gives c.clear_is_safe.ensures.keeps c.upgrade_is_safe.ensures.gives c.upgrade_is_safe.ensures.keeps c.append_is_whole.ensures.gives c.append_is_whole.ensures.keeps
    c.few_may_be_appended.ensures.may in
    let logs = c.args.opened.now.logs.items in
    let found = c.args.opened.now.found in
    let set = c.args.set in
    written_guarded laws before logs found set.head set.logs lists c.args.folded is many c.tell_and_write.new.logs.items c.in-None.ensures
