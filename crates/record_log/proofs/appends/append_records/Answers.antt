use Rattle.std.proofs.Common.{◌∙◌}
use Rattle.record_log.proofs.Appending.{no_crash_of_records, ops_at, ends_at, grown_at}
use Rattle.record_log.proofs.appends.append_records.Goals as goal

pub returns-in_default-clause-crashes : goal.returns-in_default-clause-crashes
returns-in_default-clause-crashes g c =
    no_crash_of_records c.logs_are_lists.ensures.at c.images_of_settled.ensures c.args.log.now.told c.args.log.now.end c.args.records.now

pub returns-clause-ops : goal.returns-clause-ops
returns-clause-ops g c =
    ops_at c.append.result c.args.log.now.told c.append.new.self.told c.args.log.now.end c.args.records.now c.as_slice.result.now
    (c.as_slice.ensures ∙ c.in-Ok.ensures.items) c.append.ensures.ops

pub returns-clause-end : goal.returns-clause-end
returns-clause-end g c =
    ends_at c.append.result c.args.log.now.end c.append.new.self.end c.args.records.now c.as_slice.result.now
    (c.as_slice.ensures ∙ c.in-Ok.ensures.items) c.append.ensures.grown

pub returns-clause-grown : goal.returns-clause-grown
returns-clause-grown g c = λ some.
    grown_at c.append.result c.args.log.now.end c.append.new.self.end c.args.records.now c.as_slice.result.now
    (c.as_slice.ensures ∙ c.in-Ok.ensures.items) some c.append.ensures.grown
