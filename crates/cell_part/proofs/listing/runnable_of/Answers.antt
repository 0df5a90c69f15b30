use Rattle.std.proofs.lemmas.List.{get_or_default}
use Rattle.protocol.specs.Meant.{tid_number}
use Rattle.hybrid_schedule.specs.Schedules.{can_run}
use Rattle.cell_part.proofs.Filtering.{filters_more, filters_all}
use Rattle.cell_part.proofs.listing.runnable_of.Goals as goal

pub loop-t-preserved : goal.loop-t-preserved
loop-t-preserved c =
    filters_more (λ t. can_run t c.args.schedule.now.schedule.entries) tid_number c.args.waiting.now c.loop-t.t-index _ _ _
    c.loop-t-test.true (get_or_default c.args.waiting.now c.loop-t.t-index _ _ c.loop-t-test.true) c.loop-t.invariant c.in_ok-add_runnable.ensures

pub returns : goal.returns
returns c = filters_all (λ t. can_run t c.args.schedule.now.schedule.entries) tid_number c.args.waiting.now c.loop-t.t-index _ c.loop-t-test.false c.loop-t.invariant
