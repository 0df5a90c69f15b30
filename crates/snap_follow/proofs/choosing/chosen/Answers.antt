use Rattle.std.proofs.Common.{List, ap, ◌∙◌}
use Rattle.std.proofs.lemmas.List.{take_all}
use Rattle.txn_records.specs.declared.records.Record.{Record}
use Rattle.std.specs.List.{filter}
use Rattle.snap_follow.specs.Passes.{is_chosen, chosen_lists}
use Rattle.snap_follow.proofs.Chosen.{chosen_more}
use Rattle.snap_follow.proofs.choosing.chosen.Goals as goal

pub loop-rs-preserved : goal.loop-rs-preserved
loop-rs-preserved c =
    chosen_more c.args.set.now c.args.lists.now c.loop-rs.rs-index c.rs-item.result c.in_ok-next.next c.loop-rs.some c.push.new.self c.loop-rs-test.true c.rs-item.is
    (c.in_ok-next.ensures ∙ ap (filter (is_chosen c.args.set.now)) c.as_slice.ensures) c.in_ok-push.ensures c.loop-rs.invariant

pub returns : goal.returns
returns c = c.loop-rs.invariant ∙ ap (λ (z : List (List Record)). chosen_lists c.args.set.now z) (take_all c.loop-rs.rs-index c.args.lists.now c.loop-rs-test.false)
