use Rattle.std.proofs.Common.{List, ap, sym, ◌∙◌}
use Rattle.std.proofs.lemmas.List.{take_all}
use Rattle.txn_records.specs.declared.records.Record.{Record}
use Rattle.std.specs.List.{filter}
use Rattle.snap_follow.specs.Passes.{is_chosen}
use Rattle.snap_follow.proofs.Chosen.{chosen_in, chosen_out}
use Rattle.snap_follow.proofs.choosing.chosen_of.Goals as goal
use Rattle.snap_follow.proofs.choosing.chosen_of.Goals.{then-stays+in_ok-copy+in_ok-push, else-stays}

pub loop-r-preserved : goal.loop-r-preserved
loop-r-preserved c =
    elim c.if-stays.branch [
      | then-stays+in_ok-copy+in_ok-push w ↦
          chosen_in (is_chosen c.args.set.now) c.args.rs.now c.loop-r.r-index c.r-item.result w.in_ok-copy.copy c.loop-r.some c.if-stays.some c.loop-r-test.true c.r-item.is (sym c.stays.ensures ∙ w.if-stays.true) w.in_ok-copy.ensures
          (w.some-is ∙ w.in_ok-push.ensures) c.loop-r.invariant
      | else-stays w ↦
          w.some-is ∙ chosen_out (is_chosen c.args.set.now) c.args.rs.now c.loop-r.r-index c.r-item.result c.loop-r.some c.loop-r-test.true c.r-item.is (sym c.stays.ensures ∙ w.if-stays.false) c.loop-r.invariant
    ]

pub returns : goal.returns
returns c = c.loop-r.invariant ∙ ap (λ (z : List Record). filter (is_chosen c.args.set.now) z) (take_all c.loop-r.r-index c.args.rs.now c.loop-r-test.false)
