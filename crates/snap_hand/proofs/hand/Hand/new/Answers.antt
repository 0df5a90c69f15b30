use Rattle.std.proofs.Common.{None, length, replicate, sym, ap, subst, ◌∙◌}
use Rattle.snap_hand.specs.Hands.{Fits}
use Rattle.snap_hand.proofs.PartsFit.{none_is, nothing_fits}
use Rattle.snap_hand.proofs.hand.Hand.new.Goals as goal

pub returns-clause-none : goal.returns-clause-none
returns-clause-none c = none_is (λ l. l.value.log) (λ x. x.value.cell) c.in_ok-logs.logs.items c.in_ok-cells.cells.items c.args.tables.now.work.logs (length c.args.tables.now.opening.states) c.in_ok-logs.ensures (c.in_ok-cells.ensures ∙ ap (λ n. replicate n None) c.len.ensures)

pub returns-clause-fits : goal.returns-clause-fits
returns-clause-fits c s =
    subst (λ h. Fits h s) (sym (none_is (λ l. l.value.log) (λ x. x.value.cell) c.in_ok-logs.logs.items c.in_ok-cells.cells.items c.args.tables.now.work.logs (length c.args.tables.now.opening.states) c.in_ok-logs.ensures (c.in_ok-cells.ensures ∙ ap (λ n. replicate n None) c.len.ensures)))
    (nothing_fits c.args.tables.now.work.logs (length c.args.tables.now.opening.states) s)
