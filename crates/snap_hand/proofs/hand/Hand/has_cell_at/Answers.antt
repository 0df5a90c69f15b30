use Rattle.std.proofs.Common.{is_some, map, slice_get, sym, ap, ◌∙◌}
use Rattle.snap_hand.specs.Hands.{is_not_out}
use Rattle.snap_hand.proofs.Held.{shown_none, shown_some}
use Rattle.snap_hand.proofs.hand.Hand.has_cell_at.Goals as goal

pub returns-in-Some : goal.returns-in-Some
returns-in-Some c =
    c.is_some.ensures
    ∙ ap is_not_out (sym (shown_some (λ x. x.value.cell) c.self.inside.cells.items c.deref.result.now c.args.a c.in-Some.cell.now c.deref.ensures.value c.in-Some.ensures.lookup.0 c.in-Some.ensures.lookup.1)
    ∙ ap (λ h. slice_get (map is_some h.cells) c.args.a) c.self.view_is)

pub returns-in-None : goal.returns-in-None
returns-in-None c =
    ap is_not_out (sym (shown_none (λ x. x.value.cell) c.self.inside.cells.items c.deref.result.now c.args.a c.deref.ensures.value c.in-None.ensures.lookup.0)
    ∙ ap (λ h. slice_get (map is_some h.cells) c.args.a) c.self.view_is)
