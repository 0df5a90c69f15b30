use Rattle.std.proofs.Common.{◌<◌, Some, is_some, length, map, slice_get, sym, ap, subst, ◌∙◌}
use Rattle.snap_hand.proofs.Held.{shown_read}
use Rattle.snap_hand.proofs.hand.Hand.has_log_at.Goals as goal

pub returns : goal.returns
returns c =
    ap (λ h. slice_get (map is_some h.logs) c.args.l) (sym c.self.view_is)
    ∙ (shown_read (λ x. x.value.log) c.self.inside.logs.items c.args.l c.index.result.now (subst (λ h. c.args.l < length h.logs) (sym c.self.view_is) c.requires) c.index.ensures
    ∙ ap Some (sym c.is_some.ensures))
