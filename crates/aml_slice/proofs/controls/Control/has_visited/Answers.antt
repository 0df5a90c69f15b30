use Rattle.std.proofs.Common.{sym, subst}
use Rattle.std.specs.List.{Contains}
use Rattle.aml_slice.specs.Controls.{Rest}
use Rattle.aml_slice.specs.declared.running.Running.{Running}
use Rattle.aml_slice.proofs.controls.Control.has_visited.Goals as goal

pub returns : goal.returns
returns c =
    let P : Rest → Type 0 = λ z. Contains z.actors c.args.actor.0 in
    let Q : Running → Type 0 = λ r. Contains r.allowance.actors.items c.args.actor.0 in
    (λ h. subst P c.self.view_is (subst Q c.deref.ensures (c.has_called.ensures.0 h)), λ h. c.has_called.ensures.1 (subst Q (sym c.deref.ensures) (subst P (sym c.self.view_is) h)))
