use Rattle.std.proofs.Common.{sym, ◌∙◌}
use Rattle.aml_slice.proofs.Askings.{any_contains, contains_any}
use Rattle.aml_slice.proofs.allowances.Allowance.has_called.Goals as goal

pub returns : goal.returns
returns c = (
  λ h. any_contains c.args.actor c.args.self.now.actors.items (rw c.deref.ensures.value at (sym c.is_called.ensures ∙ h)),
  λ h. c.is_called.ensures ∙ rw c.deref.ensures.value (contains_any c.args.actor c.args.self.now.actors.items h),
)
