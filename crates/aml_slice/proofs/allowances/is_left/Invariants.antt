use Rattle.std.proofs.Common.{drop}
use Rattle.aml_slice.specs.Controls.{IsCallLeft}
use Rattle.aml_slice.proofs.allowances.is_left.Given as goal

-- what is left is left behind this place
abbrev pub invariant-loop-one : goal.invariant-loop-one
invariant-loop-one l = IsCallLeft l.uses l.actor → IsCallLeft (drop l.one-index l.uses) l.actor
