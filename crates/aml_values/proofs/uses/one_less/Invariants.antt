use Rattle.std.proofs.Common.{◌≡◌, take, drop}
use Rattle.aml_check.specs.Meaning.{used}
use Rattle.aml_values.proofs.Declared.{prepend}
use Rattle.aml_values.proofs.uses.one_less.Given as goal

abbrev pub invariant-loop-at : goal.invariant-loop-at
invariant-loop-at l = (used l.actor l.uses ≡ prepend (take l.at l.uses) (used l.actor (drop l.at l.uses))) × (l.uses ≡ l.initial.uses)
