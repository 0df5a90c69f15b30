-- What is left of a declaration behind a call.
use Rattle.std.specs.Prelude.{◌≡◌, ℕ, Bool, true, false, Some, None, List}
use Rattle.snap_base.specs.declared.ids.ActorId.{ActorId}
use Rattle.aml_check.specs.Meaning.{used}

-- whether a call of the actor was left: then it is taken, and else nothing has changed
abbrev pub IsTaken : ℕ → List (ActorId × ℕ) → List (ActorId × ℕ) → Bool → Type 0
IsTaken actor before after true = used actor before ≡ Some after
IsTaken actor before after false = (used actor before ≡ None) × (after ≡ before)
