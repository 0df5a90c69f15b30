use Rattle.std.proofs.Common.{◌≡◌, length}
use Rattle.std.specs.List.{AllByRecursion}
use Rattle.audit_tale.specs.Stands.{IsUntouched}
use Rattle.audit_tale.proofs.told.untouched.Given as goal

abbrev pub invariant-loop-made : goal.invariant-loop-made
invariant-loop-made l = (length l.actors.items ≡ l._made) × AllByRecursion IsUntouched l.actors.items
