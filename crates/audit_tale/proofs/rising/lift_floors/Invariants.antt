use Rattle.std.proofs.Common.{◌≡◌, drop, map}
use Rattle.audit_tale.specs.Risen.{lifted_along}
use Rattle.audit_tale.specs.Stands.{actor_number}
use Rattle.audit_tale.proofs.rising.lift_floors.Given as goal

abbrev pub invariant-loop-actor : goal.invariant-loop-actor
invariant-loop-actor l = lifted_along (map actor_number (drop l.actor-index l.left)) l.number.0 l.reader l.actors.items ≡ lifted_along (map actor_number l.left) l.number.0 l.reader l.fn.actors.items
