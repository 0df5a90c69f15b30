use Rattle.std.proofs.Common.{◌≡◌, drop}
use Rattle.trace_audit.specs.Placed.{stands_at}
use Rattle.trace_audit.proofs.places.stands_at.Given as goal

abbrev pub invariant-loop-member : goal.invariant-loop-member
invariant-loop-member l = stands_at l.place (drop l.member-index l.group) ≡ stands_at l.place l.group
