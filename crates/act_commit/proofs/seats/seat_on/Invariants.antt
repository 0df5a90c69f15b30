use Rattle.std.proofs.Common.{◌≡◌, find, drop}
use Rattle.std.specs.Prelude.{◌==◌}
use Rattle.act_commit.proofs.seats.seat_on.Given as goal

abbrev pub invariant-loop-seat : goal.invariant-loop-seat
invariant-loop-seat l = find (λ p. p.actor == l.actor.0) (drop l.seat-index l.seats) ≡ find (λ p. p.actor == l.actor.0) l.seats
