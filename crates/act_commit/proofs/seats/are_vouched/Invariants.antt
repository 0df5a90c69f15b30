use Rattle.std.proofs.Common.{◌≡◌, drop}
use Rattle.std.specs.List.{list_all}
use Rattle.act_commit.proofs.seats.are_vouched.Given as goal

abbrev pub invariant-loop-seat : goal.invariant-loop-seat
invariant-loop-seat l = list_all (λ p. p.vouched) (drop l.seat-index l.seats) ≡ list_all (λ p. p.vouched) l.seats
