use Rattle.std.proofs.Common.{◌≡◌, map, take, drop, ◌++◌}
use Rattle.std.specs.Prelude.{◌==◌}
use Rattle.protocol.specs.OnBook.{mark_if}
use Rattle.act_commit.specs.Changes.{marking_of}
use Rattle.act_commit.proofs.seats.note_on.Given as goal

abbrev pub invariant-loop-seat : goal.invariant-loop-seat
invariant-loop-seat l =
    l.seats ≡ map (λ p. mark_if (p.actor == l.actor.0) (marking_of l.mark) p) (take l.seat-index l.initial.seats) ++ drop l.seat-index l.initial.seats
