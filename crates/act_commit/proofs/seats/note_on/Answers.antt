use Rattle.std.proofs.Common.{◌<◌, length, get_or, arith}
use Rattle.std.proofs.lemmas.List.{get_or_default}
use Rattle.std.specs.Prelude.{◌==◌}
use Rattle.std.proofs.lemmas.List.Edits.{map_over_more}
use Rattle.protocol.specs.OnBook.{mark_if}
use Rattle.act_commit.specs.Changes.{marking_of}
use Rattle.act_commit.proofs.seats.note_on.Goals as goal

pub loop-seat-preserved : goal.loop-seat-preserved
loop-seat-preserved c =
    let x = get_or c.loop-seat.seats c.loop-seat.seat-index c.seat-item.result in
    let within : c.loop-seat.seat-index < length c.loop-seat.seats = omega arith in
    rw c.note.ensures
    (map_over_more (λ p. mark_if (p.actor == c.args.actor.0) (marking_of c.args.mark) p) c.args.seats.now c.loop-seat.seats c.loop-seat.seat-index x (omega arith) c.loop-seat.invariant (get_or_default c.loop-seat.seats c.loop-seat.seat-index c.seat-item.result x within))
