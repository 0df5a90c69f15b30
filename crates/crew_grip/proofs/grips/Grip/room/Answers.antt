use Rattle.std.proofs.Common.{Err, ap, arith}
use Rattle.crew_grip.proofs.grips.Grip.room.Goals as goal

pub unreachable-requires : goal.unreachable-requires
unreachable-requires g c =
    let full = (c.in-Err-Full.ensures.full _).0 (ap Err c.in-Err-Full.field-0-is) in
    omega (arith, full.0, full.1, c.leaves_room.ensures)
