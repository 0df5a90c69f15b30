use Rattle.std.proofs.Common.{rules, arith}
use Rattle.turn_table.proofs.Seats.{split_allowed}
use Rattle.turn_table.proofs.turns.Turns.split.Goals as goal

pub split_seat-seat-requires : goal.split_seat-seat-requires
split_seat-seat-requires g c = (search rules, omega arith, split_allowed _ _ _ _ _ c.requires.left)
