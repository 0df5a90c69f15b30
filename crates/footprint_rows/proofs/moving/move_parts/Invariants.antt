use Rattle.std.proofs.Common.{take}
use Rattle.protocol.specs.Parts.{Machine}
use Rattle.aml_slice.specs.Controls.{Rest}
use Rattle.snap_hand.specs.Hands.{Fits, IsHandOf}
use Rattle.snap_hand.specs.Tables.{fixed_of}
use Rattle.footprint_rows.proofs.Moved.{AreGone}
use Rattle.footprint_rows.proofs.moving.move_parts.Given as goal

abbrev pub invariant-loop-n : goal.invariant-loop-n
invariant-loop-n l = record {
  gone : AreGone l.from (take l.n l.parts);
  from : IsHandOf (fixed_of l.tables) l.from;
  to : IsHandOf (fixed_of l.tables) l.to;
  fits : (s : Machine Rest) → Fits l.fn.from s → Fits l.fn.to s → Fits l.from s × Fits l.to s;
}
