use Rattle.std.proofs.Common.{◌≡◌, Some, map, take}
use Rattle.std.specs.Vec.{vec_capacity, vec_len}
use Rattle.snap_hand.specs.Hands.{IsHandOf}
use Rattle.snap_hand.specs.Shown.{places, shown}
use Rattle.snap_hand.specs.Tables.{fixed_of}
use Rattle.snap_core.proofs.Together.{AreOut, RestStands}
use Rattle.snap_core.proofs.parting.all_parts.Given as goal

abbrev pub invariant-loop-i : goal.invariant-loop-i
invariant-loop-i l = record {
  rest : RestStands l.fn.whole l.i l.hand;
  taken : map Some (map shown l.parts.items) ≡ take l.i (places l.fn.whole);
  len : vec_len l.parts ≡ l.i;
  room : vec_capacity l.parts ≡ vec_capacity l.fn.room;
  hand : IsHandOf (fixed_of l.fn.tables) l.hand;
  out : AreOut l.i l.hand;
}
