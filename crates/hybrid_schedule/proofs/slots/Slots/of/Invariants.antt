use Rattle.std.proofs.Common.{◌≡◌, ◌≤◌, true, length, map, take}
use Rattle.std.specs.Prelude.{vec_capacity}
use Rattle.protocol.specs.OnCell.{not_done}
use Rattle.protocol.specs.Meant.{tid_number}
use Rattle.hybrid_schedule.specs.Slots.{are_within}
use Rattle.hybrid_schedule.proofs.slots.Slots.of.Given as goal

abbrev pub invariant-loop-t : goal.invariant-loop-t
invariant-loop-t l = record {
  items : l.items.items ≡ map not_done (map tid_number (take l.t-index l.tids));
  fits : length l.tids ≤ vec_capacity l.items;
  within : are_within l.least l.greatest l.items.items ≡ true;
}
