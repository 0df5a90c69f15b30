use Rattle.std.specs.List.{list_all}
use Rattle.std.proofs.Common.{◌≡◌, true, take}
use Rattle.snap_hand.specs.Hands.{is_at_hand}
use Rattle.ready_listing.proofs.choosing.has_footprint.Given as goal

abbrev pub invariant-loop-i : goal.invariant-loop-i
invariant-loop-i l = list_all (is_at_hand l.hand) (take l.i l.parts) ≡ true
