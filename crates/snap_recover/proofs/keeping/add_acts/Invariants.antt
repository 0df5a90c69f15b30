use Rattle.std.proofs.Common.{take}
use Rattle.snap_recover.specs.Passes.{IsActSpot, AddsSpots}
use Rattle.snap_recover.proofs.keeping.add_acts.Given as goal

abbrev pub invariant-loop-i : goal.invariant-loop-i
invariant-loop-i l = AddsSpots (IsActSpot l.logs) (take l.i l.tids) l.initial.spots.items l.spots.items
