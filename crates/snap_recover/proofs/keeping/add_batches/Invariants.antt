use Rattle.std.proofs.Common.{take}
use Rattle.snap_recover.specs.Passes.{IsBatchSpot, AddsSpots}
use Rattle.snap_recover.proofs.keeping.add_batches.Given as goal

abbrev pub invariant-loop-i : goal.invariant-loop-i
invariant-loop-i l = AddsSpots IsBatchSpot (take l.i l.bids) l.initial.spots.items l.spots.items
