use Rattle.std.specs.List.{flat_map}
use Rattle.std.proofs.Common.{map, take}
use Rattle.snap_base.specs.declared.ids.Bid.{Bid}
use Rattle.ready_listing.specs.Listed.{Adds, of_incomplete}
use Rattle.ready_listing.proofs.of_cells.list_incomplete.Given as goal

abbrev pub invariant-loop-k : goal.invariant-loop-k
invariant-loop-k l = Adds l.initial.events.items l.events.items (flat_map (of_incomplete l.a.0) (map (λ (k : Bid). k.0) (take l.k-index l.bids)))
