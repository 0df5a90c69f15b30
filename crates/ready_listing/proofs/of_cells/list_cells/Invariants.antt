use Rattle.std.specs.List.{flat_map}
use Rattle.protocol.specs.Words.{below}
use Rattle.ready_listing.specs.Listed.{Adds, on_place}
use Rattle.ready_listing.proofs.of_cells.list_cells.Given as goal

abbrev pub invariant-loop-a : goal.invariant-loop-a
invariant-loop-a l = Adds l.initial.events.items l.events.items (flat_map (on_place l.hand) (below l.a))
