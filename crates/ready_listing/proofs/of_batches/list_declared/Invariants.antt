use Rattle.std.specs.List.{flat_map}
use Rattle.std.proofs.Common.{map, take}
use Rattle.protocol.specs.Meant.{actor_number}
use Rattle.ready_listing.specs.Listed.{Adds, of_declared}
use Rattle.ready_listing.proofs.of_batches.list_declared.Given as goal

abbrev pub invariant-loop-a : goal.invariant-loop-a
invariant-loop-a l = Adds l.initial.events.items l.events.items (flat_map (of_declared l.k.0) (map actor_number (take l.a-index l.actors)))
