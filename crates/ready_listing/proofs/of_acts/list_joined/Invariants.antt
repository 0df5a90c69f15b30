use Rattle.std.specs.List.{flat_map}
use Rattle.std.proofs.Common.{map, take}
use Rattle.protocol.specs.Meant.{actor_number}
use Rattle.ready_listing.specs.Listed.{Adds, of_joined}
use Rattle.ready_listing.proofs.of_acts.list_joined.Given as goal

abbrev pub invariant-loop-a : goal.invariant-loop-a
invariant-loop-a l = Adds l.initial.events.items l.events.items (flat_map (of_joined l.t.0) (map actor_number (take l.a-index l.actors)))
