use Rattle.std.specs.List.{flat_map}
use Rattle.protocol.specs.Words.{below}
use Rattle.ready_listing.specs.Listed.{Adds, of_log}
use Rattle.ready_listing.proofs.of_others.list_logs.Given as goal

abbrev pub invariant-loop-l : goal.invariant-loop-l
invariant-loop-l l = Adds l.initial.events.items l.events.items (flat_map of_log (below l.l))
