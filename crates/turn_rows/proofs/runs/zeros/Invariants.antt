use Rattle.std.proofs.Common.{◌≡◌, replicate}
use Rattle.turn_rows.specs.Changes.{zero_counter}
use Rattle.turn_rows.proofs.runs.zeros.Given as goal

abbrev pub invariant-loop : goal.invariant-loop
invariant-loop l = l.counters.items ≡ replicate l.counter zero_counter
