use Rattle.std.proofs.Common.{◌≡◌, ◌+◌, ◌++◌, ◌≤◌, List, map, reverse, vec_len, vec_capacity, Some}
use Rattle.turn_table.proofs.opens.put_back.Given as goal

abbrev pub invariant-loop-slot : goal.invariant-loop-slot
invariant-loop-slot g l = (l.initial.slots.items ≡ l.slots.items ++ reverse (map Some l.parts.items))
    × (vec_len l.slots + vec_len l.parts ≤ vec_capacity l.parts)
    × ((ps : List _) × (l.slots.items ≡ map Some ps))

abbrev pub decreases-loop-slot : goal.decreases-loop-slot
decreases-loop-slot g l = vec_len l.slots
