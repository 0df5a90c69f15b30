use Rattle.std.proofs.Common.{◌≡◌, ◌+◌, ◌++◌, map, reverse, vec_len, vec_capacity, Some}
use Rattle.turn_table.proofs.opens.slots_of.Given as goal

abbrev pub invariant-loop-part : goal.invariant-loop-part
invariant-loop-part g l = (map Some l.initial.parts.items ≡ map Some l.parts.items ++ reverse l.slots.items)
    × (vec_len l.slots + vec_len l.parts ≡ vec_len l.initial.parts)
    × (vec_capacity l.slots ≡ vec_len l.initial.parts)
    × (vec_capacity l.parts ≡ vec_capacity l.initial.parts)

abbrev pub decreases-loop-part : goal.decreases-loop-part
decreases-loop-part g l = vec_len l.parts
