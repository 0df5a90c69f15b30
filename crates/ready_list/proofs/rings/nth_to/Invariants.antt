use Rattle.std.proofs.Common.{◌≡◌, ℕ, ◌+◌, ◌≤◌, ◌^◌, ◌<◌, length, take}
use Rattle.std.specs.List.{slice_get}
use Rattle.ready_list.specs.Rings.{all_events}
use Rattle.ready_list.proofs.rings.nth_to.Given as goal

-- as many stand behind it in the rings ahead of this place
abbrev pub invariant-loop-k : goal.invariant-loop-k
invariant-loop-k l = (l.k ≤ length l.kinds) × ((n : ℕ) → n + l.behind + 1 ≡ length (all_events l.kinds)
    → (n + l.left + 1 ≡ length (all_events (take l.k l.kinds))) × (slice_get (all_events l.kinds) n ≡ slice_get (all_events (take l.k l.kinds)) n))

abbrev pub decreases-loop-k : goal.decreases-loop-k
decreases-loop-k l = l.k
