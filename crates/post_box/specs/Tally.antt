-- How many of the sub-batches under way go to each actor.
use Rattle.std.specs.Prelude.{ℕ, ◌+◌, ◌==◌, ◌<◌, ◌≤◌, List, length, filter, slice_index}
use Rattle.post_box.specs.declared.keys.SubKey.{SubKey}
use Rattle.post_box.specs.declared.kept.SubRest.{SubRest}

abbrev pub count_to : ℕ → List (SubKey × SubRest) → ℕ
count_to a es = length (filter (λ e. e.0.actor.0 == a) es)

-- for each of the first actors a number that is no less
abbrev pub IsTally : List ℕ → List (SubKey × SubRest) → Type 0
IsTally counts es = (a : ℕ) → a < length counts → count_to a es ≤ slice_index counts a

-- fewer are left to this actor, and to none are more
pub record IsLeftOf (a : ℕ) (es left : List (SubKey × SubRest)) : Type 0 where
  pub fewer : count_to a left + 1 ≤ count_to a es
  pub others : (k : ℕ) → count_to k left ≤ count_to k es
