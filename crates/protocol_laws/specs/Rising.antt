-- Places of what committed: they differ, and on each actor they rise in the order of commits.
use Rattle.std.specs.Prelude.{◌≡◌, ℕ, ◌<◌, true, false, not, Bool, ◌⊎◌, is_some, List, [], ◌∷◌, map, filter, ⊤}
use Rattle.std.specs.List.{AllByRecursion}
use Rattle.protocol.specs.Parts.{Batch}
use Rattle.protocol.specs.Words.{greatest, is_open}
use Rattle.protocol.specs.History.{Done}
use Rattle.protocol.specs.Chains.{is_place_below}

-- a transaction that committed came to the actor
abbrev pub visits : ℕ → Done → Bool
visits a d = is_some (d.views a)

abbrev pub visitors : ℕ → List Done → List Done
visitors a ds = filter (visits a) ds

-- the first number of its place: of a PACT its batch, of an ACT its before number
abbrev pub first_number_of : Done → ℕ
first_number_of d = d.place.batch.0

-- of this kind: readers, or others
abbrev pub is_as : Bool → Done → Bool
is_as true d = d.reader
is_as false d = not d.reader

-- the greatest of those of all of one kind that came to the actor
abbrev pub highest : Bool → ℕ → List Done → ℕ
highest r a ds = greatest (map first_number_of (filter (is_as r) (visitors a ds)))

-- of every two, one place is below the other one
abbrev pub PlacesDiffer : List Done → Type 0
PlacesDiffer [] = ⊤
PlacesDiffer (d ∷ ds) = AllByRecursion (λ e. (is_place_below d.place e.place ≡ true) ⊎ (is_place_below e.place d.place ≡ true)) ds × PlacesDiffer ds

-- every batch that may still commit is above the number
abbrev pub OpenAbove : ℕ → List Batch → Type 0
OpenAbove n batches = AllByRecursion (λ b. is_open b ≡ true → n < b.bid) batches
