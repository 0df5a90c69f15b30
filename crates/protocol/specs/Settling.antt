-- Batches settle in the order of their numbers, and cascades take the rest along.
use Rattle.std.specs.Prelude.{◌≡◌, ℕ, ◌+◌, ◌<◌, ◌≤◌, max, true, ◌||◌, List, [], ◌∷◌, map, filter, ⊤}
use Rattle.std.specs.List.{AllByRecursion}
use Rattle.protocol.specs.Fixed.{Fixed, base}
use Rattle.protocol.specs.Parts.{Cascade, Batch, Machine}
use Rattle.protocol.specs.Words.{greatest, is_aborted, is_formed, is_committing, is_settled}

-- every batch below the number is settled or aborted
abbrev pub AllOverBelow : ℕ → List Batch → Type 0
AllOverBelow k batches = AllByRecursion (λ b. b.bid < k → (b.aborted || is_settled b.stage) ≡ true) batches

-- from a number on, each cascade begins above the one before it ended
abbrev pub CascadesAscend : ℕ → List Cascade → Type 0
CascadesAscend low [] = ⊤
CascadesAscend low (c ∷ cs) = (low ≤ c.first) × (c.first ≤ c.upto) × CascadesAscend (c.upto + 1) cs

pub record BatchesSettleInOrder {C : Type 0} (w : Fixed C) (s : Machine C) : Type 0 where
  -- a batch is marked aborted exactly where a cascade covers it, and is then no further than formed
  pub marked : AllByRecursion (λ b. b.aborted ≡ is_aborted b.bid s.book.cascades) s.desk.batches
  pub aborted_is_formed : AllByRecursion (λ b. b.aborted ≡ true → is_formed b.stage ≡ true) s.desk.batches
  -- the greatest settled number, or base
  pub settled_is : s.desk.settled ≡ max (base w.text) (greatest (map (λ b. b.bid) (filter (λ b. is_settled b.stage) s.desk.batches)))
  -- all is over up to the last settled one, below one that commits, and below a cascade
  pub below_settled : AllOverBelow (s.desk.settled + 1) s.desk.batches
  pub below_committing : AllByRecursion (λ b. is_committing b.stage ≡ true → AllOverBelow b.bid s.desk.batches) s.desk.batches
  pub below_cascades : AllByRecursion (λ c. AllOverBelow c.first s.desk.batches) s.book.cascades
  pub cascades_ascend : CascadesAscend w.text.opening.next_bid s.book.cascades
