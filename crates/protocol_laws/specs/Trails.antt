-- The slices of a transaction so far explain it, in every world in which they run.
-- Only proofs cite this; the rule is `OrderHolds` (Order).
use Rattle.std.specs.Prelude.{◌≡◌, ℕ, ◌<◌, ◌==◌, if◌then◌else◌, List, [], ◌∷◌, length, slice_set, ⊤}
use Rattle.snap_base.specs.declared.transactions.State.{State}
use Rattle.snap_base.specs.declared.transactions.Tx.{Tx}
use Rattle.protocol.specs.Fixed.{Fixed, Next, Go, Ended, tx_at}
use Rattle.protocol.specs.Facts.{Alone, state_in, rest_of}
use Rattle.protocol.specs.History.{Step, Trail, Slice}

-- in this world each step finds what it found
abbrev pub Walks : List Step → List State → Type 0
Walks [] world = ⊤
Walks (x ∷ xs) world = (state_in world x.actor ≡ x.found) × Walks xs (slice_set world x.actor x.left)

abbrev pub walked : List Step → List State → List State
walked [] world = world
walked (x ∷ xs) world = walked xs (slice_set world x.actor x.left)

-- a rest of this transaction, that stands where it goes
abbrev pub IsOf : {C : Type 0} → Fixed C → (Tx → C → Type 0) → Tx → Next C → Type 0
IsOf w Of tx (Go b c) = Of tx c × (w.code.at c ≡ b) × (b < length w.text.opening.states)
IsOf w Of tx (Ended r) = ⊤

pub record Explained {C : Type 0} (w : Fixed C) (Of : Tx → C → Type 0) (finish : C → List State → Alone) (trail : Trail) (t : ℕ) (n : Next C) : Type 0 where
  pub of_it : IsOf w Of (tx_at w.text trail.tx) n
  pub meaning : (world : List State) → length world ≡ length w.text.opening.states → Walks trail.steps world → finish (w.code.start t (tx_at w.text trail.tx)) world ≡ rest_of finish n (walked trail.steps world)

-- what a trail did on one actor
abbrev pub on_actor : ℕ → ℕ → List Step → List Slice
on_actor a t [] = []
on_actor a t (x ∷ xs) = if x.actor == a then record { tid = t; found = x.found; left = x.left } ∷ on_actor a t xs else on_actor a t xs
