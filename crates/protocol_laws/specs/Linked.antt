-- Committed transactions that link: who came to an actor, worlds that agree with what a transaction found, and what
-- explains it.
-- Only proofs cite this; the rule is `OrderHolds` (Order).
use Rattle.std.specs.Prelude.{◌≡◌, ℕ, ◌<◌, ◌⊎◌, true, Some, is_some, Option, Bool, List, [], ◌∷◌, length, filter, ⊤}
use Rattle.std.specs.List.{AllByRecursion}
use Rattle.snap_base.specs.declared.transactions.State.{State}
use Rattle.protocol.specs.Fixed.{Fixed, tx_at}
use Rattle.protocol.specs.Facts.{Alone, alone, state_in}
use Rattle.protocol.specs.History.{View, Done}
use Rattle.protocol_laws.specs.Commits.{Finds, left_of}
use Rattle.protocol.specs.Chains.{is_place_below}

-- ---- those that came to an actor

abbrev pub came_to : ℕ → Done → Bool
came_to a d = is_some (d.views a)

abbrev pub visitors : ℕ → List Done → List Done
visitors a ds = filter (came_to a) ds

-- ---- one transaction alone

-- on each actor that was visited the world has the state that was found
abbrev pub Agrees : (ℕ → Option View) → List State → Type 0
Agrees views world = (a : ℕ) → a < length world → Finds (views a) (state_in world a)

-- Alone on this world it gives the result that it had, and leaves on each actor what it left.
pub record Explains {C : Type 0} (w : Fixed C) (finish : C → List State → Alone) (d : Done) (world : List State) : Type 0 where
  pub result : Some (alone w.code finish world (tx_at w.text d.tx)).result ≡ d.result
  pub as_many : length (alone w.code finish world (tx_at w.text d.tx)).world ≡ length world
  pub leaves : (a : ℕ) → a < length world → state_in (alone w.code finish world (tx_at w.text d.tx)).world a ≡ left_of a d (state_in world a)

-- The transaction is explained on any world with the states that it found.
abbrev pub IsExplained : {C : Type 0} → Fixed C → (C → List State → Alone) → Done → Type 0
IsExplained w finish d = (world : List State) → length world ≡ length w.text.opening.states → Agrees d.views world → Explains w finish d world

-- ---- places

-- of every two, one place is below the other one
abbrev pub PlacesDiffer : List Done → Type 0
PlacesDiffer [] = ⊤
PlacesDiffer (d ∷ ds) = AllByRecursion (λ e. (is_place_below d.place e.place ≡ true) ⊎ (is_place_below e.place d.place ≡ true)) ds × PlacesDiffer ds
