-- Who was placed on an actor, in which order, beside who stands there and what committed.
-- Only proofs cite this; the rule is `OrderHolds` (Order).
use Rattle.std.specs.Prelude.{◌≡◌, ◌⊎◌, ℕ, Bool, true, false, ◌||◌, List, [], ◌∷◌, filter, ◌&&◌, not, ⊤}
use Rattle.std.specs.List.{list_any, flat_map}
use Rattle.protocol.specs.Parts.{Who}
use Rattle.protocol.specs.Words.{is_who}
use Rattle.protocol.specs.History.{Done}
use Rattle.protocol.specs.Chains.{stands_for}
use Rattle.protocol_laws.specs.Commits.{is_kept}
use Rattle.protocol_laws.specs.Tracks.{Key, is_key_among}
use Rattle.protocol_theorems.specs.Order.{Shuffled}
use Rattle.protocol_laws.specs.Linked.{visitors}

abbrev pub is_placed : Who → List Who → Bool
is_placed who placed = list_any (λ y. is_who y who) placed

-- nobody twice
abbrev pub PlacedOnce : List Who → Type 0
PlacedOnce [] = ⊤
PlacedOnce (y ∷ ys) = (is_placed y ys ≡ false) × PlacedOnce ys

-- who stands there was placed, in the same order
abbrev pub InOrderOf : List Who → List Key → Type 0
InOrderOf [] [] = ⊤
InOrderOf [] (k ∷ ks) = ⊥
InOrderOf (y ∷ ys) [] = ⊤
InOrderOf (y ∷ ys) (k ∷ ks) = ((k.who ≡ y) × InOrderOf ys ks) ⊎ InOrderOf ys (k ∷ ks)

-- it is one of what committed
abbrev pub has_done : List Done → Who → Bool
has_done ds who = list_any (λ d. is_who who d.who) ds

-- and came to this actor
abbrev pub is_done_at : ℕ → List Done → Who → Bool
is_done_at a ds who = list_any (stands_for a who) ds

-- and does not only read
abbrev pub is_other_at : ℕ → List Done → Who → Bool
is_other_at a ds who = list_any (λ d. stands_for a who d && not d.reader) ds

-- Ahead of one that committed and came there, each one that stands there has committed or only reads; and where the one behind
-- does not only read, each has committed.
abbrev pub DoneFront : ℕ → (Who → Bool) → List Who → List Done → List Key → List Who → Type 0
DoneFront a rd kept ds keys [] = ⊤
DoneFront a rd kept ds keys (y ∷ ys) =
    (list_any (is_done_at a ds) ys ≡ true → is_key_among y keys ≡ true → ((is_kept y kept || has_done ds y) || rd y) ≡ true)
    × (list_any (is_other_at a ds) ys ≡ true → is_key_among y keys ≡ true → (is_kept y kept || has_done ds y) ≡ true) × DoneFront a rd kept ds keys ys

-- what was placed, each with what committed for it there
abbrev pub walk : ℕ → List Done → List Who → List Done
walk a ds placed = flat_map (λ who. filter (stands_for a who) ds) placed

-- The order of placing is the order of commits, but that a reader may stand ahead of readers that committed before it.
pub record ChainIs (a : ℕ) (rd : Who → Bool) (kept : List Who) (ds : List Done) (placed : List Who) (keys : List Key) : Type 0 where
  pub once : PlacedOnce placed
  pub in_order : InOrderOf placed keys
  pub front : DoneFront a rd kept ds keys placed
  pub chain : Shuffled (walk a ds placed) (visitors a ds)
