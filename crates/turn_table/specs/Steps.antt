-- What each step tells its caller: of the seat before, the number found, and the seat after.
use Rattle.std.specs.Prelude.{◌≡◌, ◌≢◌, ℕ, suc, [], ◌∷◌, Option, Some, None}
use Rattle.atomic_table.specs.Table.{Me, Step}
use Rattle.turn_table.specs.declared.views.View.{View}
use Rattle.turn_table.specs.Places.{AllBefore}
use Rattle.turn_table.specs.Views.{handed, gained, lost, refused}

module _ {P E : Type 0} where
  -- the turn of part i was free, and is held now, with its slot out; or it was held
  abbrev pub took : (View P E → Type 0) → Step (Option P) → Me (Option P) (View P E) → ℕ → Me (Option P) (View P E) → Type 0
  took facts s me n after =
      (i : ℕ) → s.word ≡ suc i
      → (n ≡ 0 → (p : P) × (count : ℕ) × (after ≡ (handed (gained me.0 i p count) (suc i), (i, Some p) ∷ [])) × facts (gained me.0 i p count))
      × (n ≢ 0 → after ≡ (refused me.0, []))

  -- no slot is out any more
  abbrev pub laid_down : Step (Option P) → Me (Option P) (View P E) → ℕ → Me (Option P) (View P E) → Type 0
  laid_down s me n after = after ≡ (handed me.0 0, [])

  -- the slot of the held part i, which is empty, is out
  abbrev pub picked_up : Step (Option P) → Me (Option P) (View P E) → ℕ → Me (Option P) (View P E) → Type 0
  picked_up s me n after = (i : ℕ) → s.word ≡ suc i → after ≡ (handed me.0 (suc i), (i, None) ∷ [])

  -- the turn of part i is free
  abbrev pub gave : Step (Option P) → Me (Option P) (View P E) → ℕ → Me (Option P) (View P E) → Type 0
  gave s me n after = (i : ℕ) → s.word ≡ suc i → after ≡ (handed (lost me.0 i) 0, [])

  -- the event has the number found
  abbrev pub recorded : (View P E → Type 0) → (View P E → ℕ → View P E) → Step (Option P) → Me (Option P) (View P E) → ℕ → Me (Option P) (View P E) → Type 0
  recorded facts then s me n after = (after ≡ (then me.0 n, [])) × AllBefore n me.0.entries × facts (then me.0 n)
