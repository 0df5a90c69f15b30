-- Runs over a list of parts. An event has a footprint, the numbers of parts. Whether it happens, and what it makes, is told of their values alone.
use Rattle.std.specs.Prelude.{◌≡◌, ℕ, ◌≤◌, List, [], ◌∷◌, ◌++◌, Option, Some, slice_get, ⊤}
use Rattle.turn_table.specs.Places.{at, Covers, values, replaced, Stand, IsNoneOf}

module _ {P E : Type 0} (footprint : E → List ℕ) (happens : E → List P → List P → Type 0) where
  -- f has all parts of the event's footprint, and the event may happen there and make these values of them
  abbrev pub May : (ℕ → Option P) → E → List P → Type 0
  May f e made = Covers f (footprint e) × happens e (values f (footprint e)) made

  -- the events lead from these parts to those, one after the other
  abbrev pub Run : List P → List E → List P → Type 0
  Run xs [] ys = xs ≡ ys
  Run xs (e ∷ es) ys = (made : List P) × May (slice_get xs) e made × Run (replaced xs (footprint e) made) es ys

  -- there is a run from the opening parts after which each held part has its value, and in which each entry stands at its number
  abbrev pub Fits : List P → List (Option P) → List (ℕ × E) → Type 0
  Fits start held entries =
      (history : List E) × (parts : List P) × Run start history parts
      × ((i : ℕ) (p : P) → at held i ≡ Some p → slice_get parts i ≡ Some p)
      × Stand history entries

module _ {E : Type 0} (footprint : E → List ℕ) where
  -- the event has not part i in its footprint
  abbrev pub Leaves : ℕ → E → Type 0
  Leaves i e = IsNoneOf i (footprint e)

  -- none of these events has part i in its footprint
  abbrev pub AllLeave : ℕ → List E → Type 0
  AllLeave i [] = ⊤
  AllLeave i (e ∷ es) = Leaves i e × AllLeave i es

  -- the second history is the first and events that leave part i
  abbrev pub GoesOnWithout : ℕ → List E → List E → Type 0
  GoesOnWithout i history later = (more : List E) × (later ≡ history ++ more) × AllLeave i more

  -- of these entries none with a number from n on has part i in its footprint
  abbrev pub AllLeaveFrom : ℕ → ℕ → List (ℕ × E) → Type 0
  AllLeaveFrom i n [] = ⊤
  AllLeaveFrom i n (e ∷ es) = (n ≤ e.0 → Leaves i e.1) × AllLeaveFrom i n es
