-- Parts of the machine at hand, by their numbers: each is there or not. How much room there is in them is not told.
use Rattle.std.specs.Prelude.{◌≡◌, ℕ, ◌≤◌, Bool, true, false, ◌∷◌, ◌++◌, Option, Some, None, is_some, List, length, map, slice_get}
use Rattle.std.specs.List.{AllByRecursion}
use Rattle.aml_slice.specs.Controls.{Rest}
use Rattle.core_rows.specs.book_part.Halves.{Halves, Shows}
use Rattle.core_rows.specs.log_set.Shown.{ShowsLog}
use Rattle.core_rows.specs.log_set.Logs.{LogList}
use Rattle.protocol.specs.Events.{Event, footprint}
use Rattle.protocol.specs.Fixed.{Fixed}
use Rattle.protocol.specs.Parts.{Ring, Post, Desk, Log, Cell, Machine}

pub record Parts : Type 0 where
  pub ring : Option Ring
  pub book : Option Halves
  pub post : Option (Post Rest)
  pub desk : Option Desk
  -- by the number of the log, and by that of the actor
  pub logs : List (Option LogList)
  pub cells : List (Option (Cell Rest))

-- each part that is there is that part of the state
pub record Fits (h : Parts) (s : Machine Rest) : Type 0 where
  pub ring : (x : Ring) → h.ring ≡ Some x → s.ring ≡ x
  pub book : (x : Halves) → h.book ≡ Some x → Shows x s.book
  pub post : (x : Post Rest) → h.post ≡ Some x → s.post ≡ x
  pub desk : (x : Desk) → h.desk ≡ Some x → s.desk ≡ x
  pub logs : (l : ℕ) (x : LogList) → slice_get h.logs l ≡ Some (Some x) → (y : Log) × ((slice_get s.logs l ≡ Some y) × ShowsLog x y)
  pub cells : (a : ℕ) (x : Cell Rest) → slice_get h.cells a ≡ Some (Some x) → slice_get s.cells a ≡ Some x

-- there are places for all logs and actors of the text, and in the book there is room for a cascade of each transaction
pub record IsHandOf (w : Fixed Rest) (h : Parts) : Type 0 where
  pub logs : length h.logs ≡ w.text.logs
  pub cells : length h.cells ≡ length w.text.opening.states
  pub room : (x : Halves) → h.book ≡ Some x → length w.text.txs ≤ x.most

-- ---- which parts are there

abbrev pub are_there : Parts → List Bool
are_there h = is_some h.ring ∷ is_some h.book ∷ is_some h.post ∷ is_some h.desk ∷ (map is_some h.logs ++ map is_some h.cells)

-- the part of this number is there, if the text has one
abbrev pub Has : Parts → ℕ → Type 0
Has h i = slice_get (are_there h) i ≡ Some false → ⊥

-- whether the part of this number is there, as a test
abbrev pub is_not_out : Option Bool → Bool
is_not_out None = true
is_not_out (Some there) = there

abbrev pub is_at_hand : Parts → ℕ → Bool
is_at_hand h i = is_not_out (slice_get (are_there h) i)

-- all parts are there that the event reads or changes
abbrev pub HasFootprint : Fixed Rest → Event → Parts → Type 0
HasFootprint w e h = AllByRecursion (Has h) (footprint w.text.logs e)

-- all parts are there
abbrev pub IsWhole : Parts → Type 0
IsWhole h = (i : ℕ) → Has h i
