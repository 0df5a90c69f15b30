-- Parts by their numbers: what is seen of one, where it stands in a hand, and the hand with it and without it.
use Rattle.std.specs.Prelude.{◌≡◌, ℕ, zero, suc, ◌+◌, ◌-◌, ◌<◌, ◌≤◌, nat_lt, if◌then◌else◌, Option, Some, None, option_map, List, ◌∷◌, ◌++◌, length, map, replicate, slice_get, slice_set}
use Rattle.std.specs.Option.{option_flatten}
use Rattle.aml_slice.specs.Controls.{Rest}
use Rattle.core_rows.specs.book_part.Halves.{Halves, Shows}
use Rattle.core_rows.specs.log_set.Shown.{ShowsLog}
use Rattle.core_rows.specs.log_set.Logs.{LogList}
use Rattle.protocol.specs.Events as part
use Rattle.protocol.specs.Fixed.{Fixed}
use Rattle.protocol.specs.Parts.{Ring, Post, Desk, Log, Cell, Machine}
use Rattle.snap_hand.specs.Hands.{Parts}
use Rattle.snap_hand.specs.declared.parts.Part.{Part}
use Rattle.snap_hand.specs.declared.parts.Part.TheVariants as a

-- a part; how much room there is in it is not told
pub data Shown : Type 0 where
  TheRing : Ring → Shown
  TheBook : Halves → Shown
  ThePost : Post Rest → Shown
  TheDesk : Desk → Shown
  TheLog : LogList → Shown
  TheCell : Cell Rest → Shown

abbrev pub shown : Part → Shown
shown (a.Ring x) = TheRing x.value
shown (a.Book x) = TheBook x.value
shown (a.Post x) = ThePost x.value.messages
shown (a.Desk x) = TheDesk x.value
shown (a.Log x) = TheLog x.value.log
shown (a.Cell x) = TheCell x.value.cell

-- ---- the places of a hand

-- in the order of the numbers, what stands in each place
abbrev pub places : Parts → List (Option Shown)
places h =
    option_map TheRing h.ring ∷ option_map TheBook h.book ∷ option_map ThePost h.post ∷ option_map TheDesk h.desk
    ∷ (map (option_map TheLog) h.logs ++ map (option_map TheCell) h.cells)

-- the part of this number, if it is there
abbrev pub part_at : Parts → ℕ → Option Shown
part_at h i = option_flatten (slice_get (places h) i)

-- places for so many logs and cells, and no part
abbrev pub no_parts : ℕ → ℕ → Parts
no_parts logs cells = record { ring = None; book = None; post = None; desk = None; logs = replicate logs None; cells = replicate cells None }

-- ---- a part goes out of a hand, or into it

-- the hand without the log or the cell that stands there behind the four others
abbrev pub without_behind : ℕ → Parts → Parts
without_behind i h =
    if nat_lt i (length h.logs) then record h { logs = slice_set h.logs i None } else record h { cells = slice_set h.cells (i - length h.logs) None }

-- the hand without the part of this number
abbrev pub without : ℕ → Parts → Parts
without zero h = record h { ring = None }
without (suc zero) h = record h { book = None }
without (suc (suc zero)) h = record h { post = None }
without (suc (suc (suc zero))) h = record h { desk = None }
without (suc (suc (suc (suc i)))) h = without_behind i h

-- the part is of the kind of this number, and the hand has a place for it
abbrev pub Belongs : Parts → ℕ → Shown → Type 0
Belongs h i (TheRing x) = i ≡ part.ring
Belongs h i (TheBook x) = i ≡ part.book
Belongs h i (ThePost x) = i ≡ part.post
Belongs h i (TheDesk x) = i ≡ part.desk
Belongs h i (TheLog x) = (4 ≤ i) × (i < 4 + length h.logs)
Belongs h i (TheCell x) = (4 + length h.logs ≤ i) × (i < 4 + length h.logs + length h.cells)

-- the hand with this part, which belongs to it, in the place of this number
abbrev pub with_part : ℕ → Shown → Parts → Parts
with_part i (TheRing x) h = record h { ring = Some x }
with_part i (TheBook x) h = record h { book = Some x }
with_part i (ThePost x) h = record h { post = Some x }
with_part i (TheDesk x) h = record h { desk = Some x }
with_part i (TheLog x) h = record h { logs = slice_set h.logs (i - 4) (Some x) }
with_part i (TheCell x) h = record h { cells = slice_set h.cells (i - (4 + length h.logs)) (Some x) }

-- ---- parts of a state

-- It is what a hand for the text has of this state under this number; a book has room for a cascade of each transaction.
abbrev pub IsPartOf : Fixed Rest → Machine Rest → ℕ → Shown → Type 0
IsPartOf w s i (TheRing x) = (i ≡ part.ring) × (s.ring ≡ x)
IsPartOf w s i (TheBook x) = (i ≡ part.book) × (Shows x s.book × (length w.text.txs ≤ x.most))
IsPartOf w s i (ThePost x) = (i ≡ part.post) × (s.post ≡ x)
IsPartOf w s i (TheDesk x) = (i ≡ part.desk) × (s.desk ≡ x)
IsPartOf w s i (TheLog x) = ((4 ≤ i) × (i < 4 + w.text.logs)) × ((y : Log) × ((slice_get s.logs (i - 4) ≡ Some y) × ShowsLog x y))
IsPartOf w s i (TheCell x) =
    ((4 + w.text.logs ≤ i) × (i < 4 + w.text.logs + length w.text.opening.states)) × (slice_get s.cells (i - (4 + w.text.logs)) ≡ Some x)

-- These are all parts of this state, in the order of their numbers.
pub record AreAllParts (w : Fixed Rest) (s : Machine Rest) (ps : List Shown) : Type 0 where
  pub all : length ps ≡ 4 + w.text.logs + length w.text.opening.states
  pub each : (i : ℕ) (p : Shown) → slice_get ps i ≡ Some p → IsPartOf w s i p
