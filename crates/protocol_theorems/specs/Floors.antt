-- Floors: the greatest before number of the ACTs that left an actor sealed.
use Rattle.std.specs.Prelude.{◌≡◌, ℕ, max, not, Bool, true, false, Option, Some, None, List, map}
use Rattle.std.specs.List.{AllByRecursion}
use Rattle.protocol.specs.Rivals.{Lock}
use Rattle.protocol.specs.Parts.{Act}
use Rattle.protocol.specs.Words.{holds, greatest, is_sealed, act_of}

abbrev pub number_or_0 : Option Act → ℕ
number_or_0 None = 0
number_or_0 (Some x) = x.m

-- the before number that the book has of it
abbrev pub number_in : List Act → Lock → ℕ
number_in acts x = number_or_0 (act_of x.tid acts)

-- of this kind: readers, or others
abbrev pub is_kind : Bool → Lock → Bool
is_kind true x = x.reader
is_kind false x = not x.reader

-- All of these are sealed, and the floor is the greatest of their numbers and the first one.
pub record FloorIs (first : ℕ) (acts : List Act) (floor : ℕ) (left : List Lock) : Type 0 where
  pub sealed : AllByRecursion (λ x. holds (λ y. is_sealed y.status) (act_of x.tid acts) ≡ true) left
  pub floor_is : max first floor ≡ max first (greatest (map (number_in acts) left))
