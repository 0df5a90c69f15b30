-- Who stands behind whom, and the before numbers along it.
use Rattle.std.specs.Prelude.{◌≡◌, ◌<◌, ◌≤◌, false, Some}
use Rattle.std.specs.List.{AllByRecursion}
use Rattle.protocol.specs.Fixed.{Fixed, base}
use Rattle.protocol.specs.Parts.{Act, Pair, Book, Machine}
use Rattle.protocol.specs.Words.{act_of, is_doomed, is_ordered}

-- Who stands behind another one is older: it has the smaller tid.
abbrev pub IsOlder : Pair → Type 0
IsOlder p = p.behind < p.ahead

-- Where the one ahead is not doomed, the one behind, if it has no place yet, has a before number at least as great.
abbrev pub CarriesNumber : Book → Pair → Type 0
CarriesNumber b p = (x y : Act) → act_of p.behind b.acts ≡ Some x → act_of p.ahead b.acts ≡ Some y → is_ordered x.status ≡ false → is_doomed y.status ≡ false → y.m ≤ x.m

pub record PairsStand {C : Type 0} (w : Fixed C) (s : Machine C) : Type 0 where
  pub older : AllByRecursion IsOlder s.book.pairs
  pub carried : AllByRecursion (CarriesNumber s.book) s.book.pairs
  -- no before number is below the last batch of earlier runs
  pub based : AllByRecursion (λ x. base w.text ≤ x.m) s.book.acts
