-- Before and after numbers against the batches that stand before and behind an ACT.
use Rattle.std.specs.Prelude.{◌≡◌, ℕ, ◌<◌, ◌==◌, max, Bool, true, false, ◌&&◌, ◌||◌, Option, Some, None, List, [], ◌∷◌, length, map, filter}
use Rattle.std.specs.List.{AllByRecursion}
use Rattle.protocol.specs.Parts.{Act, Cascade, OfBatch, OfAct}
use Rattle.protocol.specs.Words.{greatest, least_of, is_among, is_aborted, is_doomed, is_live_status}
use Rattle.protocol.specs.Spread.{is_crossed}
use Rattle.protocol.specs.History.{Ran, Stands, Gone, batches_in}
use Rattle.snap_base.specs.declared.transactions.State.{State}
use Rattle.protocol.specs.Fixed.{Fixed, base}
use Rattle.protocol.specs.Facts.{Alone}
use Rattle.protocol.specs.Parts.{Machine}
use Rattle.protocol.specs.Words.{holds, act_of, is_ordered}
use Rattle.protocol.specs.Spread.{reaches}
use Rattle.protocol.specs.Effects.{cell_at}
use Rattle.protocol.specs.History.{History}
use Rattle.protocol.specs.Chains.{RivalsRise}
use Rattle.protocol_theorems.specs.Floors.{number_in, is_kind}
use Rattle.protocol_laws.specs.Highs.{doomed_at, own_floor}
use Rattle.protocol_laws.specs.Rising.{visitors, PlacesDiffer}

-- the before number of one that is not doomed is the greatest of its set
abbrev pub IsGreatest : (ℕ → List ℕ) → Act → Type 0
IsGreatest before x = is_doomed x.status ≡ false → x.m ≡ greatest (before x.tid)

-- the least of some numbers, none where there are none
abbrev pub least_in : List ℕ → Option ℕ
least_in [] = None
least_in (k ∷ ks) = Some (least_of k (least_in ks))

-- ---- after numbers

-- the ACT stands there, with the batch behind it
abbrev pub is_ahead : ℕ → ℕ → List Ran → Bool
is_ahead t k [] = false
is_ahead t k (Stands (OfBatch j) c ss ∷ rs) = is_ahead t k rs
is_ahead t k (Stands (OfAct u) c ss ∷ rs) = ((u == t) && is_among k (batches_in rs)) || is_ahead t k rs
is_ahead t k (Gone y ss ∷ rs) = is_ahead t k rs

-- the batch is not aborted, and on some actor it stands behind the ACT
abbrev pub StandsBehind : List Cascade → (ℕ → List Ran) → ℕ → ℕ → Type 0
StandsBehind cs long t k = (is_aborted k cs ≡ false) × ((a : ℕ) × (is_ahead t k (long a) ≡ true))

-- the after number of a live one is the least of its set, and that holds batches behind it
abbrev pub AfterIsLeast : List Cascade → (ℕ → List Ran) → (ℕ → List ℕ) → Act → Type 0
AfterIsLeast cs long behind x = is_live_status x.status ≡ true → (x.n ≡ least_in (behind x.tid)) × AllByRecursion (StandsBehind cs long x.tid) (behind x.tid)

-- no live ACT has numbers that cross: its before number is below its after number
abbrev pub IsUncrossed : Act → Type 0
IsUncrossed x = is_crossed x ≡ false

-- these hold all of those
abbrev pub HoldsAll : List ℕ → List ℕ → Type 0
HoldsAll ks js = AllByRecursion (λ j. is_among j ks ≡ true) js

-- ---- what every run owes of numbers

pub record NumbersStand {C : Type 0} (w : Fixed C) (finish : C → List State → Alone) (s : Machine C) (h : History) : Type 0 where
  -- the before number of an ACT that is not doomed is the greatest of the batches that stand before it
  pub before_is_greatest : (t : ℕ) (x : Act) → act_of t s.book.acts ≡ Some x → is_doomed x.status ≡ false → x.m ≡ greatest (h.before x.tid)
  -- these sets are closed along the pairs whose ACT ahead is not doomed: what stands before that one stands before the one
  -- behind it
  pub before_is_closed : AllByRecursion (λ p. doomed_at s.book.acts p.ahead ≡ false → HoldsAll (h.before p.behind) (h.before p.ahead)) s.book.pairs
  -- the after number of a live one is the least of the batches that stand behind it: not aborted, and behind it on some actor
  pub after_is_least : (t : ℕ) (x : Act) → act_of t s.book.acts ≡ Some x → is_live_status x.status ≡ true → (x.n ≡ least_in (h.behind x.tid)) × AllByRecursion (StandsBehind s.book.cascades h.long x.tid) (h.behind x.tid)
  -- nobody live stands behind a batch and ahead of one that is not above it, and nobody who has its place
  pub before_below_after : (t k : ℕ) (x : Act) → act_of t s.book.acts ≡ Some x → is_live_status x.status ≡ true → x.n ≡ Some k → x.m < k
  pub placed_below : (t : ℕ) (x : Act) → act_of t s.book.acts ≡ Some x → is_ordered x.status ≡ true → reaches x.m x.n ≡ false
  -- who has its place stands behind doomed ones alone
  pub placed_behind_none : AllByRecursion (λ p. holds (λ x. is_ordered x.status) (act_of p.behind s.book.acts) ≡ true → doomed_at s.book.acts p.ahead ≡ true) s.book.pairs
  -- an actor's floor for readers is the greatest before number of the readers that left it sealed, and its other floor that of the others
  pub floors_are : (a : ℕ) (r : Bool) → a < length w.text.opening.states → own_floor r (cell_at s a).floors ≡ max (base w.text) (greatest (map (number_in s.book.acts) (filter (is_kind r) (h.left_sealed a))))
  -- on each actor places rise in the order of commits, readers among themselves aside, and no two places are equal
  pub places_rise : (a : ℕ) → RivalsRise (visitors a h.committed)
  pub places_differ : PlacesDiffer h.committed
