-- Places rise from run to run, over compactions too.
use Rattle.std.specs.Prelude.{◌≡◌, ℕ, ◌+◌, ◌<◌, ◌≤◌, max, ◌==◌, nat_lt, true, false, ◌&&◌, ◌||◌, ◌⊎◌, List, [], ◌∷◌}
use Rattle.std.specs.List.{AllByRecursion}
use Rattle.std.proofs.Common.{arith, sym, ap, subst, inl, inr, ◌∙◌}
use Rattle.std.proofs.lemmas.Bool.{or_left, or_right, and_from, eq-eqb, cases_Bool, ltb-false, lt-ltb}
use Rattle.aml_slice.specs.Controls.{Rest}
use Rattle.machine_laws.specs.protocol_records.NextNumbers.{IsNumberedWithin, IsPlaceWithin}
use Rattle.machine_recovery.specs.compact_laws.log_compact.declared.folds.Folded.{Folded}
use Rattle.protocol.specs.Chains.{is_place_below}
use Rattle.protocol.specs.Fixed.{Fixed}
use Rattle.protocol.specs.History.{Done}
use Rattle.protocol.specs.Parts.{Who, OfBatch, OfAct}
use Rattle.snap_base.proofs.Lists.{weaker}
use Rattle.snap_base.specs.declared.ids.Bid.{Bid}
use Rattle.snap_base.specs.declared.verdicts.Place.{Place}
use Rattle.record_log.specs.txn_records.declared.records.Record.{Record}
use Rattle.run_recovery.specs.Next.{fold_left}
use Rattle.run_recovery.specs.OneRun.{machine_in, the_run}
use Rattle.run_recovery.specs.Several.{AreBelow, BeganOn, Crash, CutOff, Early, GoOn, Left, LeftBy, OfNext, PlacesGoOn, Within, members_by, members_in, members_left}
use Rattle.run_recovery.proofs.Leading.{same_opening}

-- ---- places

-- a place below these next numbers, and one from them on
abbrev IsLow : ℕ → ℕ → Place → Type 0
IsLow bid c p = (p.batch.0 < bid) × (p.side ≤ 1) × (p.side ≡ 1 → p.order < c)

abbrev IsHigh : ℕ → ℕ → Place → Type 0
IsHigh bid c p = (bid ≤ p.batch.0) ⊎ ((bid ≤ p.batch.0 + 1) × (p.side ≡ 1) × (c ≤ p.order))

rises : (bid c : ℕ) (p q : Place) → IsLow bid c p → IsHigh bid c q → is_place_below p q ≡ true
rises bid c p q l (inl h) = or_left (nat_lt p.batch.0 q.batch.0) _ (lt-ltb p.batch.0 q.batch.0 (omega (arith, l.0, h)))
rises bid c p q l (inr h) = elim (cases_Bool (nat_lt p.batch.0 q.batch.0)) [
  | inl e ↦ or_left (nat_lt p.batch.0 q.batch.0) _ e
  | inr e ↦ let same : p.batch.0 ≡ q.batch.0 = omega (arith, ltb-false p.batch.0 q.batch.0 e, l.0, h.0) in or_right (nat_lt p.batch.0 q.batch.0) _ (and_from (p.batch.0 == q.batch.0) _ (eq-eqb p.batch.0 q.batch.0 same) (by (cases_Bool (nat_lt p.side q.side))))
]
  where
    by : (nat_lt p.side q.side ≡ true) ⊎ (nat_lt p.side q.side ≡ false) → (nat_lt p.side q.side || ((p.side == q.side) && nat_lt p.order q.order)) ≡ true
    by (inl e) = or_left (nat_lt p.side q.side) _ e
    by (inr e) =
        let one : p.side ≡ 1 = omega (arith, ltb-false p.side q.side e, l.1, h.1) in
        or_right (nat_lt p.side q.side) _ (and_from (p.side == q.side) (nat_lt p.order q.order) (eq-eqb p.side q.side (one ∙ sym h.1)) (lt-ltb p.order q.order (omega (arith, l.2 one, h.2))))

low_of : (w : Fixed Rest) (tid bid c : ℕ) (d : Done) → IsNumberedWithin w tid bid c d → IsLow bid c d.place
low_of w tid bid c d n = by d.who n.place
  where
    by : (y : Who) → IsPlaceWithin w bid c y d.place → IsLow bid c d.place
    by (OfBatch k) p = (omega (arith, p.1, p.2.below), omega (arith, p.0), λ e. absurd (omega (arith, e, p.0)))
    by (OfAct t) p = (p.1.below, omega (arith, p.0), λ e. p.2.below)

high_of : (w : Fixed Rest) (tid bid c : ℕ) (d : Done) → IsNumberedWithin w tid bid c d → IsHigh w.text.opening.next_bid w.text.opening.next_c d.place
high_of w tid bid c d n = by d.who n.place
  where
    by : (y : Who) → IsPlaceWithin w bid c y d.place → IsHigh w.text.opening.next_bid w.text.opening.next_c d.place
    by (OfBatch k) p = inl (omega (arith, p.1, p.2.reached))
    by (OfAct t) p = inr (omega (arith, p.1.reached), p.0, p.2.reached)

-- what is low stays so
higher : (bid c bid' c' : ℕ) (p : Place) → bid ≤ bid' → c ≤ c' → IsLow bid c p → IsLow bid' c' p
higher bid c bid' c' p l m h = (omega (arith, l, h.0), h.1, λ e. omega (arith, m, h.2 e))

-- ---- one run

abbrev AllLow : ℕ → ℕ → List Done → Type 0
AllLow bid c ds = AllByRecursion (λ d. IsLow bid c d.place) ds

abbrev AllHigh : ℕ → ℕ → List Done → Type 0
AllHigh bid c ds = AllByRecursion (λ d. IsHigh bid c d.place) ds

-- its members are below the next numbers that are recovered
members_low : (x : CutOff) (crash : Crash (the_run x.run) x.images) (now : ℕ → List Record) (f : Folded) (left : LeftBy x crash now f) → AllLow f.opening.next_bid.0 f.opening.next_c (members_by x crash now f left)
members_low x (Early crash) now f left = tt
members_low x (Within m crash) now f left =
    let g = fold_left left.0 in
    subst (λ (h : Folded). AllLow h.opening.next_bid.0 h.opening.next_c (members_left left.0)) (sym left.3)
    (weaker (IsNumberedWithin (machine_in (the_run x.run)) g.opening.next_tid.0 g.opening.next_bid.0 g.opening.next_c) (λ d. IsLow g.opening.next_bid.0 g.opening.next_c d.place) (members_left left.0)
    (λ d n. low_of (machine_in (the_run x.run)) g.opening.next_tid.0 g.opening.next_bid.0 g.opening.next_c d n) left.0.members.above)

-- and from those on with which it began
members_high : (x : CutOff) (crash : Crash (the_run x.run) x.images) (now : ℕ → List Record) (f : Folded) (left : LeftBy x crash now f) → AllHigh x.opening.next_bid.0 x.opening.next_c (members_by x crash now f left)
members_high x (Early crash) now f left = tt
members_high x (Within m crash) now f left =
    let g = fold_left left.0 in
    weaker (IsNumberedWithin (machine_in (the_run x.run)) g.opening.next_tid.0 g.opening.next_bid.0 g.opening.next_c) (λ d. IsHigh x.opening.next_bid.0 x.opening.next_c d.place) (members_left left.0)
    (λ d n. high_of (machine_in (the_run x.run)) g.opening.next_tid.0 g.opening.next_bid.0 g.opening.next_c d n) left.0.members.above

less_max : (n m : ℕ) → n ≤ max n m
less_max n m = omega arith

-- next numbers do not fall
abbrev NoLess : CutOff → Folded → Type 0
NoLess x f = (x.opening.next_bid.0 ≤ f.opening.next_bid.0) × (x.opening.next_c ≤ f.opening.next_c)

numbers_grow : (x : CutOff) (crash : Crash (the_run x.run) x.images) (now : ℕ → List Record) (f : Folded) → LeftBy x crash now f → NoLess x f
numbers_grow x (Early crash) now f left =
    subst (NoLess x) (sym left.2)
    (let e = x.run.devices.opens in (omega (arith, ap (λ o. o.next_bid.0) e), omega (arith, ap (λ o. o.next_c) e)))
numbers_grow x (Within m crash) now f left = subst (NoLess x) (sym left.3) (less_max x.opening.next_bid.0 _, less_max x.opening.next_c _)

-- ---- from run to run

one_below : (bid c : ℕ) (ds es : List Done) → AllLow bid c ds → AllHigh bid c es → AllByRecursion (λ d. AllByRecursion (λ e. is_place_below d.place e.place ≡ true) es) ds
one_below bid c ds es low high =
    weaker (λ d. IsLow bid c d.place) (λ d. AllByRecursion (λ e. is_place_below d.place e.place ≡ true) es) ds
    (λ d l. weaker (λ e. IsHigh bid c e.place) (λ e. is_place_below d.place e.place ≡ true) es (λ e h. rises bid c d.place e.place l h) high) low

-- the run begins with these next numbers
abbrev BeginsFrom : ℕ → ℕ → CutOff → Type 0
BeginsFrom bid c y = (y.opening.next_bid.0 ≡ bid) × (y.opening.next_c ≡ c)

next_from : (x : CutOff) (left : Left x x.crash) (xs : List CutOff) → OfNext (BeganOn left) xs → OfNext (BeginsFrom left.fold.opening.next_bid.0 left.fold.opening.next_c) xs
next_from x left [] began = tt
next_from x left (y ∷ ys) began = (ap (λ o. o.next_bid.0) began.opening, ap (λ o. o.next_c) began.opening)

-- behind the calls next numbers are those behind the crash
same_bid : (x : CutOff) (left : Left x x.crash) → left.fold.opening.next_bid.0 ≡ left.crashed_fold.opening.next_bid.0
same_bid x left = ap (λ (b : Bid). b.0) (same_opening x.calls left.crashed_fold left.fold left.which).next_bid

same_c : (x : CutOff) (left : Left x x.crash) → left.fold.opening.next_c ≡ left.crashed_fold.opening.next_c
same_c x left = (same_opening x.calls left.crashed_fold left.fold left.which).next_c

all_below : (bid c : ℕ) (ds : List Done) → AllLow bid c ds → (xs : List CutOff) (on : GoOn xs) → OfNext (BeginsFrom bid c) xs → AreBelow ds xs on
all_below bid c ds low [] on from = tt
all_below bid c ds low (x ∷ xs) on from =
    let left = on.0.0 in
    let high = members_high x x.crash left.crashed left.crashed_fold left.by in
    let grow = numbers_grow x x.crash left.crashed left.crashed_fold left.by in (
      one_below bid c ds (members_in x left) low (subst (λ z. AllHigh bid z (members_in x left)) from.1 (subst (λ z. AllHigh z x.opening.next_c (members_in x left)) from.0 high)),
      all_below left.fold.opening.next_bid.0 left.fold.opening.next_c ds
          (weaker (λ d. IsLow bid c d.place) (λ d. IsLow left.fold.opening.next_bid.0 left.fold.opening.next_c d.place) ds
          (λ d l. higher bid c left.fold.opening.next_bid.0 left.fold.opening.next_c d.place (omega (arith, from.0, grow.0, same_bid x left)) (omega (arith, from.1, grow.1, same_c x left)) l) low)
          xs on.1 (next_from x left xs on.0.1),
    )

pub places_go_on : (xs : List CutOff) (on : GoOn xs) → PlacesGoOn xs on
places_go_on [] on = tt
places_go_on (x ∷ xs) on =
    let left = on.0.0 in
    let low = members_low x x.crash left.crashed left.crashed_fold left.by in (
      all_below left.fold.opening.next_bid.0 left.fold.opening.next_c (members_in x left)
          (subst (λ z. AllLow left.fold.opening.next_bid.0 z (members_in x left)) (sym (same_c x left))
          (subst (λ z. AllLow z left.crashed_fold.opening.next_c (members_in x left)) (sym (same_bid x left)) low))
          xs on.1 (next_from x left xs on.0.1),
      places_go_on xs on.1,
    )
