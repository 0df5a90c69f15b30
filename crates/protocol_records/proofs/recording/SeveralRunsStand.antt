-- Places rise from run to run.
use Rattle.std.specs.Prelude.{◌≡◌, ℕ, ◌+◌, ◌<◌, ◌≤◌, ◌==◌, nat_lt, true, false, ◌&&◌, ◌||◌, ◌⊎◌, List, [], ◌∷◌}
use Rattle.std.specs.List.{AllByRecursion}
use Rattle.std.proofs.Common.{arith, sym, ap, subst, inl, inr, ◌∙◌}
use Rattle.std.proofs.lemmas.Bool.{or_left, or_right, and_from, eq-eqb, cases_Bool, ltb-false, lt-ltb}
use Rattle.snap_base.specs.declared.verdicts.Place.{Place}
use Rattle.protocol.specs.Fixed.{Fixed, Opening}
use Rattle.protocol.specs.Parts.{Who, OfBatch, OfAct}
use Rattle.protocol.specs.Runs.{reached}
use Rattle.protocol.specs.History.{Done, history}
use Rattle.protocol.specs.Chains.{is_place_below}
use Rattle.protocol_records.specs.NextNumbers.{next_tid_of, next_bid_of, next_c_of, IsPlaceWithin, IsNumberedWithin, NextNumbersStand}
use Rattle.protocol_records.specs.SeveralRuns.{CutRun, MayBe, logs_left, members_of, opening_left, GoOn, AreBelow, RunsStand}
use Rattle.protocol_laws.proofs.first.Lists.{weaker}
use Rattle.protocol_records.proofs.crash.CrashLaw.{crash_of_every_moment}
use Rattle.protocol_records.proofs.recording.NextNumbersKept.{next_numbers_stand}
use Rattle.protocol_laws.proofs.machine.PlacesRise.{by_batch}

-- a place below these next numbers, and one from them on
abbrev pub IsLow : ℕ → ℕ → Place → Type 0
IsLow bid c p = (p.batch.0 < bid) × (p.side ≤ 1) × (p.side ≡ 1 → p.order < c)

abbrev pub IsHigh : ℕ → ℕ → Place → Type 0
IsHigh bid c p = (bid ≤ p.batch.0) ⊎ ((bid ≤ p.batch.0 + 1) × (p.side ≡ 1) × (c ≤ p.order))

rises : (bid c : ℕ) (p q : Place) → IsLow bid c p → IsHigh bid c q → is_place_below p q ≡ true
rises bid c p q l (inl h) = by_batch p q (omega (arith, l.0, h))
rises bid c p q l (inr h) = elim (cases_Bool (nat_lt p.batch.0 q.batch.0)) [
  | inl e ↦ or_left (nat_lt p.batch.0 q.batch.0) _ e
  | inr e ↦ let same : p.batch.0 ≡ q.batch.0 = omega (arith, ltb-false p.batch.0 q.batch.0 e, l.0, h.0) in or_right (nat_lt p.batch.0 q.batch.0) _ (and_from (p.batch.0 == q.batch.0) _ (eq-eqb p.batch.0 q.batch.0 same) (by (cases_Bool (nat_lt p.side q.side))))
]
  where
    by : (nat_lt p.side q.side ≡ true) ⊎ (nat_lt p.side q.side ≡ false) → (nat_lt p.side q.side || ((p.side == q.side) && nat_lt p.order q.order)) ≡ true
    by (inl e) = or_left (nat_lt p.side q.side) _ e
    by (inr e) =
        let one : p.side ≡ 1 = omega (arith, ltb-false p.side q.side e, l.1, h.1) in
        or_right (nat_lt p.side q.side) _ (and_from (p.side == q.side) (nat_lt p.order q.order) (eq-eqb p.side q.side (one ∙ sym h.1)) (lt-ltb p.order q.order (omega (arith, l.2 one, h.2))))

-- members of a run are low for the one behind it
low_of : {C : Type 0} (w : Fixed C) (tid bid c : ℕ) (d : Done) → IsNumberedWithin w tid bid c d → IsLow bid c d.place
low_of w tid bid c d n = by d.who n.place
  where
    by : (y : Who) → IsPlaceWithin w bid c y d.place → IsLow bid c d.place
    by (OfBatch k) p = (omega (arith, p.1, p.2.below), omega (arith, p.0), λ e. absurd (omega (arith, e, p.0)))
    by (OfAct t) p = (p.1.below, omega (arith, p.0), λ e. p.2.below)

high_of : {C : Type 0} (w : Fixed C) (tid bid c : ℕ) (d : Done) → IsNumberedWithin w tid bid c d → IsHigh w.text.opening.next_bid w.text.opening.next_c d.place
high_of w tid bid c d n = by d.who n.place
  where
    by : (y : Who) → IsPlaceWithin w bid c y d.place → IsHigh w.text.opening.next_bid w.text.opening.next_c d.place
    by (OfBatch k) p = inl (omega (arith, p.1, p.2.reached))
    by (OfAct t) p = inr (omega (arith, p.1.reached), p.0, p.2.reached)

-- what is low stays so
higher : (bid c bid' c' : ℕ) (p : Place) → bid ≤ bid' → c ≤ c' → IsLow bid c p → IsLow bid' c' p
higher bid c bid' c' p l m h = (omega (arith, l, h.0), h.1, λ e. omega (arith, m, h.2 e))

numbers_of : {C : Type 0} (x : CutRun C) → MayBe x → NextNumbersStand x.fixed x.finish x.events (reached x.fixed x.moment.events) (history x.fixed x.moment.events) (logs_left x)
numbers_of x v = next_numbers_stand x.fixed x.finish x.events x.moment x.kept v.facts v.text v.run v.left

one_below : (bid c : ℕ) (ds es : List Done) → AllByRecursion (λ d. IsLow bid c d.place) ds → AllByRecursion (λ e. IsHigh bid c e.place) es → AllByRecursion (λ d. AllByRecursion (λ e. is_place_below d.place e.place ≡ true) es) ds
one_below bid c ds es h g = weaker (λ d. IsLow bid c d.place) (λ d. AllByRecursion (λ e. is_place_below d.place e.place ≡ true) es) ds (λ d l. weaker (λ e. IsHigh bid c e.place) (λ e. is_place_below d.place e.place ≡ true) es (λ e k. rises bid c d.place e.place l k) g) h

all_below : {C : Type 0} (o : Opening) (ds : List Done) (xs : List (CutRun C)) → AllByRecursion (λ d. IsLow o.next_bid o.next_c d.place) ds → GoOn o xs → AreBelow ds xs
all_below o ds [] h g = tt
all_below o ds (x ∷ xs) h g =
    let bid : x.fixed.text.opening.next_bid ≡ o.next_bid = ap (λ z. z.next_bid) g.1 in
    let c : x.fixed.text.opening.next_c ≡ o.next_c = ap (λ z. z.next_c) g.1 in
    let high = weaker (IsNumberedWithin x.fixed (next_tid_of x.fixed (logs_left x)) (next_bid_of x.fixed (logs_left x)) (next_c_of x.fixed (logs_left x))) (λ e. IsHigh x.fixed.text.opening.next_bid x.fixed.text.opening.next_c e.place) (members_of x) (λ e k. high_of x.fixed (next_tid_of x.fixed (logs_left x)) (next_bid_of x.fixed (logs_left x)) (next_c_of x.fixed (logs_left x)) e k) (numbers_of x g.0).above_members in (
      one_below o.next_bid o.next_c ds (members_of x) h (subst (λ z. AllByRecursion (λ e. IsHigh o.next_bid z e.place) (members_of x)) c (subst (λ z. AllByRecursion (λ e. IsHigh z x.fixed.text.opening.next_c e.place) (members_of x)) bid high)),
      all_below (opening_left x) ds xs (weaker (λ d. IsLow o.next_bid o.next_c d.place) (λ d. IsLow (next_bid_of x.fixed (logs_left x)) (next_c_of x.fixed (logs_left x)) d.place) ds (λ d l. higher o.next_bid o.next_c (next_bid_of x.fixed (logs_left x)) (next_c_of x.fixed (logs_left x)) d.place (omega (arith, bid)) (omega (arith, c)) l) h) g.2,
    )

pub runs_stand : {C : Type 0} (o : Opening) (xs : List (CutRun C)) → GoOn o xs → RunsStand xs
runs_stand o [] g = tt
runs_stand o (x ∷ xs) g =
    let n = numbers_of x g.0 in (
      crash_of_every_moment x.fixed x.finish x.events x.moment x.kept g.0.facts g.0.text g.0.run g.0.left,
      n,
      all_below (opening_left x) (members_of x) xs (weaker (IsNumberedWithin x.fixed (next_tid_of x.fixed (logs_left x)) (next_bid_of x.fixed (logs_left x)) (next_c_of x.fixed (logs_left x))) (λ d. IsLow (next_bid_of x.fixed (logs_left x)) (next_c_of x.fixed (logs_left x)) d.place) (members_of x) (λ d k. low_of x.fixed (next_tid_of x.fixed (logs_left x)) (next_bid_of x.fixed (logs_left x)) (next_c_of x.fixed (logs_left x)) d k) n.above_members) g.2,
      runs_stand (opening_left x) xs g.2,
    )
