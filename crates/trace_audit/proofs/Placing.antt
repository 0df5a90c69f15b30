-- The tests on the members that are kept tell the places of `audit_words`.
use Rattle.std.specs.Prelude.{◌≡◌, refl, ℕ, ◌≤◌, ◌==◌, nat_lt, nat_le, Bool, true, false, ◌&&◌, if◌then◌else◌, MatchBool, Option, Some, None, List, [], ◌∷◌, ◌++◌, map}
use Rattle.std.specs.List.{AllByRecursion}
use Rattle.std.proofs.Common.{arith, sym, ap, subst, inl, inr, ◌∙◌}
use Rattle.std.proofs.lemmas.Bool.{and_from, and_parts, eqb-true, eq-eqb, leb-true, le-leb, ltb-true, ltb-false, or_cases, or_left, or_right}
use Rattle.snap_base.proofs.Lists.{all_of}
use Rattle.snap_base.specs.declared.ids.Bid.{Bid}
use Rattle.snap_base.specs.declared.transactions.Who as whose
use Rattle.snap_base.specs.declared.transactions.Who.TheVariants.{Batch, Act}
use Rattle.snap_base.specs.declared.verdicts.Place.{Place}
use Rattle.snap_base.specs.declared.verdicts.Verdict.{Verdict}
use Rattle.snap_base.specs.declared.verdicts.Verdict.TheVariants as verdicts
use Rattle.protocol.specs.Meant.{who_meant}
use Rattle.protocol.specs.Parts.{OfBatch, OfAct}
use Rattle.audit_words.specs.Clauses.{IsPlacedAt, IsNotBelow, TellsPlace}
use Rattle.audit_words.specs.Papers.{Line, Reply}
use Rattle.audit_words.specs.Seen.{Member, Seen}
use Rattle.audit_tale.specs.Knows.{member_of}
use Rattle.audit_tale.specs.declared.tales.MemberTale.{MemberTale}
use Rattle.trace_audit.specs.Placed.{is_least, is_place, is_placed, lesser, least_batch, line_placed, verdict_placed}

-- ---- one place

place_same : (p q : Place) → is_place p q ≡ true → p ≡ q
place_same p q h =
    let a = and_parts (p.batch.0 == q.batch.0) ((p.side == q.side) && (p.order == q.order)) h in
    let b = and_parts (p.side == q.side) (p.order == q.order) a.1 in
    by p q (eqb-true p.batch.0 q.batch.0 a.0) (eqb-true p.side q.side b.0) (eqb-true p.order q.order b.1)
  where
    by : (p q : Place) → p.batch.0 ≡ q.batch.0 → p.side ≡ q.side → p.order ≡ q.order → p ≡ q
    by p q e f g = ap (λ (k : ℕ). record { batch = record { 0 = k }; side = p.side; order = p.order }) e
        ∙ (ap (λ (k : ℕ). record { batch = q.batch; side = k; order = p.order }) f ∙ ap (λ (k : ℕ). record { batch = q.batch; side = q.side; order = k }) g)

place_itself : (p q : Place) → p ≡ q → is_place p q ≡ true
place_itself p q e =
    and_from (p.batch.0 == q.batch.0) ((p.side == q.side) && (p.order == q.order)) (eq-eqb p.batch.0 q.batch.0 (ap (λ (x : Place). x.batch.0) e))
    (and_from (p.side == q.side) (p.order == q.order) (eq-eqb p.side q.side (ap (λ (x : Place). x.side) e)) (eq-eqb p.order q.order (ap (λ (x : Place). x.order) e)))

-- ---- the least batch

lesser_both : (k j : Bid) (least : Option Bid) → is_least (Batch k) (lesser least (Batch j)) ≡ true → (k.0 ≤ j.0) × (is_least (Batch k) least ≡ true)
lesser_both k j None h = (leb-true k.0 j.0 h, refl)
lesser_both k j (Some i) h = by (nat_lt j.0 i.0) refl h
  where
    by : (b : Bool) → nat_lt j.0 i.0 ≡ b → is_least (Batch k) (if b then Some j else Some i) ≡ true → (k.0 ≤ j.0) × (nat_le k.0 i.0 ≡ true)
    by true e f = (leb-true k.0 j.0 f, le-leb k.0 i.0 (omega (arith, leb-true k.0 j.0 f, ltb-true j.0 i.0 e)))
    by false e f = (omega (arith, leb-true k.0 i.0 f, ltb-false j.0 i.0 e), f)

both_lesser : (k j : Bid) (least : Option Bid) → k.0 ≤ j.0 → is_least (Batch k) least ≡ true → is_least (Batch k) (lesser least (Batch j)) ≡ true
both_lesser k j None h g = le-leb k.0 j.0 h
both_lesser k j (Some i) h g = by (nat_lt j.0 i.0)
  where
    by : (b : Bool) → is_least (Batch k) (if b then Some j else Some i) ≡ true
    by true = le-leb k.0 j.0 h
    by false = g

in_order : (who : whose.Who) (ms : List MemberTale) → is_least who (least_batch ms) ≡ true → AllByRecursion (λ m. IsNotBelow (who_meant who) m.who) (map member_of ms)
in_order (Act t) ms h = all_of (λ (m : Member). IsNotBelow (OfAct t.0) m.who) (map member_of ms) (λ m. tt)
in_order (Batch k) [] h = tt
in_order (Batch k) (m ∷ ms) h = by m.who h (in_order (Batch k) ms)
  where
    by : (who : whose.Who) → is_least (Batch k) (lesser (least_batch ms) who) ≡ true → (is_least (Batch k) (least_batch ms) ≡ true → AllByRecursion (λ m. IsNotBelow (OfBatch k.0) m.who) (map member_of ms))
        → IsNotBelow (OfBatch k.0) (who_meant who) × AllByRecursion (λ m. IsNotBelow (OfBatch k.0) m.who) (map member_of ms)
    by (Act t) e f = (tt, f e)
    by (Batch j) e f = let both = lesser_both k j (least_batch ms) e in (both.0, f both.1)

order_in : (who : whose.Who) (ms : List MemberTale) → AllByRecursion (λ m. IsNotBelow (who_meant who) m.who) (map member_of ms) → is_least who (least_batch ms) ≡ true
order_in (Act t) ms h = refl
order_in (Batch k) [] h = refl
order_in (Batch k) (m ∷ ms) h = by m.who h.0 (order_in (Batch k) ms h.1)
  where
    by : (who : whose.Who) → IsNotBelow (OfBatch k.0) (who_meant who) → is_least (Batch k) (least_batch ms) ≡ true → is_least (Batch k) (lesser (least_batch ms) who) ≡ true
    by (Act t) e f = f
    by (Batch j) e f = both_lesser k j (least_batch ms) e f

-- ---- who has which place

further : (n : ℕ) (p : Place) (m : Member) (ms : List Member) → IsPlacedAt n p ms → IsPlacedAt n p (m ∷ ms)
further n p m ms h = record {
  member = h.member;
  front = m ∷ h.front;
  rest = h.rest;
  splits = ap (λ (z : List Member). m ∷ z) h.splits;
  tx = h.tx;
  place = h.place;
  in_order = h.in_order;
}

pub has_its_place : (n : ℕ) (p : Place) (ms : List MemberTale) → is_placed n p ms ≡ true → IsPlacedAt n p (map member_of ms)
has_its_place n p [] h = absurd (cc)
has_its_place n p (m ∷ ms) h = elim (or_cases (is_placed n p ms) (is_least m.who (least_batch ms) && ((n == m.tx.0) && is_place m.place p)) h) [
  | inl a ↦ further n p (member_of m) (map member_of ms) (has_its_place n p ms a)
  | inr b ↦
      let e = and_parts (is_least m.who (least_batch ms)) ((n == m.tx.0) && is_place m.place p) b in
      let f = and_parts (n == m.tx.0) (is_place m.place p) e.1 in
      record {
        member = member_of m;
        front = [];
        rest = map member_of ms;
        splits = refl;
        tx = sym (eqb-true n m.tx.0 f.0);
        place = place_same m.place p f.1;
        in_order = in_order m.who ms e.0;
      }
]

pub is_at_its_place : (n : ℕ) (p : Place) (ms : List MemberTale) → IsPlacedAt n p (map member_of ms) → is_placed n p ms ≡ true
is_at_its_place n p [] h = by h.front h.splits
  where
    by : (front : List Member) → [] ≡ front ++ h.member ∷ h.rest → false ≡ true
    by [] e = absurd (cc)
    by (x ∷ front) e = absurd (cc)
is_at_its_place n p (m ∷ ms) h = by h.front h.splits (is_at_its_place n p ms)
  where
    by : (front : List Member) → member_of m ∷ map member_of ms ≡ front ++ h.member ∷ h.rest → (IsPlacedAt n p (map member_of ms) → is_placed n p ms ≡ true) → is_placed n p (m ∷ ms) ≡ true
    by [] e f =
        let here : member_of m ≡ h.member = cc in
        let behind : map member_of ms ≡ h.rest = cc in
        or_right (is_placed n p ms) (is_least m.who (least_batch ms) && ((n == m.tx.0) && is_place m.place p))
        (and_from (is_least m.who (least_batch ms)) ((n == m.tx.0) && is_place m.place p)
        (order_in m.who ms (subst (λ (z : List Member). AllByRecursion (λ x. IsNotBelow (who_meant m.who) x.who) z) (sym behind) (subst (λ (z : Member). AllByRecursion (λ x. IsNotBelow z.who x.who) h.rest) (sym here) h.in_order)))
        (and_from (n == m.tx.0) (is_place m.place p) (eq-eqb n m.tx.0 (sym (ap (λ (z : Member). z.tx) here ∙ h.tx))) (place_itself m.place p (ap (λ (z : Member). z.place) here ∙ h.place))))
    by (x ∷ front) e f =
        let behind : map member_of ms ≡ front ++ h.member ∷ h.rest = cc in
        or_left (is_placed n p ms) (is_least m.who (least_batch ms) && ((n == m.tx.0) && is_place m.place p))
        (f (record { member = h.member; front = front; rest = h.rest; splits = behind; tx = h.tx; place = h.place; in_order = h.in_order }))

-- ---- a line

when : {P : Type 0} (b : Bool) → (b ≡ true → P) → (P → b ≡ true) → MatchBool b P (¬ P)
when true f g = f refl
when false f g = λ p. absurd (by (g p))
  where
    by : false ≡ true → ⊥
    by e = cc

placed_at : (s : Seen) (ms : List MemberTale) → map member_of ms ≡ s.members → (n : ℕ) (p : Place) → (is_placed n p ms ≡ true → IsPlacedAt n p s.members) × (IsPlacedAt n p s.members → is_placed n p ms ≡ true)
placed_at s ms e n p = (λ h. subst (IsPlacedAt n p) e (has_its_place n p ms h), λ h. is_at_its_place n p ms (subst (IsPlacedAt n p) (sym e) h))

pub line_decides : (s : Seen) (ms : List MemberTale) → map member_of ms ≡ s.members → (front : List Line) (l : Line) → MatchBool (line_placed ms l) (TellsPlace s front l) (¬ TellsPlace s front l)
line_decides s ms e front (Reply n v) = by v
  where
    by : (v : Verdict) → MatchBool (verdict_placed ms n v) (TellsPlace s front (Reply n v)) (¬ TellsPlace s front (Reply n v))
    by (verdicts.Committed p v) = when (is_placed n p ms) (placed_at s ms e n p).0 (placed_at s ms e n p).1
    by (verdicts.Code p code) = when ((p.side == 1) && is_placed n p ms)
        (λ h. let f = and_parts (p.side == 1) (is_placed n p ms) h in (eqb-true p.side 1 f.0, (placed_at s ms e n p).0 f.1))
        (λ h. and_from (p.side == 1) (is_placed n p ms) (eq-eqb p.side 1 h.0) ((placed_at s ms e n p).1 h.1))
    by _ = tt
line_decides s ms e front _ = tt
