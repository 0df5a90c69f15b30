-- The batch that is planned: its tids follow one another, and each of its messages is new.
use Rattle.std.proofs.Common.{◌≡◌, ℕ, zero, suc, ◌+◌, ◌<◌, ◌≤◌, ◌==◌, ◌&&◌, not, Bool, true, false, None, List, [], ◌∷◌, ◌++◌, length, map, take, refl, ap, sym, ◌∙◌, subst, arith}
use Rattle.std.specs.List.{AllByRecursion}
use Rattle.std.proofs.lemmas.Bool.{eq-eqb, ne_eqb, and_right}
use Rattle.std.proofs.lemmas.List.{map-append}
use Rattle.snap_base.proofs.Lists.{none_passes}
use Rattle.protocol.specs.Fixed.{Fixed, Text}
use Rattle.protocol.specs.Parts.{Ring, Pact, SubBatch, Who, OfBatch, Machine}
use Rattle.protocol.specs.Words.{is_empty, sub_of, control_of}
use Rattle.protocol.specs.Numbers.{times, one_if}
use Rattle.protocol.specs.Conditions.{queue}
use Rattle.protocol.specs.OnRing.{numbered, next_pacts, next_actors, first_sub, planned}
use Rattle.protocol.specs.OnPost.{first_control}
use Rattle.protocol_laws.proofs.first.Times.{times_cons, times_append}
use Rattle.protocol_theorems.proofs.quiet.LeftRing.{some_taken}
use Rattle.txn_records.specs.Records.{Ascend}
use Rattle.core_facts.proofs.Listed.{found_nowhere, all_middle, all_mapped}

-- ---- tids

pub numbered_length : (t : ℕ) (ns : List ℕ) → length (numbered t ns) ≡ length ns
numbered_length t [] = refl
numbered_length t (n ∷ ns) = ap suc (numbered_length (t + 1) ns)

take_most : (few : ℕ) (ns : List ℕ) → length (take few ns) ≤ few
take_most zero ns = omega arith
take_most (suc few) [] = omega arith
take_most (suc few) (n ∷ ns) = omega (arith, take_most few ns)

pub few_pacts : (w : Text) (r : Ring) → length (next_pacts w r) ≤ w.batch
few_pacts w r = omega (arith, numbered_length r.next_tid (take w.batch (queue r.pacts r.holder)), take_most w.batch (queue r.pacts r.holder))

pub some_pacts : (w : Text) (r : Ring) → 1 ≤ w.batch → not (is_empty (queue r.pacts r.holder)) ≡ true → 1 ≤ length (next_pacts w r)
some_pacts w r l e = omega (arith, numbered_length r.next_tid (take w.batch (queue r.pacts r.holder)), some_taken w.batch (queue r.pacts r.holder) l e)

pub numbered_ascend : (t limit : ℕ) (ns : List ℕ) → t + length ns ≤ limit → Ascend t limit (map (λ p. p.tid) (numbered t ns))
numbered_ascend t limit [] l = tt
numbered_ascend t limit (n ∷ ns) l = (omega arith, omega (arith, l), numbered_ascend (t + 1) limit ns (omega (arith, l)))

pub ascend_from : (low higher limit : ℕ) (ns : List ℕ) → low ≤ higher → Ascend higher limit ns → Ascend low limit ns
ascend_from low higher limit [] l h = tt
ascend_from low higher limit (n ∷ ns) l h = (omega (arith, l, h.0), h.1, h.2)

-- those ahead of one have smaller tids
record Before (t : ℕ) (front : List Pact) (p : Pact) : Type 0 where
  from : t ≤ p.tid
  smaller : AllByRecursion (λ q. q.tid < p.tid) front

before : (t : ℕ) (ns : List ℕ) (front rest : List Pact) (p : Pact) → numbered t ns ≡ front ++ p ∷ rest → Before t front p
before t [] [] rest p e = absurd (cc e)
before t [] (q ∷ front) rest p e = absurd (cc e)
before t (n ∷ ns) [] rest p e =
    let i : record { tid = t; tx = n; result = None } ≡ p = cc e in
    record { from = omega (arith, ap (λ z. z.tid) i); smaller = tt }
before t (n ∷ ns) (q ∷ front) rest p e =
    let i : record { tid = t; tx = n; result = None } ≡ q = cc e in
    let j : numbered (t + 1) ns ≡ front ++ p ∷ rest = cc e in
    let k = before (t + 1) ns front rest p j in
    record { from = omega (arith, k.from); smaller = (omega (arith, ap (λ z. z.tid) i, k.from), k.smaller) }

others : {C : Type 0} (w : Fixed C) (who : Who) (t : ℕ) (front : List Pact) → AllByRecursion (λ q. q.tid < t) front → AllByRecursion (λ m. (m.tid == t) ≡ false) (map (λ q. first_control w who q.tid q.tx) front)
others w who t [] h = tt
others w who t (q ∷ front) h = (ne_eqb q.tid t (λ e. omega (arith, e, h.0)), others w who t front h.1)

pub control_is_new : {C : Type 0} (w : Fixed C) (k : ℕ) (s : Machine C) → ((t : ℕ) → s.ring.next_tid ≤ t → control_of t s.post.controls ≡ None)
    → (front rest : List Pact) (p : Pact) → next_pacts w.text s.ring ≡ front ++ p ∷ rest → control_of p.tid (s.post.controls ++ map (λ q. first_control w (OfBatch k) q.tid q.tx) front) ≡ None
control_is_new w k s new front rest p e =
    let b = before s.ring.next_tid (take w.text.batch (queue s.ring.pacts s.ring.holder)) front rest p e in
    found_nowhere (λ m. m.tid == p.tid) s.post.controls (map (λ q. first_control w (OfBatch k) q.tid q.tx) front) (new p.tid b.from) (none_passes (λ m. m.tid == p.tid) _ (others w (OfBatch k) p.tid front b.smaller))

-- ---- sub-batches

told_actors : (w : Text) (k : ℕ) (r : Ring) (xs : List ℕ) → map (λ m. m.actor) (map (first_sub w k r) xs) ≡ xs
told_actors w k r [] = refl
told_actors w k r (a ∷ xs) = ap (λ z. a ∷ z) (told_actors w k r xs)

none_to : (k a : ℕ) (subs : List SubBatch) → times a (map (λ m. m.actor) subs) ≡ 0 → AllByRecursion (λ m. ((m.bid == k) && (m.actor == a)) ≡ false) subs
none_to k a [] h = tt
none_to k a (m ∷ ms) h = (and_right (m.bid == k) (m.actor == a) (by (m.actor == a) (times_cons a m.actor (map (λ m. m.actor) ms))), none_to k a ms (omega (arith, h, times_cons a m.actor (map (λ m. m.actor) ms))))
  where
    by : (b : Bool) → times a (m.actor ∷ map (λ m. m.actor) ms) ≡ one_if b + times a (map (λ m. m.actor) ms) → b ≡ false
    by true e = absurd (omega (arith, h, e))
    by false e = refl

pub sub_is_new : {C : Type 0} (w : Fixed C) (k : ℕ) (s : Machine C) → ((a : ℕ) → sub_of k a s.post.subs ≡ None) → ((n : ℕ) → times n (next_actors w.text s.ring) ≤ 1)
    → (front rest : List SubBatch) (m : SubBatch) → (planned w.text k s.ring).subs ≡ front ++ m ∷ rest → sub_of m.bid m.actor (s.post.subs ++ front) ≡ None
sub_is_new w k s new once front rest m e =
    let its = all_middle (λ m. m.bid ≡ k) m front rest (subst (AllByRecursion (λ m. m.bid ≡ k)) e (all_mapped (λ m. m.bid ≡ k) (first_sub w.text k s.ring) (next_actors w.text s.ring) (λ a. refl))) in
    let actors : next_actors w.text s.ring ≡ map (λ m. m.actor) front ++ m.actor ∷ map (λ m. m.actor) rest = sym (told_actors w.text k s.ring (next_actors w.text s.ring)) ∙ (ap (map (λ m. m.actor)) e ∙ map-append (λ m. m.actor) front (m ∷ rest)) in
    let none : times m.actor (map (λ m. m.actor) front) ≡ 0 = omega (
      arith,
      once m.actor,
      ap (times m.actor) actors,
      times_append m.actor (map (λ m. m.actor) front) (m.actor ∷ map (λ m. m.actor) rest),
      times_cons m.actor m.actor (map (λ m. m.actor) rest),
      ap one_if (eq-eqb m.actor m.actor refl),
    ) in
    found_nowhere (λ x. (x.bid == m.bid) && (x.actor == m.actor)) s.post.subs front (subst (λ z. sub_of z m.actor s.post.subs ≡ None) (sym its.1) (new m.actor)) (none_passes (λ x. (x.bid == m.bid) && (x.actor == m.actor)) front (none_to m.bid m.actor front none))
