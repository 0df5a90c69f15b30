-- The ring's share: transactions that wait, and the way of the token.
use Rattle.std.specs.Prelude.{◌≡◌, refl, ℕ, zero, suc, ◌+◌, ◌-◌, ◌*◌, ◌%◌, ◌<◌, ◌≤◌, ◌==◌, not, Bool, true, false, ◌||◌, ◌&&◌, if◌then◌else◌, ◌⊎◌, List, [], ◌∷◌, ◌++◌, length, take, drop}
use Rattle.std.specs.List.{list_all}
use Rattle.std.proofs.Common.{arith, sym, ap, subst, inl, inr, ◌∙◌}
use Rattle.std.proofs.Math.Nat.{mod-eq_of_lt, mod_self}
use Rattle.std.proofs.lemmas.Bool.{and_parts, eqb-true, true≢false, cases_lt, not-true}
use Rattle.protocol.specs.Fixed.{Fixed, IsText, tx_at, is_pact}
use Rattle.protocol.specs.Parts.{Ring, Machine}
use Rattle.protocol.specs.Events.{Event, Submit, Pass, Form, Admit}
use Rattle.protocol.specs.Words.{is_empty}
use Rattle.protocol.specs.Conditions.{IsAllowed, conditions, queue, is_idle, is_idle_at}
use Rattle.protocol.specs.Effects.{after}
use Rattle.protocol.specs.Runs.{opening}
use Rattle.protocol.specs.OnRing as ring
use Rattle.protocol.specs.Left.{total, unless, busy_from, way, ring_left}
use Rattle.protocol_theorems.proofs.quiet.LeftLists.{total_set, total_set_most}
use Rattle.protocol_laws.proofs.first.Times
use Rattle.protocol_laws.proofs.first.OnePlace.{remainder}
use Rattle.protocol_laws.proofs.machine.QueuedKept.{replicated}

-- ---- the ring has its coordinators

pub record Round (c holder : ℕ) (ps xs : List (List ℕ)) : Type 0 where
  pub holds : holder < c
  pub pacts : length ps ≡ c
  pub acts : length xs ≡ c

pub IsRound : {C : Type 0} → Fixed C → Machine C → Type 0
IsRound w s = Round w.text.coordinators s.ring.holder s.ring.pacts s.ring.acts

pub round_is : {C : Type 0} (w : Fixed C) (s : Machine C) → IsRound w s → Round w.text.coordinators s.ring.holder s.ring.pacts s.ring.acts
unfolding IsRound
round_is w s h = h

if_length : {X : Type 0} (b : Bool) (xs ys : List X) (n : ℕ) → length xs ≡ n → length ys ≡ n → length (if b then xs else ys) ≡ n
if_length true xs ys n h k = h
if_length false xs ys n h k = k

pub round_kept : {C : Type 0} (w : Fixed C) (e : Event) (s : Machine C) → IsText w.text → IsAllowed w e s → IsRound w s → IsRound w (after w e s)
unfolding IsRound conditions after
round_kept w (Submit n) s v ok h = record { holds = h.holds; pacts = if_length (is_pact (tx_at w.text n)) _ _ _ (Times.length_set s.ring.pacts _ _ ∙ h.pacts) h.pacts; acts = if_length (is_pact (tx_at w.text n)) _ _ _ h.acts (Times.length_set s.ring.acts _ _ ∙ h.acts) }
round_kept w (Pass c) s v ok h = record { holds = subst (λ z. z < w.text.coordinators) (sym (eqb-true c ((s.ring.holder + 1) % w.text.coordinators) ok.0)) (remainder (s.ring.holder + 1) w.text.coordinators v.some_coordinators); pacts = h.pacts; acts = h.acts }
round_kept w (Form k) s v ok h = record { holds = h.holds; pacts = Times.length_set s.ring.pacts _ _ ∙ h.pacts; acts = h.acts }
round_kept w (Admit t) s v ok h = record { holds = h.holds; pacts = h.pacts; acts = Times.length_set s.ring.acts _ _ ∙ h.acts }
round_kept w e s v ok h = h

pub round_opened : {C : Type 0} (w : Fixed C) → IsText w.text → IsRound w (opening w)
unfolding IsRound
round_opened w v = record { holds = v.some_coordinators; pacts = replicated w.text.coordinators []; acts = replicated w.text.coordinators [] }

-- ---- the token's way

pub way_most : (c : ℕ) (r : Ring) → way c r ≤ 2 * c
way_most c r = by (is_idle r) (busy_from r.holder r.pacts || busy_from r.holder r.acts)
  where
    by : (i b : Bool) → unless i ((c - 1 - r.holder) + unless b c) ≤ 2 * c
    by true b = omega arith
    by false true = omega arith
    by false false = omega arith

busy_next : (h : ℕ) (qs : List (List ℕ)) → is_empty (queue qs h) ≡ true → busy_from (suc h) qs ≡ busy_from h qs
busy_next h [] e = refl
busy_next zero (q ∷ []) e = rw e refl
busy_next zero (q ∷ r ∷ qs) e = rw e refl
busy_next (suc h) (q ∷ qs) e = busy_next h qs e

busy_end : (h : ℕ) (qs : List (List ℕ)) → length qs ≤ h → busy_from h qs ≡ false
busy_end h [] l = refl
busy_end zero (q ∷ qs) l = absurd (omega (arith, l))
busy_end (suc h) (q ∷ qs) l = busy_end h qs (omega (arith, l))

busy_all : (qs : List (List ℕ)) → busy_from 0 qs ≡ not (list_all is_empty qs)
busy_all [] = refl
busy_all (q ∷ qs) = refl

some_busy : (a b : Bool) → not (a && b) ≡ true → (not a || not b) ≡ true
some_busy true true e = e
some_busy true false e = refl
some_busy false b e = refl

on_way : (c h h' : ℕ) (b b' : Bool) → (c - 1 - h') + unless b' c + 1 ≤ (c - 1 - h) + unless b c → (i : Bool) → i ≡ false → unless i ((c - 1 - h') + unless b' c) + 1 ≤ unless i ((c - 1 - h) + unless b c)
on_way c h h' b b' l true e = absurd (true≢false e)
on_way c h h' b b' l false e = l

pub pass_falls : (c to : ℕ) (r : Ring) → Round c r.holder r.pacts r.acts → (to == (r.holder + 1) % c) ≡ true → is_idle_at r.holder r ≡ true → not (is_idle r) ≡ true → way c (ring.passed to r) + 1 ≤ way c r
pass_falls c to r v e i n =
    let q = and_parts (is_empty (queue r.pacts r.holder)) (is_empty (queue r.acts r.holder)) i in
    on_way c r.holder to (busy_from r.holder r.pacts || busy_from r.holder r.acts) (busy_from to r.pacts || busy_from to r.acts)
    (by (cases_lt (suc r.holder) c) (busy_next r.holder r.pacts q.0) (busy_next r.holder r.acts q.1) (eqb-true to ((r.holder + 1) % c) e)) (is_idle r) (not-true (is_idle r) n)
  where
    by : (suc r.holder < c) ⊎ (c ≤ suc r.holder) → busy_from (suc r.holder) r.pacts ≡ busy_from r.holder r.pacts → busy_from (suc r.holder) r.acts ≡ busy_from r.holder r.acts → to ≡ (r.holder + 1) % c
        → (c - 1 - to) + unless (busy_from to r.pacts || busy_from to r.acts) c + 1 ≤ (c - 1 - r.holder) + unless (busy_from r.holder r.pacts || busy_from r.holder r.acts) c
    by (inl l) p q m =
        let j : r.holder + 1 ≡ suc r.holder = omega arith in
        let g : to ≡ suc r.holder = m ∙ (mod-eq_of_lt (omega (arith, l)) ∙ j) in
        rw (g, p, q) (omega (arith, l))
    by (inr l) p q m =
        let j : r.holder + 1 ≡ c = omega (arith, l, v.holds) in
        let g : to ≡ 0 = m ∙ (ap (λ z. z % c) j ∙ mod_self c) in
        let x : busy_from r.holder r.pacts ≡ false = sym p ∙ busy_end (suc r.holder) r.pacts (omega (arith, l, v.pacts)) in
        let y : busy_from r.holder r.acts ≡ false = sym q ∙ busy_end (suc r.holder) r.acts (omega (arith, l, v.acts)) in
        let z : (busy_from 0 r.pacts || busy_from 0 r.acts) ≡ true = rw (busy_all r.pacts, busy_all r.acts) (some_busy (list_all is_empty r.pacts) (list_all is_empty r.acts) n) in
        rw (g, x, y, z) (omega (arith, v.holds))

-- ---- queues

pub joined_most : (c n : ℕ) (qs : List (List ℕ)) → total length (ring.joined_at c n qs) ≤ total length qs + 1
joined_most c n qs = total_set_most length qs c [] (queue qs c ++ n ∷ []) 1 (omega (arith, Times.length_join (queue qs c) (n ∷ [])))

split : {X : Type 0} (n : ℕ) (xs : List X) → length (take n xs) + length (drop n xs) ≡ length xs
split zero xs = omega arith
split (suc n) [] = omega arith
split (suc n) (x ∷ xs) = omega (arith, split n xs)

some_in_range : (qs : List (List ℕ)) (c : ℕ) → not (is_empty (queue qs c)) ≡ true → c < length qs
some_in_range [] c e = absurd (true≢false (sym e))
some_in_range (q ∷ qs) zero e = omega arith
some_in_range (q ∷ qs) (suc c) e = omega (arith, some_in_range qs c e)

pub left_falls : (c few : ℕ) (qs : List (List ℕ)) → not (is_empty (queue qs c)) ≡ true → total length (ring.left_at c few qs) + length (take few (queue qs c)) ≡ total length qs
left_falls c few qs e = omega (arith, total_set length qs c [] (drop few (queue qs c)) (some_in_range qs c e), split few (queue qs c))

pub some_taken : (few : ℕ) (q : List ℕ) → 1 ≤ few → not (is_empty q) ≡ true → 1 ≤ length (take few q)
some_taken zero q l e = absurd (omega (arith, l))
some_taken (suc few) [] l e = absurd (true≢false (sym e))
some_taken (suc few) (x ∷ q) l e = omega arith

pub submit_falls : {C : Type 0} (w : Fixed C) (n : ℕ) (r : Ring) → w.text.coordinators ≤ 8 → r.next_tx < length w.text.txs → ring_left w (ring.submitted w.text n r) + 1 ≤ ring_left w r
submit_falls w n r c l = by (is_pact (tx_at w.text n)) (way_most w.text.coordinators (ring.submitted w.text n r))
  where
    by : (b : Bool) → way w.text.coordinators (ring.submitted w.text n r) ≤ 2 * w.text.coordinators → 927 * (length w.text.txs - (r.next_tx + 1)) + (910 * (total length (if b then ring.joined_at (n % w.text.coordinators) n r.pacts else r.pacts) + total length (if b then r.acts else ring.joined_at (n % w.text.coordinators) n r.acts)) + way w.text.coordinators (ring.submitted w.text n r)) + 1 ≤ ring_left w r
    by true h = omega (arith, h, c, l, joined_most (n % w.text.coordinators) n r.pacts)
    by false h = omega (arith, h, c, l, joined_most (n % w.text.coordinators) n r.acts)

pub form_falls : {C : Type 0} (w : Fixed C) (k : ℕ) (r : Ring) → w.text.coordinators ≤ 8 → not (is_empty (queue r.pacts r.holder)) ≡ true → ring_left w (ring.formed (ring.planned w.text k r) w.text.batch r) + 910 * length (take w.text.batch (queue r.pacts r.holder)) ≤ ring_left w r + 16
form_falls w k r c e = omega (arith, c, way_most w.text.coordinators (ring.formed (ring.planned w.text k r) w.text.batch r), left_falls r.holder w.text.batch r.pacts e)

pub admit_falls : {C : Type 0} (w : Fixed C) (r : Ring) → w.text.coordinators ≤ 8 → not (is_empty (queue r.acts r.holder)) ≡ true → ring_left w (ring.admitted r) + 910 ≤ ring_left w r + 16
admit_falls w r c e = omega (arith, c, way_most w.text.coordinators (ring.admitted r), left_falls r.holder 1 r.acts e, some_taken 1 (queue r.acts r.holder) (omega arith) e)
