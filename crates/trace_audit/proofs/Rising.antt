-- Along a chain of what committed, the greatest places of those that only read and of the others are enough: places rise to a
-- transaction exactly where each of its elements is above them.
use Rattle.std.specs.Prelude.{◌≡◌, refl, ℕ, ◌==◌, nat_lt, not, Bool, true, false, ◌&&◌, ◌||◌, if◌then◌else◌, Option, Some, None, List, [], ◌∷◌, ◌++◌, map}
use Rattle.std.specs.List.{list_all}
use Rattle.std.proofs.Common.{arith, sym, ap, subst, inl, inr, ◌∙◌}
use Rattle.std.proofs.lemmas.Bool.{and_cases, and_from, and_parts, cases_lt, eqb-true, eqb-false, eq-eqb, lt-ltb, ltb-true, ltb-false, or_cases, or_left, or_parts, or_right}
use Rattle.std.proofs.lemmas.List.{append-nil, append_assoc}
use Rattle.snap_base.proofs.Booleans.{and_false, and_true}
use Rattle.snap_base.specs.declared.verdicts.Place.{Place}
use Rattle.protocol.specs.History.{Done}
use Rattle.protocol.specs.Chains.{Precedes, is_place_below}
use Rattle.audit_words.specs.Orders.{seen_done}
use Rattle.audit_tale.specs.Knows.{member_of}
use Rattle.audit_tale.specs.declared.tales.MemberTale.{MemberTale}
use Rattle.trace_audit.specs.Risen.{above_top, is_above, readers_top, rises_to, topped, writers_top}

-- ---- the order of places

-- one number, then a further test
chained : (a b c : ℕ) (x y z : Bool) → (x ≡ true → y ≡ true → z ≡ true) → (nat_lt a b || ((a == b) && x)) ≡ true → (nat_lt b c || ((b == c) && y)) ≡ true → (nat_lt a c || ((a == c) && z)) ≡ true
chained a b c x y z k h g = elim (or_cases (nat_lt a b) ((a == b) && x) h) [
  | inl p ↦ elim (or_cases (nat_lt b c) ((b == c) && y) g) [
    | inl q ↦ or_left (nat_lt a c) ((a == c) && z) (lt-ltb a c (omega (arith, ltb-true a b p, ltb-true b c q)))
    | inr q ↦ or_left (nat_lt a c) ((a == c) && z) (lt-ltb a c (omega (arith, ltb-true a b p, eqb-true b c (and_parts (b == c) y q).0)))
  ]
  | inr p ↦ elim (or_cases (nat_lt b c) ((b == c) && y) g) [
    | inl q ↦ or_left (nat_lt a c) ((a == c) && z) (lt-ltb a c (omega (arith, eqb-true a b (and_parts (a == b) x p).0, ltb-true b c q)))
    | inr q ↦
        let i = and_parts (a == b) x p in
        let j = and_parts (b == c) y q in
        or_right (nat_lt a c) ((a == c) && z) (and_from (a == c) z (eq-eqb a c (omega (arith, eqb-true a b i.0, eqb-true b c j.0))) (k i.1 j.1))
  ]
]

below_trans : (p q r : Place) → is_place_below p q ≡ true → is_place_below q r ≡ true → is_place_below p r ≡ true
below_trans p q r =
    chained p.batch.0 q.batch.0 r.batch.0 _ _ _ (chained p.side q.side r.side _ _ _ (λ h g. lt-ltb p.order r.order (omega (arith, ltb-true p.order q.order h, ltb-true q.order r.order g))))

-- a is not below b, and is below c
turned : (a b c : ℕ) (x y z : Bool) → (x ≡ false → y ≡ true → z ≡ true) → (nat_lt a b || ((a == b) && x)) ≡ false → (nat_lt a c || ((a == c) && y)) ≡ true → (nat_lt b c || ((b == c) && z)) ≡ true
turned a b c x y z k h g =
    let no = or_parts (nat_lt a b) ((a == b) && x) h in
    let low = ltb-false a b no.0 in
    elim (or_cases (nat_lt a c) ((a == c) && y) g) [
      | inl q ↦ or_left (nat_lt b c) ((b == c) && z) (lt-ltb b c (omega (arith, low, ltb-true a c q)))
      | inr q ↦
          let j = and_parts (a == c) y q in
          let same = eqb-true a c j.0 in
          elim (cases_lt b a) [
            | inl less ↦ or_left (nat_lt b c) ((b == c) && z) (lt-ltb b c (omega (arith, less, same)))
            | inr more ↦
                let one : a ≡ b = omega (arith, low, more) in
                elim (and_cases (a == b) x no.1) [
                  | inl off ↦ absurd (eqb-false a b off one)
                  | inr off ↦ or_right (nat_lt b c) ((b == c) && z) (and_from (b == c) z (eq-eqb b c (omega (arith, one, same))) (k off j.1))
                ]
          ]
    ]

below_turned : (p q r : Place) → is_place_below p q ≡ false → is_place_below p r ≡ true → is_place_below q r ≡ true
below_turned p q r =
    turned p.batch.0 q.batch.0 r.batch.0 _ _ _ (turned p.side q.side r.side _ _ _ (λ h g. lt-ltb q.order r.order (omega (arith, ltb-false p.order q.order h, ltb-true p.order r.order g))))

-- ---- above the greatest is above all

topped_both : (top : Option Place) (p e : Place) → above_top (topped top p) e ≡ (above_top top e && is_place_below p e)
topped_both None p e = refl
topped_both (Some q) p e = by (is_place_below q p) refl
  where
    when : (b c : Bool) → (c ≡ true → b ≡ true) → c ≡ (b && c)
    when true c h = refl
    when false true h = sym (h refl)
    when false false h = refl

    then_too : (b c : Bool) → (b ≡ true → c ≡ true) → b ≡ (b && c)
    then_too true c h = sym (h refl)
    then_too false c h = refl

    by : (b : Bool) → is_place_below q p ≡ b → above_top (if b then Some p else Some q) e ≡ (is_place_below q e && is_place_below p e)
    by true h = when (is_place_below q e) (is_place_below p e) (below_trans q p e h)
    by false h = then_too (is_place_below q e) (is_place_below p e) (below_turned q p e h)

-- the place is above those of all that don't only read, and of all that do
above_writers : Place → List Done → Bool
above_writers p front = list_all (λ d. d.reader || is_place_below d.place p) front

above_readers : Place → List Done → Bool
above_readers p front = list_all (λ d. not d.reader || is_place_below d.place p) front

-- one that only reads or doesn't has its place above those of all that it can't pass
above_all : Bool → Place → List Done → Bool
above_all reader p front = list_all (λ d. (d.reader && reader) || is_place_below d.place p) front

all_more : (test : Done → Bool) (xs : List Done) (x : Done) → list_all test (xs ++ x ∷ []) ≡ (list_all test xs && test x)
all_more test [] x = and_true (test x)
all_more test (y ∷ xs) x = by (test y) (all_more test xs x)
  where
    by : (b : Bool) → list_all test (xs ++ x ∷ []) ≡ (list_all test xs && test x) → (b && list_all test (xs ++ x ∷ [])) ≡ ((b && list_all test xs) && test x)
    by true h = h
    by false h = refl

above_both : (reader : Bool) (p : Place) (front : List Done) → (above_writers p front && (reader || above_readers p front)) ≡ above_all reader p front
unfolding above_writers above_readers above_all
above_both true p [] = refl
above_both false p [] = refl
above_both reader p (d ∷ front) = by d.reader (is_place_below d.place p) reader (above_writers p front) (above_readers p front)
    ∙ ap (λ (b : Bool). ((d.reader && reader) || is_place_below d.place p) && b) (above_both reader p front)
  where
    by : (f b r w s : Bool) → (((f || b) && w) && (r || ((not f || b) && s))) ≡ (((f && r) || b) && (w && (r || s)))
    by true true true w s = refl
    by true true false w s = refl
    by true false true w s = refl
    by true false false w s = and_false w
    by false true true w s = refl
    by false true false w s = refl
    by false false r w s = refl

-- what is kept of who stands in front
record Tops (writers readers : Option Place) (front : List Done) : Type 0 where
  of_writers : (e : Place) → above_top writers e ≡ above_writers e front
  of_readers : (e : Place) → above_top readers e ≡ above_readers e front

-- a member at its place
abbrev pub done_of : (ℕ → List ℕ) → MemberTale → Done
done_of ran m = seen_done ran (member_of m)

tops_more : (ran : ℕ → List ℕ) (writers readers : Option Place) (front : List Done) (m : MemberTale) → Tops writers readers front → Tops (writers_top writers m) (readers_top readers m) (front ++ done_of ran m ∷ [])
unfolding above_writers above_readers
tops_more ran writers readers front m h = record {
  of_writers = λ e. written e m.reader ∙ sym (all_more (λ d. d.reader || is_place_below d.place e) front (done_of ran m));
  of_readers = λ e. read e m.reader ∙ sym (all_more (λ d. not d.reader || is_place_below d.place e) front (done_of ran m));
}
  where
    written : (e : Place) (b : Bool) → above_top (if b then writers else topped writers m.place) e ≡ (above_writers e front && (b || is_place_below m.place e))
    written e true = h.of_writers e ∙ sym (and_true (above_writers e front))
    written e false = topped_both writers m.place e ∙ ap (λ (z : Bool). z && is_place_below m.place e) (h.of_writers e)

    read : (e : Place) (b : Bool) → above_top (if b then topped readers m.place else readers) e ≡ (above_readers e front && (not b || is_place_below m.place e))
    read e true = topped_both readers m.place e ∙ ap (λ (z : Bool). z && is_place_below m.place e) (h.of_readers e)
    read e false = h.of_readers e ∙ sym (and_true (above_readers e front))

-- ---- each element against all before it

rises_after : ℕ → List Done → List Done → Bool
rises_after n front [] = true
rises_after n front (d ∷ ds) = (not (d.tx == n) || above_all d.reader d.place front) && rises_after n (front ++ d ∷ []) ds

same_rise : (ran : ℕ → List ℕ) (n : ℕ) (writers readers : Option Place) (front : List Done) (ms : List MemberTale) → Tops writers readers front → rises_to n writers readers ms ≡ rises_after n front (map (done_of ran) ms)
unfolding rises_after
same_rise ran n writers readers front [] h = refl
same_rise ran n writers readers front (m ∷ ms) h =
    ap (λ (b : Bool). (not (m.tx.0 == n) || b) && rises_to n (writers_top writers m) (readers_top readers m) ms) above
    ∙ ap (λ (b : Bool). (not (m.tx.0 == n) || above_all m.reader m.place front) && b) (same_rise ran n (writers_top writers m) (readers_top readers m) (front ++ done_of ran m ∷ []) ms (tops_more ran writers readers front m h))
  where
    above : is_above writers readers m ≡ above_all m.reader m.place front
    above = ap (λ (b : Bool). b && (m.reader || above_top readers m.place)) (h.of_writers m.place)
        ∙ (ap (λ (b : Bool). above_writers m.place front && (m.reader || b)) (h.of_readers m.place) ∙ above_both m.reader m.place front)

from_true : (b c : Bool) → b ≡ true → (not b || c) ≡ true → c ≡ true
from_true true c e h = h
from_true false c e h = absurd (by e)
  where
    by : false ≡ true → ⊥
    by e = cc

above_at : (n : ℕ) (front bs : List Done) (e : Done) (rest : List Done) → rises_after n front (bs ++ e ∷ rest) ≡ true → (e.tx == n) ≡ true → above_all e.reader e.place (front ++ bs) ≡ true
unfolding rises_after
above_at n front [] e rest h q =
    subst (λ (z : List Done). above_all e.reader e.place z ≡ true) (sym (append-nil front))
    (from_true (e.tx == n) (above_all e.reader e.place front) q (and_parts (not (e.tx == n) || above_all e.reader e.place front) (rises_after n (front ++ e ∷ []) rest) h).0)
above_at n front (b ∷ bs) e rest h q =
    subst (λ (z : List Done). above_all e.reader e.place z ≡ true) (append_assoc front (b ∷ []) bs)
    (above_at n (front ++ b ∷ []) bs e rest (and_parts (not (b.tx == n) || above_all b.reader b.place front) (rises_after n (front ++ b ∷ []) (bs ++ e ∷ rest)) h).1 q)

one_of_all : (test : Done → Bool) (front : List Done) (d : Done) (rest : List Done) → list_all test (front ++ d ∷ rest) ≡ true → test d ≡ true
one_of_all test [] d rest h = (and_parts (test d) (list_all test rest) h).0
one_of_all test (x ∷ front) d rest h = one_of_all test front d rest (and_parts (test x) (list_all test (front ++ d ∷ rest)) h).1

or_second : (b c : Bool) → b ≡ false → (b || c) ≡ true → c ≡ true
or_second true c e h = absurd (by e)
  where
    by : true ≡ false → ⊥
    by e = cc
or_second false c e h = h

-- places rise to the second one of each two rivals
rise_pairs : (n : ℕ) (c : List Done) → rises_after n [] c ≡ true → (t u : ℕ) (p : Precedes t u c) → p.second.tx ≡ n → is_place_below p.first.place p.second.place ≡ true
unfolding above_all
rise_pairs n c h t u p e =
    let cut = p.splits ∙ sym (append_assoc p.front (p.first ∷ p.between) (p.second ∷ p.rest)) in
    or_second (p.first.reader && p.second.reader) (is_place_below p.first.place p.second.place) p.rivals
    (one_of_all (λ d. (d.reader && p.second.reader) || is_place_below d.place p.second.place) p.front p.first p.between
    (above_at n [] (p.front ++ p.first ∷ p.between) p.second p.rest (subst (λ (z : List Done). rises_after n [] z ≡ true) cut h) (eq-eqb p.second.tx n e)))

-- ---- and the other way round

rises_by : (n : ℕ) (front ds : List Done) → ((bs : List Done) (e : Done) (rest : List Done) → ds ≡ bs ++ e ∷ rest → (e.tx == n) ≡ true → above_all e.reader e.place (front ++ bs) ≡ true) → rises_after n front ds ≡ true
unfolding rises_after
rises_by n front [] h = refl
rises_by n front (d ∷ ds) h = and_from (not (d.tx == n) || above_all d.reader d.place front) (rises_after n (front ++ d ∷ []) ds) (by (d.tx == n) refl)
    (rises_by n (front ++ d ∷ []) ds (λ bs e rest s q. subst (λ (z : List Done). above_all e.reader e.place z ≡ true) (sym (append_assoc front (d ∷ []) bs)) (h (d ∷ bs) e rest (ap (λ (z : List Done). d ∷ z) s) q)))
  where
    by : (b : Bool) → (d.tx == n) ≡ b → (not b || above_all d.reader d.place front) ≡ true
    by true q = subst (λ (z : List Done). above_all d.reader d.place z ≡ true) (append-nil front) (h [] d ds refl q)
    by false q = refl

all_by : (test : Done → Bool) (xs : List Done) → ((front : List Done) (d : Done) (rest : List Done) → xs ≡ front ++ d ∷ rest → test d ≡ true) → list_all test xs ≡ true
all_by test [] h = refl
all_by test (x ∷ xs) h = and_from (test x) (list_all test xs) (h [] x xs refl) (all_by test xs (λ front d rest s. h (x ∷ front) d rest (ap (λ (z : List Done). x ∷ z) s)))

pairs_rise : (n : ℕ) (c : List Done) → ((t u : ℕ) (p : Precedes t u c) → p.second.tx ≡ n → is_place_below p.first.place p.second.place ≡ true) → rises_after n [] c ≡ true
unfolding above_all
pairs_rise n c h = rises_by n [] c (λ bs e rest s q. all_by (λ d. (d.reader && e.reader) || is_place_below d.place e.place) bs (λ front d between r. by e rest bs s q front d between r (d.reader && e.reader) refl))
  where
    by : (e : Done) (rest : List Done) (bs : List Done) → c ≡ bs ++ e ∷ rest → (e.tx == n) ≡ true → (front : List Done) (d : Done) (between : List Done) → bs ≡ front ++ d ∷ between → (b : Bool) → (d.reader && e.reader) ≡ b → (b || is_place_below d.place e.place) ≡ true
    by e rest bs s q front d between r true k = refl
    by e rest bs s q front d between r false k = h d.tid e.tid
        (record {
          first = d;
          second = e;
          front = front;
          between = between;
          rest = rest;
          splits = s ∙ (ap (λ (z : List Done). z ++ e ∷ rest) r ∙ append_assoc front (d ∷ between) (e ∷ rest));
          is_first = refl;
          is_second = refl;
          rivals = k;
        })
        (eqb-true e.tx n q)

-- ---- a chain of members

nothing_ahead : Tops None None []
unfolding above_writers above_readers
nothing_ahead = record { of_writers = λ e. refl; of_readers = λ e. refl }

pub pairs_of_chain : (ran : ℕ → List ℕ) (n : ℕ) (ms : List MemberTale) → rises_to n None None ms ≡ true → (t u : ℕ) (p : Precedes t u (map (done_of ran) ms)) → p.second.tx ≡ n → is_place_below p.first.place p.second.place ≡ true
pairs_of_chain ran n ms h = rise_pairs n (map (done_of ran) ms) (sym (same_rise ran n None None [] ms nothing_ahead) ∙ h)

pub chain_of_pairs : (ran : ℕ → List ℕ) (n : ℕ) (ms : List MemberTale) → ((t u : ℕ) (p : Precedes t u (map (done_of ran) ms)) → p.second.tx ≡ n → is_place_below p.first.place p.second.place ≡ true) → rises_to n None None ms ≡ true
chain_of_pairs ran n ms h = same_rise ran n None None [] ms nothing_ahead ∙ pairs_rise n (map (done_of ran) ms) h
