-- What is kept, in the order of places.
use Rattle.std.specs.Prelude.{◌≡◌, ◌≢◌, refl, ℕ, ℤ, Option, zero, suc, ◌-◌, ◌<◌, ◌≤◌, ◌==◌, nat_lt, ◌⊎◌, Bool, true, false, ◌&&◌, ◌||◌, if◌then◌else◌, Some, List, [], ◌∷◌, ◌++◌, length, map, slice_index_or, Contains}
use Rattle.std.specs.List.{AllByRecursion, AllPairs}
use Rattle.std.proofs.Common.{arith, sym, subst, inl, inr, ◌∙◌}
use Rattle.std.proofs.lemmas.Bool.{true≢false, or_cases, or_left, or_right, and_parts, and_from, eqb-true, eq-eqb, ltb-true, ltb-false, leb-true, lt-ltb, le-leb}
use Rattle.snap_base.specs.declared.ids.Bid.{Bid}
use Rattle.snap_base.specs.declared.ids.Tid.{Tid}
use Rattle.snap_base.proofs.Booleans.{three_ways}
use Rattle.snap_base.proofs.Lists.{all_join, weaker}
use Rattle.protocol.specs.Records.{LogRecord}
use Rattle.protocol.specs.Parts.{Act, OfAct}
use Rattle.protocol.specs.Words.{act_of}
use Rattle.protocol_records.specs.Crash.{is_in}
use Rattle.snap_recover.specs.declared.openings.Kept.{Kept}
use Rattle.snap_recover.specs.declared.openings.Kept.TheVariants as kept
use Rattle.snap_recover.specs.Opening.{ComesBefore}
use Rattle.snap_recover.proofs.Lists.{contains_cases, contains_here, contains_there}
use Rattle.log_set.specs.Told.{bid_of, tid_of}
use Rattle.recovery_laws.specs.Grown.{comes_before, put_recovered, commit_number_of, told_value, recovered_act, with_acts}
use Rattle.recovery_laws.proofs.KnownLogs.{Apart}

-- ---- lists that rise

-- each comes before all that follow it
abbrev pub Rises : List Kept → Type 0
Rises [] = Unit {0}
Rises (x ∷ xs) = AllByRecursion (ComesBefore x) xs × Rises xs

pub rises_from : (xs : List Kept) → Rises xs → AllPairs ComesBefore xs
rises_from [] h i j d l m = absurd (omega (arith, m, l))
rises_from (x ∷ xs) h i zero d l m = absurd (omega (arith, l))
rises_from (x ∷ xs) h zero (suc j) d l m = at xs j h.0 (omega (arith, m))
  where
    at : (ys : List Kept) (j : ℕ) → AllByRecursion (ComesBefore x) ys → j < length ys → ComesBefore x (slice_index_or ys j d)
    at [] j h l = absurd (omega (arith, l))
    at (y ∷ ys) zero h l = h.0
    at (y ∷ ys) (suc j) h l = at ys j h.1 (omega (arith, l))
rises_from (x ∷ xs) h (suc i) (suc j) d l m = rises_from xs h.1 i j d (omega (arith, l)) (omega (arith, m))

pub rises_to : (xs : List Kept) → AllPairs ComesBefore xs → Rises xs
rises_to [] h = tt
rises_to (x ∷ xs) h = (each xs (λ j l. h 0 (suc j) x (omega arith) (omega (arith, l))), rises_to xs (λ i j d l m. h (suc i) (suc j) d (omega (arith, l)) (omega (arith, m))))
  where
    each : (ys : List Kept) → ((j : ℕ) → j < length ys → ComesBefore x (slice_index_or ys j x)) → AllByRecursion (ComesBefore x) ys
    each [] k = tt
    each (y ∷ ys) k = (k 0 (omega arith), each ys (λ j l. k (suc j) (omega (arith, l))))

-- ---- the order

by_number : (c d e t u v : ℕ) → (c < d) ⊎ ((c ≡ d) × (t < u)) → (d < e) ⊎ ((d ≡ e) × (u < v)) → (c < e) ⊎ ((c ≡ e) × (t < v))
by_number c d e t u v (inl a) (inl b) = inl (omega (arith, a, b))
by_number c d e t u v (inl a) (inr b) = inl (omega (arith, a, b.0))
by_number c d e t u v (inr a) (inl b) = inl (omega (arith, a.0, b))
by_number c d e t u v (inr a) (inr b) = inr (a.0 ∙ b.0, omega (arith, a.1, b.1))

not_below : (m n : ℕ) (P : Type 0) → (m < n) ⊎ ((m ≡ n) × P) → m ≤ n
not_below m n P (inl a) = omega (arith, a)
not_below m n P (inr a) = omega (arith, a.0)

goes_on : (x y z : Kept) → ComesBefore x y → ComesBefore y z → ComesBefore x z
goes_on (kept.Batch a as' av) (kept.Batch b bs bv) (kept.Batch c cs cv) h k = omega (arith, h, k)
goes_on (kept.Batch a as' av) (kept.Batch b bs bv) (kept.Act t m c x1) h k = omega (arith, h, k)
goes_on (kept.Batch a as' av) (kept.Act t m c x1) (kept.Batch b bs bv) h k = omega (arith, h, k)
goes_on (kept.Batch a as' av) (kept.Act t m c x1) (kept.Act u n d x2) h k = omega (arith, h, not_below m.0 n.0 ((c < d) ⊎ ((c ≡ d) × (t.0 < u.0))) k)
goes_on (kept.Act t m c x1) (kept.Batch a as' av) (kept.Batch b bs bv) h k = omega (arith, h, k)
goes_on (kept.Act t m c x1) (kept.Batch a as' av) (kept.Act u n d x2) h k = inl (omega (arith, h, k))
goes_on (kept.Act t m c x1) (kept.Act u n d x2) (kept.Batch b bs bv) h k = omega (arith, not_below m.0 n.0 ((c < d) ⊎ ((c ≡ d) × (t.0 < u.0))) h, k)
goes_on (kept.Act t m c x1) (kept.Act u n d x2) (kept.Act v o e x3) (inl a) (inl b) = inl (omega (arith, a, b))
goes_on (kept.Act t m c x1) (kept.Act u n d x2) (kept.Act v o e x3) (inl a) (inr b) = inl (omega (arith, a, b.0))
goes_on (kept.Act t m c x1) (kept.Act u n d x2) (kept.Act v o e x3) (inr a) (inl b) = inl (omega (arith, a.0, b))
goes_on (kept.Act t m c x1) (kept.Act u n d x2) (kept.Act v o e x3) (inr a) (inr b) = inr (a.0 ∙ b.0, by_number c d e t.0 u.0 v.0 a.1 b.1)

before_true : (x y : Kept) → comes_before x y ≡ true → ComesBefore x y
before_true (kept.Batch a as' av) (kept.Batch b bs bv) e = ltb-true a.0 b.0 e
before_true (kept.Batch a as' av) (kept.Act t m c x1) e = leb-true a.0 m.0 e
before_true (kept.Act t m c x1) (kept.Batch b bs bv) e = ltb-true m.0 b.0 e
before_true (kept.Act t m c x1) (kept.Act u n d x2) e = elim (or_cases (nat_lt m.0 n.0) _ e) [
  | inl q ↦ inl (ltb-true m.0 n.0 q)
  | inr q ↦ let v = and_parts (m.0 == n.0) (nat_lt c d || ((c == d) && nat_lt t.0 u.0)) q in
      inr (
        eqb-true m.0 n.0 v.0,
        elim (or_cases (nat_lt c d) _ v.1) [
          | inl p ↦ inl (ltb-true c d p)
          | inr p ↦ let z = and_parts (c == d) (nat_lt t.0 u.0) p in inr (eqb-true c d z.0, ltb-true t.0 u.0 z.1)
        ],
      )
]

by_number_is : (c d t u : ℕ) → (c < d) ⊎ ((c ≡ d) × (t < u)) → (nat_lt c d || ((c == d) && nat_lt t u)) ≡ true
by_number_is c d t u (inl a) = or_left (nat_lt c d) _ (lt-ltb c d a)
by_number_is c d t u (inr a) = or_right (nat_lt c d) _ (and_from (c == d) (nat_lt t u) (eq-eqb c d a.0) (lt-ltb t u a.1))

before_is : (x y : Kept) → ComesBefore x y → comes_before x y ≡ true
before_is (kept.Batch a as' av) (kept.Batch b bs bv) h = lt-ltb a.0 b.0 h
before_is (kept.Batch a as' av) (kept.Act t m c x1) h = le-leb a.0 m.0 h
before_is (kept.Act t m c x1) (kept.Batch b bs bv) h = lt-ltb m.0 b.0 h
before_is (kept.Act t m c x1) (kept.Act u n d x2) (inl a) = or_left (nat_lt m.0 n.0) _ (lt-ltb m.0 n.0 a)
before_is (kept.Act t m c x1) (kept.Act u n d x2) (inr a) = or_right (nat_lt m.0 n.0) _ (and_from (m.0 == n.0) (nat_lt c d || ((c == d) && nat_lt t.0 u.0)) (eq-eqb m.0 n.0 a.0) (by_number_is c d t.0 u.0 a.1))

-- it is no ACT of this tid
abbrev pub IsOther : ℕ → Kept → Type 0
IsOther n (kept.Batch b tids bv) = Unit {0}
IsOther n (kept.Act t m c x1) = t.0 ≢ n

one_of_two : (t : Tid) (m : Bid) (c : ℕ) (x1 : Option ℤ) (y : Kept) → IsOther t.0 y → ComesBefore (kept.Act t m c x1) y ⊎ ComesBefore y (kept.Act t m c x1)
one_of_two t m c x1 (kept.Batch b tids bv) h = by (nat_lt m.0 b.0) refl
  where
    by : (v : Bool) → nat_lt m.0 b.0 ≡ v → ComesBefore (kept.Act t m c x1) (kept.Batch b tids bv) ⊎ ComesBefore (kept.Batch b tids bv) (kept.Act t m c x1)
    by true e = inl (ltb-true m.0 b.0 e)
    by false e = inr (omega (arith, ltb-false m.0 b.0 e))
one_of_two t m c x1 (kept.Act u n d x2) h = by (three_ways m.0 n.0) (three_ways c d) (three_ways t.0 u.0)
  where
    by : (m.0 < n.0) ⊎ ((m.0 ≡ n.0) ⊎ (n.0 < m.0)) → (c < d) ⊎ ((c ≡ d) ⊎ (d < c)) → (t.0 < u.0) ⊎ ((t.0 ≡ u.0) ⊎ (u.0 < t.0)) → ComesBefore (kept.Act t m c x1) (kept.Act u n d x2) ⊎ ComesBefore (kept.Act u n d x2) (kept.Act t m c x1)
    by (inl a) y z = inl (inl a)
    by (inr (inr a)) y z = inr (inl a)
    by (inr (inl a)) (inl b) z = inl (inr (a, inl b))
    by (inr (inl a)) (inr (inr b)) z = inr (inr (sym a, inl b))
    by (inr (inl a)) (inr (inl b)) (inl k) = inl (inr (a, inr (b, k)))
    by (inr (inl a)) (inr (inl b)) (inr (inr k)) = inr (inr (sym a, inr (sym b, k)))
    by (inr (inl a)) (inr (inl b)) (inr (inl k)) = absurd (h (sym k))

-- ---- one that is put in

put_all : (P : Kept → Type 0) (k : Kept) (xs : List Kept) → P k → AllByRecursion P xs → AllByRecursion P (put_recovered k xs)
put_all P k [] p h = (p, tt)
put_all P k (x ∷ xs) p h = by (comes_before k x) (put_all P k xs p h.1)
  where
    by : (v : Bool) → AllByRecursion P (put_recovered k xs) → AllByRecursion P (if v then k ∷ x ∷ xs else x ∷ put_recovered k xs)
    by true r = (p, h)
    by false r = (h.0, r)

put_rises : (k : Kept) (xs : List Kept) → AllByRecursion (λ y. ComesBefore k y ⊎ ComesBefore y k) xs → Rises xs → Rises (put_recovered k xs)
put_rises k [] h r = (tt, tt)
put_rises k (x ∷ xs) h r = by (comes_before k x) refl (put_rises k xs h.1 r.1)
  where
    behind : ComesBefore k x ⊎ ComesBefore x k → comes_before k x ≡ false → ComesBefore x k
    behind (inl a) e = absurd (true≢false (sym (before_is k x a) ∙ e))
    behind (inr a) e = a

    by : (v : Bool) → comes_before k x ≡ v → Rises (put_recovered k xs) → Rises (if v then k ∷ x ∷ xs else x ∷ put_recovered k xs)
    by true e q = ((before_true k x e, weaker (ComesBefore x) (ComesBefore k) xs (λ y p. goes_on k x y (before_true k x e) p) r.0), r)
    by false e q = (put_all (ComesBefore x) k xs (behind h.0 e) r.0, q)

put_here : {Y : Type 0} (f : Kept → Y) (k : Kept) (xs : List Kept) → Contains (map f (put_recovered k xs)) (f k)
put_here f k [] = contains_here (f k) []
put_here f k (x ∷ xs) = by (comes_before k x) (put_here f k xs)
  where
    by : (v : Bool) → Contains (map f (put_recovered k xs)) (f k) → Contains (map f (if v then k ∷ x ∷ xs else x ∷ put_recovered k xs)) (f k)
    by true r = contains_here (f k) (map f (x ∷ xs))
    by false r = contains_there (f x) (f k) (map f (put_recovered k xs)) r

put_there : {Y : Type 0} (f : Kept → Y) (k : Kept) (c : Y) (xs : List Kept) → Contains (map f xs) c → Contains (map f (put_recovered k xs)) c
put_there f k c [] h = contains_there (f k) c [] h
put_there f k c (x ∷ xs) h = by (comes_before k x) (put_there f k c xs)
  where
    by : (v : Bool) → (Contains (map f xs) c → Contains (map f (put_recovered k xs)) c) → Contains (map f (if v then k ∷ x ∷ xs else x ∷ put_recovered k xs)) c
    by true r = contains_there (f k) c (map f (x ∷ xs)) h
    by false r = elim (contains_cases (f x) c (map f xs) h) [
      | inl e ↦ subst (λ z. Contains (f x ∷ map f (put_recovered k xs)) z) e (contains_here (f x) (map f (put_recovered k xs)))
      | inr q ↦ contains_there (f x) c (map f (put_recovered k xs)) (r q)
    ]

-- ---- ACTs that are put in

pub acts_all : (P : Kept → Type 0) (many : ℕ) (logs : ℕ → List LogRecord) (xs : List Act) (ks : List Kept) → AllByRecursion (λ x. is_in many logs (OfAct x.tid) ≡ true → P (recovered_act x)) xs → AllByRecursion P ks → AllByRecursion P (with_acts many logs xs ks)
acts_all P many logs [] ks h k = k
acts_all P many logs (x ∷ xs) ks h k = by (is_in many logs (OfAct x.tid)) refl (acts_all P many logs xs ks h.1 k)
  where
    by : (v : Bool) → is_in many logs (OfAct x.tid) ≡ v → AllByRecursion P (with_acts many logs xs ks) → AllByRecursion P (if v then put_recovered (recovered_act x) (with_acts many logs xs ks) else with_acts many logs xs ks)
    by true e r = put_all P (recovered_act x) (with_acts many logs xs ks) (h.0 e) r
    by false e r = r

pub acts_rise : (many : ℕ) (logs : ℕ → List LogRecord) (xs : List Act) (ks : List Kept) → Apart xs → ((n : ℕ) → AllByRecursion (IsOther n) ks) → Rises ks → Rises (with_acts many logs xs ks)
acts_rise many logs [] ks a o r = r
acts_rise many logs (x ∷ xs) ks a o r = by (is_in many logs (OfAct x.tid)) (acts_rise many logs xs ks a.1 o r)
  where
    others : AllByRecursion (IsOther x.tid) (with_acts many logs xs ks)
    others = acts_all (IsOther x.tid) many logs xs ks (weaker (λ y. y.tid ≢ x.tid) (λ y. is_in many logs (OfAct y.tid) ≡ true → IsOther x.tid (recovered_act y)) xs (λ y q e. q) a.0) (o x.tid)

    by : (v : Bool) → Rises (with_acts many logs xs ks) → Rises (if v then put_recovered (recovered_act x) (with_acts many logs xs ks) else with_acts many logs xs ks)
    by true q = put_rises (recovered_act x) (with_acts many logs xs ks) (weaker (IsOther x.tid) (λ y. ComesBefore (recovered_act x) y ⊎ ComesBefore y (recovered_act x)) (with_acts many logs xs ks) (λ y p. one_of_two (tid_of x.tid) (bid_of x.m) (commit_number_of x.status) (told_value x.result) y p) others) q
    by false q = q

pub acts_keep : {Y : Type 0} (f : Kept → Y) (many : ℕ) (logs : ℕ → List LogRecord) (xs : List Act) (ks : List Kept) (c : Y) → Contains (map f ks) c → Contains (map f (with_acts many logs xs ks)) c
acts_keep f many logs [] ks c h = h
acts_keep f many logs (x ∷ xs) ks c h = by (is_in many logs (OfAct x.tid)) (acts_keep f many logs xs ks c h)
  where
    by : (v : Bool) → Contains (map f (with_acts many logs xs ks)) c → Contains (map f (if v then put_recovered (recovered_act x) (with_acts many logs xs ks) else with_acts many logs xs ks)) c
    by true q = put_there f (recovered_act x) c (with_acts many logs xs ks) q
    by false q = q

pub acts_have : {Y : Type 0} (f : Kept → Y) (many : ℕ) (logs : ℕ → List LogRecord) (t : ℕ) (y : Act) (xs : List Act) (ks : List Kept) → act_of t xs ≡ Some y → is_in many logs (OfAct t) ≡ true → Contains (map f (with_acts many logs xs ks)) (f (recovered_act y))
acts_have f many logs t y [] ks e h = absurd (cc e)
acts_have f many logs t y (x ∷ xs) ks e h = by (x.tid == t) refl e (acts_have f many logs t y xs ks)
  where
    skip : (v : Bool) → Contains (map f (with_acts many logs xs ks)) (f (recovered_act y)) → Contains (map f (if v then put_recovered (recovered_act x) (with_acts many logs xs ks) else with_acts many logs xs ks)) (f (recovered_act y))
    skip true r = put_there f (recovered_act x) (f (recovered_act y)) (with_acts many logs xs ks) r
    skip false r = r

    here : (v : Bool) → x ≡ y → v ≡ true → Contains (map f (if v then put_recovered (recovered_act x) (with_acts many logs xs ks) else with_acts many logs xs ks)) (f (recovered_act y))
    here true i q = subst (λ z. Contains (map f (put_recovered (recovered_act x) (with_acts many logs xs ks))) (f (recovered_act z))) i (put_here f (recovered_act x) (with_acts many logs xs ks))
    here false i q = absurd (true≢false (sym q))

    by : (v : Bool) → (x.tid == t) ≡ v → (if v then Some x else act_of t xs) ≡ Some y → (act_of t xs ≡ Some y → is_in many logs (OfAct t) ≡ true → Contains (map f (with_acts many logs xs ks)) (f (recovered_act y))) → Contains (map f (with_acts many logs (x ∷ xs) ks)) (f (recovered_act y))
    by true q e r = let i : x ≡ y = cc e in here (is_in many logs (OfAct x.tid)) i (subst (λ z. is_in many logs (OfAct z) ≡ true) (sym (eqb-true x.tid t q)) h)
    by false q e r = skip (is_in many logs (OfAct x.tid)) (r e h)

-- ---- behind earlier runs

-- it is of earlier runs, before these numbers
abbrev pub IsOld : ℕ → ℕ → Kept → Type 0
IsOld bid c (kept.Batch b tids bv) = b.0 < bid
IsOld bid c (kept.Act t m d x1) = (m.0 < bid) × (d < c)

-- it is of this run, from these numbers on
abbrev pub IsNew : ℕ → ℕ → Kept → Type 0
IsNew bid c (kept.Batch b tids bv) = bid ≤ b.0
IsNew bid c (kept.Act t m d x1) = (bid - 1 ≤ m.0) × (c ≤ d)

old_before_new : (bid c : ℕ) (x y : Kept) → 1 ≤ bid → IsOld bid c x → IsNew bid c y → ComesBefore x y
old_before_new bid c (kept.Batch a as' av) (kept.Batch b bs bv) l h k = omega (arith, h, k)
old_before_new bid c (kept.Batch a as' av) (kept.Act t m d x1) l h k = omega (arith, h, k.0, l)
old_before_new bid c (kept.Act t m d x1) (kept.Batch b bs bv) l h k = omega (arith, h.0, k)
old_before_new bid c (kept.Act t m d x1) (kept.Act u n e x2) l h k = by (three_ways m.0 n.0)
  where
    by : (m.0 < n.0) ⊎ ((m.0 ≡ n.0) ⊎ (n.0 < m.0)) → ComesBefore (kept.Act t m d x1) (kept.Act u n e x2)
    by (inl a) = inl a
    by (inr (inl a)) = inr (a, inl (omega (arith, h.1, k.1)))
    by (inr (inr a)) = absurd (omega (arith, a, h.0, k.0, l))

pub rises_join : (bid c : ℕ) (xs ys : List Kept) → 1 ≤ bid → Rises xs → AllByRecursion (IsOld bid c) xs → AllByRecursion (IsNew bid c) ys → Rises ys → Rises (xs ++ ys)
rises_join bid c [] ys l h o n r = r
rises_join bid c (x ∷ xs) ys l h o n r = (all_join (ComesBefore x) xs ys h.0 (weaker (IsNew bid c) (ComesBefore x) ys (λ y q. old_before_new bid c x y l o.0 q) n), rises_join bid c xs ys l h.1 o.1 n r)
