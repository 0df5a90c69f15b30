-- What pairs and before numbers say of the ACTs that are found by their tids.
use Rattle.std.specs.Prelude.{◌≡◌, refl, ℕ, ◌+◌, ◌<◌, ◌≤◌, ◌==◌, Bool, true, false, ◌&&◌, if◌then◌else◌, Some, List, [], ◌∷◌, ◌++◌, map}
use Rattle.std.specs.List.{AllByRecursion}
use Rattle.std.proofs.Common.{arith, subst}
use Rattle.std.proofs.lemmas.Bool.{eqb-true, eq-eqb, ne_eqb, or_left, or_right}
use Rattle.protocol.specs.Fixed.{Fixed, IsText, base}
use Rattle.protocol.specs.Parts.{Act, Pair, Machine}
use Rattle.protocol.specs.Events.{Event, Form, Admit}
use Rattle.protocol.specs.Words.{is_doomed, act_of, is_ordered}
use Rattle.protocol.specs.Spread.{stands_behind, carries_to}
use Rattle.protocol.specs.Conditions.{IsAllowed, conditions}
use Rattle.protocol.specs.Effects.{after}
use Rattle.protocol.specs.Runs.{opening, IsRun, reached}
use Rattle.protocol.specs.Contents.{NextTid, ActTids}
use Rattle.protocol.specs.Standing.{IsOlder, CarriesNumber, PairsStand}
use Rattle.protocol_laws.proofs.first.Along.{along}
use Rattle.protocol_laws.proofs.first.Frames.{frame}
use Rattle.protocol_laws.proofs.first.Times
use Rattle.protocol_laws.proofs.first.Pairs.{Over, CarriedOn, some_is, over_found, carried_step, based_is}
use Rattle.protocol_laws.proofs.first.PairsKept.{Standing, standing_is, kept, opened}

-- ---- tids ascend along the book

-- each is at least the first number, greater than those before it, and below the last number
unfoldable pub Ascend : ℕ → ℕ → List ℕ → Type 0
Ascend low high [] = low ≤ high
Ascend low high (t ∷ ts) = (low ≤ t) × Ascend (t + 1) high ts

pub ascend_more : (low high : ℕ) (ts : List ℕ) → Ascend low high ts → Ascend low (high + 1) (ts ++ high ∷ [])
unfolding Ascend
ascend_more low high [] h = (h, omega arith)
ascend_more low high (t ∷ ts) h = (h.0, ascend_more (t + 1) high ts h.1)

ascend_higher : (low high more : ℕ) (ts : List ℕ) → Ascend low high ts → Ascend low (high + more) ts
unfolding Ascend
ascend_higher low high more [] h = omega (arith, h)
ascend_higher low high more (t ∷ ts) h = (h.0, ascend_higher (t + 1) high more ts h.1)

unfoldable pub TidsAscend : {C : Type 0} → Machine C → Type 0
TidsAscend s = Ascend 0 s.ring.next_tid (map (λ x. x.tid) s.book.acts)

pub tids_kept : {C : Type 0} (w : Fixed C) (e : Event) (s : Machine C) → IsAllowed w e s → TidsAscend s → TidsAscend (after w e s)
unfolding TidsAscend conditions after
tids_kept w (Form k) s ok h = ascend_higher 0 s.ring.next_tid _ _ h
tids_kept w (Admit t) s ok h = rw (Times.map_join (λ x. x.tid) s.book.acts _, eqb-true t s.ring.next_tid ok.0) (ascend_more 0 s.ring.next_tid _ h)
tids_kept w e s ok h = rw (frame w e s NextTid refl, frame w e s ActTids refl) h

-- ---- found by tid

pub found_tid : (t : ℕ) (xs : List Act) (x : Act) → act_of t xs ≡ Some x → x.tid ≡ t
found_tid t [] x e = absurd (cc e)
found_tid t (y ∷ ys) x e = by (y.tid == t) refl e (found_tid t ys x)
  where
    by : (b : Bool) → (y.tid == t) ≡ b → (if b then Some y else act_of t ys) ≡ Some x → (act_of t ys ≡ Some x → x.tid ≡ t) → x.tid ≡ t
    by true q e k = subst (λ z. z.tid ≡ t) (some_is y x e) (eqb-true y.tid t q)
    by false q e k = k e

-- it is further on
pub further : (low high t : ℕ) (xs : List Act) (x : Act) → Ascend low high (map (λ y. y.tid) xs) → act_of t xs ≡ Some x → low ≤ t
unfolding Ascend
further low high t [] x a e = absurd (cc e)
further low high t (y ∷ ys) x a e = by (y.tid == t) refl e (further (y.tid + 1) high t ys x a.1)
  where
    by : (b : Bool) → (y.tid == t) ≡ b → (if b then Some y else act_of t ys) ≡ Some x → (act_of t ys ≡ Some x → y.tid + 1 ≤ t) → low ≤ t
    by true q e k = omega (arith, eqb-true y.tid t q, a.0)
    by false q e k = omega (arith, k e, a.0)

pub carried_found : (ps : List Pair) (low high t u : ℕ) (acts : List Act) (x y : Act) → Ascend low high (map (λ z. z.tid) acts) → CarriedOn ps acts → t < u
    → act_of t acts ≡ Some x → act_of u acts ≡ Some y → carries_to ps x y ≡ true → y.m ≤ x.m
unfolding Ascend
carried_found ps low high t u [] x y a h lt e f c = absurd (cc e)
carried_found ps low high t u (z ∷ zs) x y a h lt e f c = by (z.tid == t) (z.tid == u) refl refl e f (carried_found ps (z.tid + 1) high t u zs x y a.1 (carried_step ps z zs h).1 lt)
  where
    by : (p q : Bool) → (z.tid == t) ≡ p → (z.tid == u) ≡ q → (if p then Some z else act_of t zs) ≡ Some x → (if q then Some z else act_of u zs) ≡ Some y
        → (act_of t zs ≡ Some x → act_of u zs ≡ Some y → carries_to ps x y ≡ true → y.m ≤ x.m) → y.m ≤ x.m
    by true true i j e f k = absurd (omega (arith, eqb-true z.tid t i, eqb-true z.tid u j, lt))
    by true false i j e f k = let r : z ≡ x = some_is z x e in over_found ps x u zs y (subst (λ v. Over ps v zs) r (carried_step ps z zs h).0) f c
    by false true i j e f k = absurd (omega (arith, eqb-true z.tid u j, lt, further (z.tid + 1) high t zs x a.1 e))
    by false false i j e f k = k e f c

-- ---- the law

pub same_pair : (p : Pair) → ((p.behind == p.behind) && (p.ahead == p.ahead)) ≡ true
same_pair p = rw (eq-eqb p.behind p.behind refl, eq-eqb p.ahead p.ahead refl) refl

all_carry : {C : Type 0} (s : Machine C) (ps : List Pair) → TidsAscend s → CarriedOn s.book.pairs s.book.acts → AllByRecursion IsOlder ps
    → ((t u : ℕ) → stands_behind ps t u ≡ true → stands_behind s.book.pairs t u ≡ true) → AllByRecursion (CarriesNumber s.book) ps
unfolding TidsAscend
all_carry s [] a h o k = tt
all_carry s (p ∷ ps) a h o k = (λ x y e f l d. one x y e f l d, all_carry s ps a h o.1 (λ t u q. k t u (or_right ((p.behind == t) && (p.ahead == u)) (stands_behind ps t u) q)))
  where
    one : (x y : Act) → act_of p.behind s.book.acts ≡ Some x → act_of p.ahead s.book.acts ≡ Some y → is_ordered x.status ≡ false → is_doomed y.status ≡ false → y.m ≤ x.m
    one x y e f l d =
        let q : stands_behind s.book.pairs p.behind p.ahead ≡ true = k p.behind p.ahead (or_left ((p.behind == p.behind) && (p.ahead == p.ahead)) (stands_behind ps p.behind p.ahead) (same_pair p)) in
        let c : carries_to s.book.pairs x y ≡ true = rw (l, d, found_tid p.behind s.book.acts x e, found_tid p.ahead s.book.acts y f, q) refl in
        carried_found s.book.pairs 0 s.ring.next_tid p.behind p.ahead s.book.acts x y a h o.0 e f c

pub stand : {C : Type 0} (w : Fixed C) (s : Machine C) → TidsAscend s → Standing w s → PairsStand w s
stand w s a h = let g = standing_is w s h in record { older = g.older; carried = all_carry s s.book.pairs a g.carried g.older (λ t u q. q); based = based_is (base w.text) s.book.acts g.based }

pub pairs_stand : {C : Type 0} (w : Fixed C) (es : List Event) → IsText w.text → IsRun w es → PairsStand w (reached w es)
unfolding TidsAscend Ascend
pairs_stand w es text run =
    let h : Standing w (reached w es) = along w (Standing w) (kept w) es (opening w) run (opened w) in
    let a : TidsAscend (reached w es) = along w TidsAscend (tids_kept w) es (opening w) run (omega arith) in
    stand w (reached w es) a h

-- each ACT is the one that is found under its tid
found_each : (low high : ℕ) (xs : List Act) → Ascend low high (map (λ x. x.tid) xs) → AllByRecursion (λ x. (low ≤ x.tid) × (act_of x.tid xs ≡ Some x)) xs
unfolding Ascend
found_each low high [] h = tt
found_each low high (x ∷ xs) h = ((h.0, rw (eq-eqb x.tid x.tid refl) refl), later xs (found_each (x.tid + 1) high xs h.1) h.0)
  where
    later : (ys : List Act) → AllByRecursion (λ y. (x.tid + 1 ≤ y.tid) × (act_of y.tid xs ≡ Some y)) ys → low ≤ x.tid → AllByRecursion (λ y. (low ≤ y.tid) × (act_of y.tid (x ∷ xs) ≡ Some y)) ys
    later [] g l = tt
    later (y ∷ ys) g l = ((omega (arith, g.0.0, l), rw (ne_eqb x.tid y.tid (λ e. omega (arith, e, g.0.0))) g.0.1), later ys g.1 l)

pub each_act : {C : Type 0} (s : Machine C) (P : ℕ → Act → Type 0) → TidsAscend s → ((t : ℕ) (x : Act) → act_of t s.book.acts ≡ Some x → P t x) → AllByRecursion (λ x. P x.tid x) s.book.acts
unfolding TidsAscend
each_act s P h k = go s.book.acts (found_each 0 s.ring.next_tid s.book.acts h)
  where
    go : (xs : List Act) → AllByRecursion (λ x. (0 ≤ x.tid) × (act_of x.tid s.book.acts ≡ Some x)) xs → AllByRecursion (λ x. P x.tid x) xs
    go [] g = tt
    go (x ∷ xs) g = (k x.tid x g.0.1, go xs g.1)

pub tids_opened : {C : Type 0} (w : Fixed C) → TidsAscend (opening w)
unfolding TidsAscend Ascend
tids_opened w = omega arith
