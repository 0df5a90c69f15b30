-- Before numbers rise as their sets grow.
use Rattle.std.specs.Prelude.{◌≡◌, refl, ◌≢◌, ℕ, ◌+◌, ◌<◌, ◌≤◌, ◌==◌, max, not, Bool, true, false, ◌&&◌, ◌⊎◌, if◌then◌else◌, Some, List, [], ◌∷◌, ◌++◌, map, filter}
use Rattle.std.specs.List.{AllByRecursion, flat_map}
use Rattle.std.proofs.Common.{arith, sym, ap, subst, inl, inr, ◌∙◌}
use Rattle.std.proofs.lemmas.Bool.{eqb-true, eq-eqb, and_parts, and_from, or_cases, not-true, true≢false, false_from_ne_true, cases_Bool}
use Rattle.protocol.specs.Parts.{Act, Pair, Status, Live, Doomed, Decided, Sealed}
use Rattle.protocol.specs.Words.{holds, greatest, is_doomed, is_live_status, act_of, is_ordered}
use Rattle.protocol.specs.Spread.{stands_behind, carries_to, carried, raised}
use Rattle.protocol.specs.History.{with_at, gained, spread_sets}
use Rattle.protocol_theorems.specs.Sets.{IsGreatest}
use Rattle.protocol_laws.proofs.first.Pairs as pairs
use Rattle.protocol_laws.proofs.first.PairsFound.{Ascend}
use Rattle.protocol_laws.proofs.machine.TurnsKept.{one_is}
use Rattle.protocol_laws.proofs.first.Lists.{weaker, all_found}
use Rattle.protocol_laws.proofs.machine.DecidedStays.{carries_none}
use Rattle.protocol_laws.proofs.machine.OversKept.{greatest_join}

-- ---- lists

pub at_it : (t : ℕ) (x : List ℕ) (f : ℕ → List ℕ) → with_at t x f t ≡ x
at_it t x f = rw (eq-eqb t t refl) refl

pub at_other : (t u : ℕ) (x : List ℕ) (f : ℕ → List ℕ) → u ≢ t → with_at t x f u ≡ f u
at_other t u x f n = rw (false_from_ne_true (u == t) (λ e. n (eqb-true u t e))) refl

-- ---- what is gained

gained_most : (gs : List Pair) (t n : ℕ) (f : ℕ → List ℕ) → AllByRecursion (λ p. (p.behind == t) ≡ true → greatest (f p.ahead) ≤ n) gs → greatest (gained gs t f) ≤ n
gained_most [] t n f h = omega arith
gained_most (p ∷ ps) t n f h = by (p.behind == t) h.0 (gained_most ps t n f h.1)
  where
    by : (b : Bool) → (b ≡ true → greatest (f p.ahead) ≤ n) → greatest (gained ps t f) ≤ n → greatest (flat_map (λ p. f p.ahead) (if b then p ∷ filter (λ p. p.behind == t) ps else filter (λ p. p.behind == t) ps)) ≤ n
    by true k r = omega (arith, greatest_join (f p.ahead) (gained ps t f), k refl, r)
    by false k r = r

pub gained_least : (gs : List Pair) (t u : ℕ) (f : ℕ → List ℕ) → stands_behind gs t u ≡ true → greatest (f u) ≤ greatest (gained gs t f)
gained_least [] t u f h = absurd (true≢false (sym h))
gained_least (p ∷ ps) t u f h = by (p.behind == t) refl (or_cases ((p.behind == t) && (p.ahead == u)) (stands_behind ps t u) h) (gained_least ps t u f)
  where
    by : (b : Bool) → (p.behind == t) ≡ b → (((p.behind == t) && (p.ahead == u)) ≡ true) ⊎ (stands_behind ps t u ≡ true) → (stands_behind ps t u ≡ true → greatest (f u) ≤ greatest (gained ps t f))
        → greatest (f u) ≤ greatest (flat_map (λ p. f p.ahead) (if b then p ∷ filter (λ p. p.behind == t) ps else filter (λ p. p.behind == t) ps))
    by true e (inl q) r = let i : p.ahead ≡ u = eqb-true p.ahead u (and_parts (p.behind == t) (p.ahead == u) q).1 in omega (arith, greatest_join (f p.ahead) (gained ps t f), ap (λ z. greatest (f z)) i)
    by true e (inr q) r = omega (arith, greatest_join (f p.ahead) (gained ps t f), r q)
    by false e (inl q) r = absurd (true≢false (sym (and_parts (p.behind == t) (p.ahead == u) q).0 ∙ e))
    by false e (inr q) r = r q

-- larger sets give more
gained_more : (gs : List Pair) (t : ℕ) (f g : ℕ → List ℕ) → ((u : ℕ) → greatest (f u) ≤ greatest (g u)) → greatest (gained gs t f) ≤ greatest (gained gs t g)
gained_more [] t f g k = omega arith
gained_more (p ∷ ps) t f g k = by (p.behind == t) (gained_more ps t f g k)
  where
    by : (b : Bool) → greatest (gained ps t f) ≤ greatest (gained ps t g) → greatest (flat_map (λ p. f p.ahead) (if b then p ∷ filter (λ p. p.behind == t) ps else filter (λ p. p.behind == t) ps)) ≤ greatest (flat_map (λ p. g p.ahead) (if b then p ∷ filter (λ p. p.behind == t) ps else filter (λ p. p.behind == t) ps))
    by true r = omega (arith, greatest_join (f p.ahead) (gained ps t f), greatest_join (g p.ahead) (gained ps t g), k p.ahead, r)
    by false r = r

-- ---- the spread

-- sets only grow
spread_more : (gs : List Pair) (xs : List Act) (b : ℕ → List ℕ) (u : ℕ) → greatest (b u) ≤ greatest (spread_sets gs xs b u)
spread_more gs [] b u = omega arith
spread_more gs (x ∷ xs) b u = one (u == x.tid) refl (spread_more gs xs b u)
  where
    one : (c : Bool) → (u == x.tid) ≡ c → greatest (b u) ≤ greatest (spread_sets gs xs b u) → greatest (b u) ≤ greatest (if c then spread_sets gs xs b x.tid ++ gained gs x.tid (spread_sets gs xs b) else spread_sets gs xs b u)
    one true e r = omega (arith, greatest_join (spread_sets gs xs b x.tid) (gained gs x.tid (spread_sets gs xs b)), ap (λ z. greatest (spread_sets gs xs b z)) (eqb-true u x.tid e), r)
    one false e r = r

-- those of others stay
spread_other : (gs : List Pair) (low high : ℕ) (xs : List Act) (b : ℕ → List ℕ) (u : ℕ) → Ascend low high (map (λ x. x.tid) xs) → u < low → spread_sets gs xs b u ≡ b u
unfolding Ascend
spread_other gs low high [] b u a l = refl
spread_other gs low high (x ∷ xs) b u a l = at_other x.tid u (spread_sets gs xs b x.tid ++ gained gs x.tid (spread_sets gs xs b)) (spread_sets gs xs b) (λ e. omega (arith, e, l, a.0)) ∙ spread_other gs (x.tid + 1) high xs b u a.1 (omega (arith, l, a.0))

-- ---- numbers and sets

abbrev pub if_live : Bool → ℕ → ℕ
if_live true n = n
if_live false n = 0

-- before the spread a set may hold what its ACT is still to gain
pub record Before (gs : List Pair) (b : ℕ → List ℕ) (x : Act) : Type 0 where
  pub less : x.m ≤ greatest (b x.tid)
  pub most : greatest (b x.tid) ≤ max x.m (if_live (is_live_status x.status) (greatest (gained gs x.tid b)))

abbrev pub IsBefore : List Pair → (ℕ → List ℕ) → Act → Type 0
IsBefore gs b x = is_doomed x.status ≡ false → Before gs b x

-- a gain is a pair, of one that is not doomed and stands further on
pub record Gain (ps : List Pair) (low : ℕ) (xs : List Act) (p : Pair) : Type 0 where
  pub is_pair : stands_behind ps p.behind p.ahead ≡ true
  pub older : p.behind < p.ahead
  pub there : low ≤ p.ahead → holds (λ x. not (is_doomed x.status)) (act_of p.ahead xs) ≡ true

raised_there : (ps : List Pair) (u : ℕ) (xs : List Act) → holds (λ x. not (is_doomed x.status)) (act_of u xs) ≡ true → holds (λ x. not (is_doomed x.status)) (act_of u (raised ps xs)) ≡ true
raised_there ps u [] h = h
raised_there ps u (x ∷ xs) h = by (x.tid == u) h (raised_there ps u xs)
  where
    by : (c : Bool) → holds (λ x. not (is_doomed x.status)) (if c then Some x else act_of u xs) ≡ true → (holds (λ x. not (is_doomed x.status)) (act_of u xs) ≡ true → holds (λ x. not (is_doomed x.status)) (act_of u (raised ps xs)) ≡ true)
        → holds (λ x. not (is_doomed x.status)) (if c then Some (record x { m = max x.m (carried ps x (raised ps xs)) }) else act_of u (raised ps xs)) ≡ true
    by true h r = h
    by false h r = r h

-- what is carried is what is gained
carried_most : (ps gs : List Pair) (x : Act) (f : ℕ → List ℕ) (ys : List Act)
    → AllByRecursion (λ y. is_doomed y.status ≡ false → stands_behind ps x.tid y.tid ≡ true → stands_behind gs x.tid y.tid ≡ true) ys → AllByRecursion (IsGreatest f) ys → carried ps x ys ≤ greatest (gained gs x.tid f)
carried_most ps gs x f [] k h = omega arith
carried_most ps gs x f (y ∷ ys) k h = by (carries_to ps x y) refl (carried_most ps gs x f ys k.1 h.1)
  where
    by : (c : Bool) → carries_to ps x y ≡ c → carried ps x ys ≤ greatest (gained gs x.tid f) → greatest (map (λ u. u.m) (if c then y ∷ filter (carries_to ps x) ys else filter (carries_to ps x) ys)) ≤ greatest (gained gs x.tid f)
    by true e r =
        let p = and_parts (not (is_doomed y.status)) (stands_behind ps x.tid y.tid) (and_parts (not (is_ordered x.status)) (not (is_doomed y.status) && stands_behind ps x.tid y.tid) e).1 in
        let d = not-true (is_doomed y.status) p.0 in
        omega (arith, r, h.0 d, gained_least gs x.tid y.tid f (k.0 d p.1))
    by false e r = r

gained_is_carried : (ps gs : List Pair) (low : ℕ) (x : Act) (f : ℕ → List ℕ) (xs : List Act) → not (is_ordered x.status) ≡ true → low ≤ x.tid + 1 → AllByRecursion (Gain ps low xs) gs → AllByRecursion (IsGreatest f) (raised ps xs) → greatest (gained gs x.tid f) ≤ carried ps x (raised ps xs)
gained_is_carried ps gs low x f xs live l g h = gained_most gs x.tid (carried ps x (raised ps xs)) f (weaker (Gain ps low xs) (λ p. (p.behind == x.tid) ≡ true → greatest (f p.ahead) ≤ carried ps x (raised ps xs)) gs (λ p q e. one p q (eqb-true p.behind x.tid e)) g)
  where
    one : (p : Pair) → Gain ps low xs p → p.behind ≡ x.tid → greatest (f p.ahead) ≤ carried ps x (raised ps xs)
    one p q e =
        let y = one_is (λ x. not (is_doomed x.status)) (act_of p.ahead (raised ps xs)) (raised_there ps p.ahead xs (q.there (omega (arith, l, e, q.older)))) in
        let d = not-true (is_doomed y.0.status) y.2 in
        let v = all_found (IsGreatest f) (λ x. x.tid == p.ahead) (raised ps xs) y.0 h y.1 in
        let t : y.0.tid ≡ p.ahead = eqb-true y.0.tid p.ahead v.1 in
        let c : carries_to ps x y.0 ≡ true = and_from (not (is_ordered x.status)) (not (is_doomed y.0.status) && stands_behind ps x.tid y.0.tid) live (and_from (not (is_doomed y.0.status)) (stands_behind ps x.tid y.0.tid) y.2 (subst (λ z. stands_behind ps x.tid z ≡ true) (sym t) (subst (λ z. stands_behind ps z p.ahead ≡ true) e q.is_pair))) in
        let m = (all_found (λ y. carries_to ps x y ≡ true → y.m ≤ carried ps x (raised ps xs)) (λ x. x.tid == p.ahead) (raised ps xs) y.0 (pairs.one_of_carried ps x (raised ps xs)) y.1).0 c in
        omega (arith, m, v.0 d, ap (λ z. greatest (f z)) t)

-- at each ACT of the list, what stands behind it for the pairs does so for the gains
abbrev pub Gains : List Pair → List Pair → List Act → Type 0
Gains ps gs xs = AllByRecursion (λ y. is_doomed y.status ≡ false → (t : ℕ) → stands_behind ps t y.tid ≡ true → stands_behind gs t y.tid ≡ true) xs

gains_raised : (ps qs gs : List Pair) (xs : List Act) → Gains ps gs xs → Gains ps gs (raised qs xs)
gains_raised ps qs gs [] h = tt
gains_raised ps qs gs (x ∷ xs) h = (h.0, gains_raised ps qs gs xs h.1)

further_on : (ps gs : List Pair) (low : ℕ) (x : Act) (xs : List Act) → low ≤ x.tid → AllByRecursion (Gain ps low (x ∷ xs)) gs → AllByRecursion (Gain ps (x.tid + 1) xs) gs
further_on ps gs low x xs l g = weaker (Gain ps low (x ∷ xs)) (Gain ps (x.tid + 1) xs) gs (λ p q. record { is_pair = q.is_pair; older = q.older; there = λ k. by p (x.tid == p.ahead) refl k (q.there (omega (arith, l, k))) }) g
  where
    by : (p : Pair) (c : Bool) → (x.tid == p.ahead) ≡ c → x.tid + 1 ≤ p.ahead → holds (λ x. not (is_doomed x.status)) (if c then Some x else act_of p.ahead xs) ≡ true → holds (λ x. not (is_doomed x.status)) (act_of p.ahead xs) ≡ true
    by p true e k h = absurd (omega (arith, eqb-true x.tid p.ahead e, k))
    by p false e k h = h

-- an ACT changes its own set only
others_stay : (t low high : ℕ) (v : List ℕ) (f : ℕ → List ℕ) (ys : List Act) → Ascend low high (map (λ x. x.tid) ys) → t < low → AllByRecursion (IsGreatest f) ys → AllByRecursion (IsGreatest (with_at t v f)) ys
unfolding Ascend
others_stay t low high v f [] a l h = tt
others_stay t low high v f (y ∷ ys) a l h = ((λ d. h.0 d ∙ ap greatest (sym (at_other t y.tid v f (λ e. omega (arith, e, l, a.0))))), others_stay t (y.tid + 1) high v f ys a.1 (omega (arith, l, a.0)) h.1)

raised_tids : (ps : List Pair) (xs : List Act) → map (λ x. x.tid) (raised ps xs) ≡ map (λ x. x.tid) xs
raised_tids ps [] = refl
raised_tids ps (x ∷ xs) = rw (raised_tids ps xs) refl

live_unordered : (st : Status) → is_live_status st ≡ true → not (is_ordered st) ≡ true
live_unordered Live e = refl
live_unordered (Doomed v) e = refl
live_unordered (Decided c) e = absurd (true≢false (sym e))
live_unordered (Sealed c) e = absurd (true≢false (sym e))

dead_ordered : (st : Status) → is_live_status st ≡ false → is_doomed st ≡ false → is_ordered st ≡ true
dead_ordered Live e d = absurd (true≢false e)
dead_ordered (Doomed v) e d = absurd (true≢false d)
dead_ordered (Decided c) e d = refl
dead_ordered (Sealed c) e d = refl

-- one that is neither live nor doomed gains nothing
abbrev pub NoGain : List Pair → Act → Type 0
NoGain gs x = is_live_status x.status ≡ false → is_doomed x.status ≡ false → AllByRecursion (λ p. (p.behind == x.tid) ≡ false) gs

nothing : (gs : List Pair) (x : Act) (f : ℕ → List ℕ) → AllByRecursion (λ p. (p.behind == x.tid) ≡ false) gs → greatest (gained gs x.tid f) ≤ 0
nothing gs x f h = gained_most gs x.tid 0 f (weaker (λ p. (p.behind == x.tid) ≡ false) (λ p. (p.behind == x.tid) ≡ true → greatest (f p.ahead) ≤ 0) gs (λ p e q. absurd (true≢false (sym q ∙ e))) h)

pub spread_raised : (ps gs : List Pair) (low high : ℕ) (b : ℕ → List ℕ) (xs : List Act) → Ascend low high (map (λ x. x.tid) xs) → AllByRecursion (Gain ps low xs) gs → Gains ps gs xs → AllByRecursion (NoGain gs) xs → AllByRecursion (IsBefore gs b) xs
    → AllByRecursion (IsGreatest (spread_sets gs xs b)) (raised ps xs)
unfolding Ascend
spread_raised ps gs low high b [] a g k n h = tt
spread_raised ps gs low high b (x ∷ xs) a g k n h =
    let f = spread_sets gs xs b in
    let g' = further_on ps gs low x xs a.0 g in
    let r = spread_raised ps gs (x.tid + 1) high b xs a.1 g' k.1 n.1 h.1 in
    let own : f x.tid ≡ b x.tid = spread_other gs (x.tid + 1) high xs b x.tid a.1 (omega arith) in
    let e : greatest (with_at x.tid (f x.tid ++ gained gs x.tid f) f x.tid) ≡ max (greatest (b x.tid)) (greatest (gained gs x.tid f)) = ap greatest (at_it x.tid (f x.tid ++ gained gs x.tid f) f) ∙ (greatest_join (f x.tid) (gained gs x.tid f) ∙ ap (λ z. max (greatest z) (greatest (gained gs x.tid f))) own) in (
      elim (cases_Bool (is_live_status x.status)) [
        | inl live ↦
            let most = carried_most ps gs x f (raised ps xs) (weaker (λ y. is_doomed y.status ≡ false → (t : ℕ) → stands_behind ps t y.tid ≡ true → stands_behind gs t y.tid ≡ true) (λ y. is_doomed y.status ≡ false → stands_behind ps x.tid y.tid ≡ true → stands_behind gs x.tid y.tid ≡ true) (raised ps xs) (λ y i d. i d x.tid) (gains_raised ps ps gs xs k.1)) r in
            let least = gained_is_carried ps gs (x.tid + 1) x f xs (live_unordered x.status live) (omega arith) g' r in
            let more = gained_more gs x.tid b f (spread_more gs xs b) in
            (λ d. let q = h.0 d in
            let top : greatest (b x.tid) ≤ max x.m (greatest (gained gs x.tid b)) = subst (λ c. greatest (b x.tid) ≤ max x.m (if_live c (greatest (gained gs x.tid b)))) live q.most in
            omega (arith, e, most, least, more, q.less, top))
        | inr dead ↦
            (λ d. let q = h.0 d in
            let top : greatest (b x.tid) ≤ max x.m 0 = subst (λ c. greatest (b x.tid) ≤ max x.m (if_live c (greatest (gained gs x.tid b)))) dead q.most in
            omega (arith, e, nothing gs x f (n.0 dead d), carries_none ps x (raised ps xs) (dead_ordered x.status dead d), q.less, top))
      ],
      others_stay x.tid (x.tid + 1) high (f x.tid ++ gained gs x.tid f) f (raised ps xs) (subst (Ascend (x.tid + 1) high) (sym (raised_tids ps xs)) a.1) (omega arith) r,
    )
