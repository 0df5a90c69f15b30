-- How the sets before ACTs grow along pairs, by the greatest of each.
use Rattle.std.specs.Prelude.{◌≡◌, refl, ◌≢◌, ℕ, ◌+◌, ◌<◌, ◌≤◌, ◌==◌, max, Bool, true, false, ◌||◌, if◌then◌else◌, Some, is_some, List, [], ◌∷◌, ◌++◌, filter}
use Rattle.std.specs.List.{AllByRecursion, flat_map}
use Rattle.std.proofs.Common.{arith, sym, ap, subst, ◌∙◌}
use Rattle.std.proofs.lemmas.Bool.{eqb-true, eq-eqb, ne_eqb, true≢false}
use Rattle.snap_base.proofs.Lists.{all_of, both_all, weaker}
use Rattle.protocol.specs.History.{gained, with_at}
use Rattle.protocol.specs.Parts.{Pair}
use Rattle.protocol.specs.Words.{greatest, is_among}
use Rattle.audit_words.specs.Happenings.{spread}
use Rattle.audit_words.specs.Seen.{Begun, act_in}
use Rattle.audit_tale.specs.Knows.{RiseFrom}
use Rattle.audit_tale.specs.Risen.{IsClosed, risen}

-- ---- the greatest of sets

pub greatest_join : (xs ys : List ℕ) → greatest (xs ++ ys) ≡ max (greatest xs) (greatest ys)
greatest_join [] ys = omega arith
greatest_join (x ∷ xs) ys = omega (arith, greatest_join xs ys)

-- one number more
pub greatest_more : (xs : List ℕ) (m : ℕ) → greatest (xs ++ m ∷ []) ≡ max (greatest xs) m
greatest_more [] m = omega arith
greatest_more (x ∷ xs) m = omega (arith, greatest_more xs m)

pub at_it : (t : ℕ) (x : List ℕ) (f : ℕ → List ℕ) → with_at t x f t ≡ x
at_it t x f = ap (λ (b : Bool). if b then x else f t) (eq-eqb t t refl)

pub at_other : (t u : ℕ) (x : List ℕ) (f : ℕ → List ℕ) → u ≢ t → with_at t x f u ≡ f u
at_other t u x f n = ap (λ (b : Bool). if b then x else f u) (ne_eqb u t n)

-- ---- what is gained

gained_most : (gs : List Pair) (t n : ℕ) (f : ℕ → List ℕ) → AllByRecursion (λ p. p.behind ≡ t → greatest (f p.ahead) ≤ n) gs → greatest (gained gs t f) ≤ n
gained_most [] t n f h = omega arith
gained_most (p ∷ ps) t n f h = by (p.behind == t) refl (gained_most ps t n f h.1)
  where
    by : (b : Bool) → (p.behind == t) ≡ b → greatest (gained ps t f) ≤ n → greatest (flat_map (λ p. f p.ahead) (if b then p ∷ filter (λ p. p.behind == t) ps else filter (λ p. p.behind == t) ps)) ≤ n
    by true e r = omega (arith, greatest_join (f p.ahead) (gained ps t f), h.0 (eqb-true p.behind t e), r)
    by false e r = r

gained_least : (gs : List Pair) (t : ℕ) (f : ℕ → List ℕ) → AllByRecursion (λ p. p.behind ≡ t → greatest (f p.ahead) ≤ greatest (gained gs t f)) gs
gained_least [] t f = tt
gained_least (p ∷ ps) t f = by (p.behind == t) refl (gained_least ps t f)
  where
    by : (b : Bool) → (p.behind == t) ≡ b → AllByRecursion (λ p. p.behind ≡ t → greatest (f p.ahead) ≤ greatest (gained ps t f)) ps
        → AllByRecursion (λ q. q.behind ≡ t → greatest (f q.ahead) ≤ greatest (flat_map (λ q. f q.ahead) (if b then p ∷ filter (λ q. q.behind == t) ps else filter (λ q. q.behind == t) ps))) (p ∷ ps)
    by true e r = (
      λ q. omega (arith, greatest_join (f p.ahead) (gained ps t f)),
      weaker (λ p. p.behind ≡ t → greatest (f p.ahead) ≤ greatest (gained ps t f)) (λ q. q.behind ≡ t → greatest (f q.ahead) ≤ greatest (f p.ahead ++ gained ps t f)) ps (λ q k i. omega (arith, greatest_join (f p.ahead) (gained ps t f), k i)) r,
    )
    by false e r = (λ q. absurd (true≢false (sym (eq-eqb p.behind t q) ∙ e)), r)

-- ---- the spread

-- sets only grow
pub spread_more : (gs : List Pair) (xs : List Begun) (b : ℕ → List ℕ) (u : ℕ) → greatest (b u) ≤ greatest (spread gs xs b u)
spread_more gs [] b u = omega arith
spread_more gs (x ∷ xs) b u = one (u == x.tid) refl (spread_more gs xs b u)
  where
    one : (c : Bool) → (u == x.tid) ≡ c → greatest (b u) ≤ greatest (spread gs xs b u) → greatest (b u) ≤ greatest (if c then spread gs xs b x.tid ++ gained gs x.tid (spread gs xs b) else spread gs xs b u)
    one true e r = omega (arith, greatest_join (spread gs xs b x.tid) (gained gs x.tid (spread gs xs b)), ap (λ z. greatest (spread gs xs b z)) (eqb-true u x.tid e), r)
    one false e r = r

-- it stays below whatever is closed
pub spread_most : (r : ℕ → ℕ) (gs : List Pair) (xs : List Begun) (b : ℕ → List ℕ) → IsClosed r gs → ((u : ℕ) → greatest (b u) ≤ r u) → (u : ℕ) → greatest (spread gs xs b u) ≤ r u
spread_most r gs [] b closed low u = low u
spread_most r gs (x ∷ xs) b closed low u = one (u == x.tid) refl (λ v. spread_most r gs xs b closed low v)
  where
    more : ((v : ℕ) → greatest (spread gs xs b v) ≤ r v) → greatest (gained gs x.tid (spread gs xs b)) ≤ r x.tid
    more rest = gained_most gs x.tid (r x.tid) (spread gs xs b) (weaker (λ p. r p.ahead ≤ r p.behind) (λ p. p.behind ≡ x.tid → greatest (spread gs xs b p.ahead) ≤ r x.tid) gs (λ p k e. omega (arith, k, rest p.ahead, ap r e)) closed)

    one : (c : Bool) → (u == x.tid) ≡ c → ((v : ℕ) → greatest (spread gs xs b v) ≤ r v) → greatest (if c then spread gs xs b x.tid ++ gained gs x.tid (spread gs xs b) else spread gs xs b u) ≤ r u
    one true e rest = omega (arith, greatest_join (spread gs xs b x.tid) (gained gs x.tid (spread gs xs b)), rest x.tid, more rest, ap r (eqb-true u x.tid e))
    one false e rest = rest u

-- who is there stands at the list's first tid or behind it
low_tid : (low t : ℕ) (xs : List Begun) → RiseFrom low xs → is_some (act_in t xs) ≡ true → low ≤ t
low_tid low t [] rise there = absurd (true≢false (sym there))
low_tid low t (x ∷ xs) rise there = by (x.tid == t) refl there (low_tid (x.tid + 1) t xs rise.1)
  where
    by : (c : Bool) → (x.tid == t) ≡ c → is_some (if c then Some x else act_in t xs) ≡ true → (is_some (act_in t xs) ≡ true → x.tid + 1 ≤ t) → low ≤ t
    by true e h r = omega (arith, eqb-true x.tid t e, rise.0)
    by false e h r = omega (arith, r h, rise.0)

-- one that stands behind, where sets spread over the rest
abbrev OverRest : List Pair → List Begun → (ℕ → List ℕ) → Pair → Type 0
OverRest gs xs b p = (p.behind < p.ahead) × (is_some (act_in p.behind xs) ≡ true → greatest (spread gs xs b p.ahead) ≤ greatest (spread gs xs b p.behind))

over_one : (low : ℕ) (gs : List Pair) (x : Begun) (xs : List Begun) (b : ℕ → List ℕ) → RiseFrom low (x ∷ xs) → (p : Pair) → OverRest gs xs b p → (p.behind ≡ x.tid → greatest (spread gs xs b p.ahead) ≤ greatest (gained gs x.tid (spread gs xs b)))
    → is_some (act_in p.behind (x ∷ xs)) ≡ true → greatest (spread gs (x ∷ xs) b p.ahead) ≤ greatest (spread gs (x ∷ xs) b p.behind)
over_one low gs x xs b rise p q g there = by (x.tid == p.behind) refl there
  where
    here : p.behind ≡ x.tid → greatest (spread gs (x ∷ xs) b p.ahead) ≤ greatest (spread gs (x ∷ xs) b p.behind)
    here same =
        let ahead : spread gs (x ∷ xs) b p.ahead ≡ spread gs xs b p.ahead = at_other x.tid p.ahead (spread gs xs b x.tid ++ gained gs x.tid (spread gs xs b)) (spread gs xs b) (λ i. omega (arith, i, same, q.0)) in
        let behind : spread gs (x ∷ xs) b p.behind ≡ spread gs xs b x.tid ++ gained gs x.tid (spread gs xs b) = ap (spread gs (x ∷ xs) b) same ∙ at_it x.tid (spread gs xs b x.tid ++ gained gs x.tid (spread gs xs b)) (spread gs xs b) in
        omega (arith, ap greatest ahead, ap greatest behind, greatest_join (spread gs xs b x.tid) (gained gs x.tid (spread gs xs b)), g same)

    later : is_some (act_in p.behind xs) ≡ true → greatest (spread gs (x ∷ xs) b p.ahead) ≤ greatest (spread gs (x ∷ xs) b p.behind)
    later h =
        let above = low_tid (x.tid + 1) p.behind xs rise.1 h in
        let ahead : spread gs (x ∷ xs) b p.ahead ≡ spread gs xs b p.ahead = at_other x.tid p.ahead (spread gs xs b x.tid ++ gained gs x.tid (spread gs xs b)) (spread gs xs b) (λ i. omega (arith, i, above, q.0)) in
        let behind : spread gs (x ∷ xs) b p.behind ≡ spread gs xs b p.behind = at_other x.tid p.behind (spread gs xs b x.tid ++ gained gs x.tid (spread gs xs b)) (spread gs xs b) (λ i. omega (arith, i, above)) in
        omega (arith, ap greatest ahead, ap greatest behind, q.1 h)

    by : (c : Bool) → (x.tid == p.behind) ≡ c → is_some (if c then Some x else act_in p.behind xs) ≡ true → greatest (spread gs (x ∷ xs) b p.ahead) ≤ greatest (spread gs (x ∷ xs) b p.behind)
    by true e h = here (sym (eqb-true x.tid p.behind e))
    by false e h = later h

-- it is closed, since who stands behind is the older one
pub spread_closed : (low : ℕ) (gs : List Pair) (xs : List Begun) (b : ℕ → List ℕ) → RiseFrom low xs → AllByRecursion (λ p. p.behind < p.ahead) gs
    → AllByRecursion (λ p. is_some (act_in p.behind xs) ≡ true → greatest (spread gs xs b p.ahead) ≤ greatest (spread gs xs b p.behind)) gs
spread_closed low gs [] b rise older = all_of (λ p. is_some (act_in p.behind []) ≡ true → greatest (spread gs [] b p.ahead) ≤ greatest (spread gs [] b p.behind)) gs (λ p q. absurd (true≢false (sym q)))
spread_closed low gs (x ∷ xs) b rise older =
    both_all (OverRest gs xs b) (λ p. p.behind ≡ x.tid → greatest (spread gs xs b p.ahead) ≤ greatest (gained gs x.tid (spread gs xs b))) (λ p. is_some (act_in p.behind (x ∷ xs)) ≡ true → greatest (spread gs (x ∷ xs) b p.ahead) ≤ greatest (spread gs (x ∷ xs) b p.behind)) gs
    (λ p q g. over_one low gs x xs b rise p q g)
    (both_all (λ p. p.behind < p.ahead) (λ p. is_some (act_in p.behind xs) ≡ true → greatest (spread gs xs b p.ahead) ≤ greatest (spread gs xs b p.behind)) (OverRest gs xs b) gs (λ p l k. (l, k)) older (spread_closed (x.tid + 1) gs xs b rise.1 older))
    (gained_least gs x.tid (spread gs xs b))

-- ---- those that rise to one number

pub risen_greatest : (m : ℕ) (us : List ℕ) (b : ℕ → List ℕ) (u : ℕ) → greatest (risen m us b u) ≡ (if is_among u us then max (greatest (b u)) m else greatest (b u))
risen_greatest m us b u = by (is_among u us)
  where
    by : (c : Bool) → greatest (if c then b u ++ m ∷ [] else b u) ≡ (if c then max (greatest (b u)) m else greatest (b u))
    by true = greatest_more (b u) m
    by false = refl

pub risen_grows : (m : ℕ) (us : List ℕ) (b : ℕ → List ℕ) (u : ℕ) → greatest (b u) ≤ greatest (risen m us b u)
risen_grows m us b u = by (is_among u us)
  where
    by : (c : Bool) → greatest (b u) ≤ greatest (if c then b u ++ m ∷ [] else b u)
    by true = omega (arith, greatest_more (b u) m)
    by false = omega arith

pub risen_here : (m : ℕ) (us : List ℕ) (b : ℕ → List ℕ) (u : ℕ) → is_among u us ≡ true → greatest (risen m us b u) ≡ max (greatest (b u)) m
risen_here m us b u e = risen_greatest m us b u ∙ ap (λ (c : Bool). if c then max (greatest (b u)) m else greatest (b u)) e

pub risen_else : (m : ℕ) (us : List ℕ) (b : ℕ → List ℕ) (u : ℕ) → is_among u us ≡ false → greatest (risen m us b u) ≡ greatest (b u)
risen_else m us b u e = risen_greatest m us b u ∙ ap (λ (c : Bool). if c then max (greatest (b u)) m else greatest (b u)) e

-- what holds of each number among some
pub each_among : (P : ℕ → Type 0) (us : List ℕ) (u : ℕ) → AllByRecursion P us → is_among u us ≡ true → P u
each_among P [] u all there = absurd (true≢false (sym there))
each_among P (v ∷ us) u all there = by (v == u) refl there (each_among P us u all.1)
  where
    by : (c : Bool) → (v == u) ≡ c → (c || is_among u us) ≡ true → (is_among u us ≡ true → P u) → P u
    by true e h r = subst P (eqb-true v u e) all.0
    by false e h r = r h

-- Who has risen has what the spread gives: it is closed, and nobody rose but for the first.
pub risen_is_spread : (m t : ℕ) (us : List ℕ) (gs : List Pair) (xs : List Begun) (old b : ℕ → List ℕ) → RiseFrom 1 xs → AllByRecursion (λ p. p.behind < p.ahead) gs → AllByRecursion (λ p. is_some (act_in p.behind xs) ≡ true) gs
    → ((u : ℕ) → greatest (b u) ≤ greatest (risen m us old u)) → ((u : ℕ) → greatest (old u) ≤ greatest (b u)) → m ≤ greatest (b t) → IsClosed (λ u. greatest (risen m us old u)) gs
    → ((r : ℕ → ℕ) → IsClosed r gs → m ≤ r t → AllByRecursion (λ u. m ≤ r u) us) → (u : ℕ) → greatest (risen m us old u) ≡ greatest (spread gs xs b u)
risen_is_spread m t us gs xs old b rise older behind low grows first closed reached u =
    let most = spread_most (λ v. greatest (risen m us old v)) gs xs b closed low u in
    omega (arith, most, least)
  where
    all_closed : IsClosed (λ v. greatest (spread gs xs b v)) gs
    all_closed = both_all (λ p. is_some (act_in p.behind xs) ≡ true → greatest (spread gs xs b p.ahead) ≤ greatest (spread gs xs b p.behind)) (λ p. is_some (act_in p.behind xs) ≡ true) (λ p. greatest (spread gs xs b p.ahead) ≤ greatest (spread gs xs b p.behind)) gs
        (λ p k h. k h) (spread_closed 1 gs xs b rise older) behind

    least : greatest (risen m us old u) ≤ greatest (spread gs xs b u)
    least = by (is_among u us) refl
      where
        by : (c : Bool) → is_among u us ≡ c → greatest (risen m us old u) ≤ greatest (spread gs xs b u)
        by true e =
            let here = risen_here m us old u e in
            let up = each_among (λ v. m ≤ greatest (spread gs xs b v)) us u (reached (λ v. greatest (spread gs xs b v)) all_closed (omega (arith, first, spread_more gs xs b t))) e in
            omega (arith, here, up, grows u, spread_more gs xs b u)
        by false e = omega (arith, risen_else m us old u e, grows u, spread_more gs xs b u)
