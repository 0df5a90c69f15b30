-- Behind the spread whoever stands behind another ACT has batches before it as great as that one.
use Rattle.std.specs.Prelude.{◌≡◌, refl, ℕ, ◌+◌, ◌<◌, ◌≤◌, ◌==◌, Bool, true, false, if◌then◌else◌, Some, is_some, List, [], ◌∷◌, ◌++◌, filter}
use Rattle.std.specs.List.{AllByRecursion, flat_map}
use Rattle.std.proofs.Common.{append_assoc, arith, sym, ap, subst}
use Rattle.std.proofs.lemmas.Bool.{eq-eqb, eqb-true, true≢false}
use Rattle.protocol.specs.History.{gained, with_at}
use Rattle.protocol.specs.Parts.{Pair}
use Rattle.protocol.specs.Words.{greatest}
use Rattle.audit_words.specs.Happenings.{spread}
use Rattle.audit_words.specs.Seen.{Begun, act_in}
use Rattle.audit_tale.specs.Knows.{RiseFrom}
use Rattle.audit_tale.proofs.SteadyLists.{elsewhere, greatest_both}

-- who is younger than each of these began elsewhere
not_below : (t low : ℕ) (xs : List Begun) → RiseFrom low xs → is_some (act_in t xs) ≡ true → low ≤ t
not_below t low [] h e = absurd (true≢false (sym e))
not_below t low (x ∷ xs) h e = by (x.tid == t) refl e (not_below t (x.tid + 1) xs h.1)
  where
    by : (b : Bool) → (x.tid == t) ≡ b → is_some (if b then Some x else act_in t xs) ≡ true → (is_some (act_in t xs) ≡ true → x.tid + 1 ≤ t) → low ≤ t
    by true q r f = omega (arith, eqb-true x.tid t q, h.0)
    by false q r f = omega (arith, f r, h.0)

-- the set of one that stands ahead is gained
gained_has : (p : Pair) (t : ℕ) (f : ℕ → List ℕ) (front rest : List Pair) → (p.behind == t) ≡ true → greatest (f p.ahead) ≤ greatest (gained (front ++ p ∷ rest) t f)
gained_has p t f [] rest e = by (p.behind == t) e
  where
    by : (b : Bool) → b ≡ true → greatest (f p.ahead) ≤ greatest (flat_map (λ p. f p.ahead) (if b then p ∷ filter (λ p. p.behind == t) rest else filter (λ p. p.behind == t) rest))
    by true q = omega (arith, greatest_both (f p.ahead) (gained rest t f))
    by false q = absurd (true≢false (sym q))
gained_has p t f (y ∷ ys) rest e = by (y.behind == t) (gained_has p t f ys rest e)
  where
    by : (b : Bool) → greatest (f p.ahead) ≤ greatest (gained (ys ++ p ∷ rest) t f) → greatest (f p.ahead) ≤ greatest (flat_map (λ p. f p.ahead) (if b then y ∷ filter (λ p. p.behind == t) (ys ++ p ∷ rest) else filter (λ p. p.behind == t) (ys ++ p ∷ rest)))
    by true r = omega (arith, r, greatest_both (f y.ahead) (gained (ys ++ p ∷ rest) t f))
    by false r = r

-- one pair of all
rises_at : (p : Pair) (front rest : List Pair) (low : ℕ) (xs : List Begun) (before : ℕ → List ℕ) → p.behind < p.ahead → RiseFrom low xs → is_some (act_in p.behind xs) ≡ true
    → greatest (spread (front ++ p ∷ rest) xs before p.ahead) ≤ greatest (spread (front ++ p ∷ rest) xs before p.behind)
rises_at p front rest low [] before o h e = absurd (true≢false (sym e))
rises_at p front rest low (x ∷ xs) before o h e = by (x.tid == p.behind) refl e (rises_at p front rest (x.tid + 1) xs before o h.1)
  where
    f : ℕ → List ℕ
    f = spread (front ++ p ∷ rest) xs before

    v : List ℕ
    v = f x.tid ++ gained (front ++ p ∷ rest) x.tid f

    by : (b : Bool) → (x.tid == p.behind) ≡ b → is_some (if b then Some x else act_in p.behind xs) ≡ true → (is_some (act_in p.behind xs) ≡ true → greatest (f p.ahead) ≤ greatest (f p.behind)) → greatest (with_at x.tid v f p.ahead) ≤ greatest (with_at x.tid v f p.behind)
    by true q r g =
        let same : x.tid ≡ p.behind = eqb-true x.tid p.behind q in
        let ahead : with_at x.tid v f p.ahead ≡ f p.ahead = elsewhere x.tid p.ahead v f (λ z. omega (arith, z, same, o)) in
        let behind : with_at x.tid v f p.behind ≡ v = ap (λ (b : Bool). if b then v else f p.behind) (eq-eqb p.behind x.tid (sym same)) in
        omega (arith, ap greatest ahead, ap greatest behind, greatest_both (f x.tid) (gained (front ++ p ∷ rest) x.tid f), gained_has p x.tid f front rest (eq-eqb p.behind x.tid (sym same)))
    by false q r g =
        let below : x.tid + 1 ≤ p.behind = not_below p.behind (x.tid + 1) xs h.1 r in
        let ahead : with_at x.tid v f p.ahead ≡ f p.ahead = elsewhere x.tid p.ahead v f (λ z. omega (arith, z, below, o)) in
        let behind : with_at x.tid v f p.behind ≡ f p.behind = elsewhere x.tid p.behind v f (λ z. omega (arith, z, below)) in
        omega (arith, ap greatest ahead, ap greatest behind, g r)

-- the one behind is the older one, and began
pub record IsOlder (xs : List Begun) (p : Pair) : Type 0 where
  pub older : p.behind < p.ahead
  pub began : is_some (act_in p.behind xs) ≡ true

abbrev pub Rises : (ℕ → List ℕ) → Pair → Type 0
Rises before p = greatest (before p.ahead) ≤ greatest (before p.behind)

pub spread_rises : (ps : List Pair) (low : ℕ) (xs : List Begun) (before : ℕ → List ℕ) → RiseFrom low xs → AllByRecursion (IsOlder xs) ps → AllByRecursion (Rises (spread ps xs before)) ps
spread_rises ps low xs before h all = each [] ps all
  where
    each : (front rest : List Pair) → AllByRecursion (IsOlder xs) rest → AllByRecursion (Rises (spread (front ++ rest) xs before)) rest
    each front [] k = tt
    each front (p ∷ rest) k = (rises_at p front rest low xs before k.0.older h k.0.began, subst-at front p rest (each (front ++ p ∷ []) rest k.1))
      where
        subst-at : (front : List Pair) (p : Pair) (rest : List Pair) → AllByRecursion (Rises (spread ((front ++ p ∷ []) ++ rest) xs before)) rest → AllByRecursion (Rises (spread (front ++ p ∷ rest) xs before)) rest
        subst-at front p rest r = subst (λ (qs : List Pair). AllByRecursion (Rises (spread qs xs before)) rest) (append_assoc front (p ∷ []) rest) r
