-- Runs and histories one event longer, and entries in them.
use Rattle.std.proofs.Common.{◌≡◌, ◌≢◌, ℕ, zero, suc, ◌+◌, ◌<◌, ◌≤◌, List, [], ◌∷◌, ◌++◌, length, Some, slice_get, slice_index, length-append, nat_eq, ap, sym, subst, refl, lt_of_not-le, lt-ltb, le-ltb, eq-eqb, ne_eqb, arith}
use Rattle.std.proofs.lemmas.Option.{slice_get_within}
use mathlib.Core.Logic.{dite}
use native.Mathlib.Decide.{ℕ_discrete, dec_le}
use Rattle.turn_table.specs.Places.{count_if, times, once_below, Stand, AllBefore, Ascending, numbers, replaced}
use Rattle.turn_table.specs.Runs.{May, Run}

module _ {E : Type 0} where
  pub times-append : (k : ℕ) (xs ys : List (ℕ × E)) → times k (xs ++ ys) ≡ times k xs + times k ys
  times-append k [] ys = omega arith
  times-append k (x ∷ xs) ys = let q = times-append k xs ys in omega arith

  pub get_longer : (h hs : List E) (i : ℕ) (e : E) → slice_get h i ≡ Some e → slice_get (h ++ hs) i ≡ Some e
  get_longer h hs i e q = get_more h hs i e (slice_get_within h i e q) q where
    get_more : (h hs : List E) (i : ℕ) (e : E) → i < length h → slice_get h i ≡ Some e → slice_get (h ++ hs) i ≡ Some e
    get_more [] hs i e w q = absurd (omega arith)
    get_more (x ∷ xs) hs zero e w q = q
    get_more (x ∷ xs) hs (suc i) e w q = get_more xs hs i e (omega arith) q

  pub get_last : (h : List E) (e : E) → slice_get (h ++ e ∷ []) (length h) ≡ Some e
  get_last [] e = refl
  get_last (x ∷ xs) e = get_last xs e

  pub stand_longer : (h hs : List E) (es : List (ℕ × E)) → Stand h es → Stand (h ++ hs) es
  stand_longer h hs [] s = tt
  stand_longer h hs (e ∷ es) s = (get_longer h hs e.0 e.1 s.0, stand_longer h hs es s.1)

  pub Stand-append : (h : List E) (xs ys : List (ℕ × E)) → Stand h xs → Stand h ys → Stand h (xs ++ ys)
  Stand-append h [] ys s t = t
  Stand-append h (x ∷ xs) ys s t = (s.0, Stand-append h xs ys s.1 t)

  pub stand_below : (h : List E) (es : List (ℕ × E)) → Stand h es → AllBefore (length h) es
  stand_below h [] s = tt
  stand_below h (e ∷ es) s = (slice_get_within h e.0 e.1 s.0, stand_below h es s.1)

in_below : (k n : ℕ) → k < n → once_below k n ≡ 1
in_below k n h = ap count_if (lt-ltb k n h)

past_below : (k n : ℕ) → n ≤ k → once_below k n ≡ 0
past_below k n h = ap count_if (le-ltb k n h)

is_number : (a b : ℕ) → a ≡ b → count_if (nat_eq a b) ≡ 1
is_number a b e = ap count_if (eq-eqb a b e)

no_number : (a b : ℕ) → a ≢ b → count_if (nat_eq a b) ≡ 0
no_number a b n = ap count_if (ne_eqb a b n)

pub once_more : (k n : ℕ) → once_below k (suc n) ≡ once_below k n + count_if (nat_eq n k)
once_more k n =
    dite
    (ℕ_discrete n k)
    (λ e. let a = in_below k (suc n) (omega arith) in let b = past_below k n (omega arith) in let c = is_number n k e in omega arith)
    (λ ne.
    let c = no_number n k ne in
    dite
    (dec_le n k)
    (λ l. let a = past_below k (suc n) (omega arith) in let b = past_below k n l in omega arith)
    (λ l. let g = lt_of_not-le l in let a = in_below k (suc n) (omega arith) in let b = in_below k n g in omega arith))

module _ {P E : Type 0} (footprint : E → List ℕ) (happens : E → List P → List P → Type 0) where
  pub run_more : (xs : List P) (es : List E) (ys : List P) (e : E) (made : List P)
      → Run footprint happens xs es ys → May footprint happens (slice_get ys) e made
      → Run footprint happens xs (es ++ e ∷ []) (replaced ys (footprint e) made)
  run_more xs [] ys e made r m = (
    made,
    subst (λ (zs : List P). May footprint happens (slice_get zs) e made) (sym r) m,
    ap (λ (zs : List P). replaced zs (footprint e) made) r,
  )
  run_more xs (d ∷ es) ys e made r m = (r.0, r.1, run_more (replaced xs (footprint d) r.0) es ys e made r.2 m)

  pub run_join : (xs ys zs : List P) (es more : List E) → Run footprint happens xs es ys → Run footprint happens ys more zs → Run footprint happens xs (es ++ more) zs
  run_join xs ys zs [] more r m = subst (λ (ps : List P). Run footprint happens ps more zs) (sym r) m
  run_join xs ys zs (d ∷ es) more r m = (r.0, r.1, run_join (replaced xs (footprint d) r.0) ys zs es more r.2 m)

  pub run_cut : (xs zs : List P) (es more : List E) → Run footprint happens xs (es ++ more) zs → (ys : List P) × Run footprint happens xs es ys × Run footprint happens ys more zs
  run_cut xs zs [] more r = (xs, refl, r)
  run_cut xs zs (d ∷ es) more r = let c = run_cut (replaced xs (footprint d) r.0) zs es more r.2 in (c.0, (r.0, r.1, c.1), c.2)

module _ {E : Type 0} where
  index_front : (es ys : List (ℕ × E)) (i : ℕ) → i < length es → slice_index (numbers (es ++ ys)) i ≡ slice_index (numbers es) i
  index_front [] ys i h = absurd (omega arith)
  index_front (e ∷ es) ys zero h = refl
  index_front (e ∷ es) ys (suc i) h = index_front es ys i (omega arith)

  index_last : (es : List (ℕ × E)) (n : ℕ) (e : E) (i : ℕ) → i ≡ length es → slice_index (numbers (es ++ (n, e) ∷ [])) i ≡ n
  index_last [] n e zero h = refl
  index_last [] n e (suc i) h = absurd (omega arith)
  index_last (d ∷ es) n e zero h = absurd (omega arith)
  index_last (d ∷ es) n e (suc i) h = index_last es n e i (omega arith)

  before_at : (n : ℕ) (es : List (ℕ × E)) (i : ℕ) → AllBefore n es → i < length es → slice_index (numbers es) i < n
  before_at n [] i b h = absurd (omega arith)
  before_at n (e ∷ es) zero b h = b.0
  before_at n (e ∷ es) (suc i) b h = before_at n es i b.1 (omega arith)

  -- an entry with a number that is greater than all others goes behind them
  pub ascending_more : (es : List (ℕ × E)) (n : ℕ) (e : E) → Ascending es → AllBefore n es → Ascending (es ++ (n, e) ∷ [])
  ascending_more es n e a b i j lt within =
      let l : length (es ++ (n, e) ∷ []) ≡ length es + 1 = length-append es ((n, e) ∷ []) in
      dite
      (dec_le (length es) j)
      (λ le.
      let x = index_last es n e j (omega arith) in
      let y = index_front es ((n, e) ∷ []) i (omega arith) in
      let z = before_at n es i b (omega arith) in
      omega arith)
      (λ nle.
      let in_front : j < length es = lt_of_not-le nle in
      let x = index_front es ((n, e) ∷ []) j in_front in
      let y = index_front es ((n, e) ∷ []) i (omega arith) in
      let z = a i j lt in_front in
      omega arith)
