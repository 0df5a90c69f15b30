-- How the rule begins, and what a view cut in two and two joined views leave of it.
use Rattle.std.proofs.Common.{◌≡◌, ◌≢◌, ◌⊎◌, inl, inr, ℕ, zero, suc, ◌+◌, ◌<◌, List, [], ◌∷◌, ◌++◌, map, length, set, replicate, Option, Some, slice_get, slice_index, ap, sym, subst, refl, ◌∙◌, ⊎_elim, length-append, le-ltb, arith}
use Rattle.std.proofs.lemmas.List.{length-map, length-replicate}
use mathlib.Core.Option as maybe
use lib.ListN.{get_elem?}
use Rattle.atomic_table.specs.Table.{State, Splits, Joins, opening}
use Rattle.atomic_table.proofs.Lists.{at_set, at_snoc, set_else}
use Rattle.turn_table.specs.declared.views.View.{View}
use Rattle.turn_table.specs.Places.{at, one, total, times, once_below, count_if}
use Rattle.turn_table.specs.Views.{whole, fresh, cut, joined}
use Rattle.turn_table.specs.Rule.{HoldsApart, Kept, Knows}
use Rattle.turn_table.proofs.ByPlace.{none_is_some, zero_of_none}
use Rattle.turn_table.proofs.Sums.{total_set, total_snoc}
use Rattle.turn_table.proofs.Histories.{times-append, Stand-append}
use Rattle.turn_table.proofs.Apart.{leave-append}

-- the element at a number of a list of parts, each at home
part_there : {P : Type 0} (xs : List P) (i : ℕ) → i < length xs → (p : P) × (slice_get xs i ≡ Some p) × (get_elem? (map maybe.some (map Some xs)) i ≡ maybe.some (maybe.some (Some p)))
part_there [] i h = absurd (omega arith)
part_there (x ∷ xs) zero h = (x, refl, refl)
part_there (x ∷ xs) (suc i) h = part_there xs i (omega arith)

module _ {P E : Type 0} (footprint : E → List ℕ) (happens : E → List P → List P → Type 0) (start : List P) where
  -- only the views change, and each total stays
  recast : (s : State (Option P) (View P E)) (k : Kept footprint happens start s) (views : List (View P E))
      → ((x : ℕ) → total (λ (v : View P E). times x v.entries) views ≡ total (λ (v : View P E). times x v.entries) s.views)
      → total (λ (v : View P E). length v.entries) views ≡ total (λ (v : View P E). length v.entries) s.views
      → total (λ (v : View P E). v.weight + v.splits) views ≡ total (λ (v : View P E). v.weight + v.splits) s.views
      → ((i : ℕ) → total (λ (v : View P E). one (at v.held i)) views ≡ total (λ (v : View P E). one (at v.held i)) s.views)
      → ((j l : ℕ) (v u : View P E) → get_elem? views j ≡ maybe.some v → get_elem? views l ≡ maybe.some u → j ≢ l → HoldsApart footprint v u)
      → ((j : ℕ) (v : View P E) → get_elem? views j ≡ maybe.some v → Knows k.parts k.history s.homes (length start) v)
      → Kept footprint happens start record { words = s.words; homes = s.homes; views = views }
  recast s k views numbers many weights turn alone each = record {
    history = k.history;
    parts = k.parts;
    run = k.run;
    wide = k.wide;
    deep = k.deep;
    sized = k.sized;
    count = k.count;
    numbers = λ x. numbers x ∙ k.numbers x;
    many = many ∙ k.many;
    weights = weights ∙ k.weights;
    turn = λ i h. turn i ∙ k.turn i h;
    binary = k.binary;
    free = k.free;
    alone = alone;
    each = each;
  }

  -- who holds nothing
  idle_apart : (v u : View P E) → ((i : ℕ) (p : P) → at v.held i ≡ Some p → ⊥) → HoldsApart footprint v u
  idle_apart v u idle i n p e f = absurd (idle i p e)

  -- a view that holds nothing and has no entry
  fresh_knows : (parts : List P) (history : List E) (homes : List (maybe.Option (Option P))) (weight splits : ℕ) → Knows parts history homes (length start) (fresh {P = P} {E = E} weight splits)
  fresh_knows parts history homes weight splits = record {
    held = λ i p e. absurd (none_is_some p e);
    stand = tt;
    bound = omega arith;
    since = λ i p e. absurd (none_is_some p e);
    live = λ i p e. absurd (none_is_some p e);
  }

  pub split_allowed : (id : ℕ) (v : View P E) → 0 < v.splits → Splits (Kept footprint happens start) id v (cut v) (fresh 1 0)
  split_allowed id v left s k here =
      let known = k.each id v here in
      recast s k (set s.views id (cut v) ++ fresh 1 0 ∷ [])
      (λ x. (let t = total_set (λ (u : View P E). times x u.entries) s.views id v (cut v) here in let n = total_snoc (λ (u : View P E). times x u.entries) (set s.views id (cut v)) (fresh 1 0) in omega arith))
      (let t = total_set (λ (u : View P E). length u.entries) s.views id v (cut v) here in let n = total_snoc (λ (u : View P E). length u.entries) (set s.views id (cut v)) (fresh 1 0) in omega arith)
      (let t = total_set (λ (u : View P E). u.weight + u.splits) s.views id v (cut v) here in let n = total_snoc (λ (u : View P E). u.weight + u.splits) (set s.views id (cut v)) (fresh 1 0) in omega arith)
      (λ i. (let t = total_set (λ (u : View P E). one (at u.held i)) s.views id v (cut v) here in let n = total_snoc (λ (u : View P E). one (at u.held i)) (set s.views id (cut v)) (fresh 1 0) in omega arith))
      (λ j l x y e f ne. ⊎_elim
      (λ a. ⊎_elim
      (λ b. apart_after j l x y a b ne (at_set s.views id j (cut v) x a) (at_set s.views id l (cut v) y b))
      (λ q. subst (λ (z : View P E). HoldsApart footprint x z) q (λ i n p h g. tt))
      (at_snoc (set s.views id (cut v)) (fresh 1 0) y l f))
      (λ q. subst (λ (z : View P E). HoldsApart footprint z y) q (idle_apart (fresh 1 0) y (λ i p h. none_is_some p h)))
      (at_snoc (set s.views id (cut v)) (fresh 1 0) x j e))
      (λ j u e. ⊎_elim
      (λ f. ⊎_elim
      (λ t. subst (λ (x : View P E). Knows k.parts k.history s.homes (length start) x) t.1 (record { held = known.held; stand = known.stand; bound = known.bound; since = known.since; live = known.live }))
      (λ t. k.each j u t.1)
      (at_set s.views id j (cut v) u f))
      (λ q. subst (λ (x : View P E). Knows k.parts k.history s.homes (length start) x) q (fresh_knows k.parts k.history s.homes 1 0))
      (at_snoc (set s.views id (cut v)) (fresh 1 0) u j e)) where
        Now : ℕ → View P E → Type 0
        Now j x = ((j ≡ id) × (cut v ≡ x)) ⊎ ((j ≢ id) × (get_elem? s.views j ≡ maybe.some x))

        apart_after : (j l : ℕ) (x y : View P E) → get_elem? (set s.views id (cut v)) j ≡ maybe.some x → get_elem? (set s.views id (cut v)) l ≡ maybe.some y → j ≢ l
            → Now j x → Now l y → HoldsApart footprint x y
        apart_after j l x y e f ne (inl t) (inl u) = absurd (ne (t.0 ∙ sym u.0))
        apart_after j l x y e f ne (inl t) (inr u) = subst (λ (z : View P E). HoldsApart footprint z y) t.1 (k.alone id l v y here u.1 (λ h. u.0 (sym h)))
        apart_after j l x y e f ne (inr t) (inl u) = subst (λ (z : View P E). HoldsApart footprint x z) u.1 (k.alone j id x v t.1 here t.0)
        apart_after j l x y e f ne (inr t) (inr u) = k.alone j l x y t.1 u.1 ne

  -- f of the two views together is f of the joined one
  moved_over : (f : View P E → ℕ) (s : State (Option P) (View P E)) (id other : ℕ) (v w : View P E)
      → get_elem? s.views id ≡ maybe.some v → get_elem? (set s.views id (joined v w)) other ≡ maybe.some w
      → f (joined v w) ≡ f v + f w → f (fresh 0 0) ≡ 0
      → total f (set (set s.views id (joined v w)) other (fresh 0 0)) ≡ total f s.views
  moved_over f s id other v w here there both none =
      let a = total_set f s.views id v (joined v w) here in
      let b = total_set f (set s.views id (joined v w)) other w (fresh 0 0) there in
      omega arith

  pub join_allowed : (id other : ℕ) (v w : View P E) → ((i : ℕ) (p : P) → at w.held i ≡ Some p → ⊥) → 0 < v.weight
      → Joins (Kept footprint happens start) id v other w (joined v w) (fresh 0 0)
  join_allowed id other v w idle weighs s k here differ there =
      let known = k.each id v here in
      let views = set (set s.views id (joined v w)) other (fresh 0 0) in
      let second = k.each other w (sym (set_else s.views id other (joined v w) differ) ∙ there) in
      recast s k views
      (λ x. moved_over (λ (u : View P E). times x u.entries) s id other v w here there (times-append x v.entries w.entries) refl)
      (moved_over (λ (u : View P E). length u.entries) s id other v w here there (length-append v.entries w.entries) refl)
      (moved_over (λ (u : View P E). u.weight + u.splits) s id other v w here there (omega arith) refl)
      (λ i. moved_over (λ (u : View P E). one (at u.held i)) s id other v w here there (let z = zero_of_none (at w.held i) (idle i) in omega arith) refl)
      (λ j l x y e f ne. ⊎_elim
      (λ t. subst (λ (z : View P E). HoldsApart footprint z y) t.1 (idle_apart (fresh 0 0) y (λ i p h. none_is_some p h)))
      (λ t. ⊎_elim
      (λ u. subst (λ (z : View P E). HoldsApart footprint x z) u.1 (λ i n p h g. tt))
      (λ u. apart_after j l x y ne t.0 (at_set s.views id j (joined v w) x t.1) (at_set s.views id l (joined v w) y u.1))
      (at_set (set s.views id (joined v w)) other l (fresh 0 0) y f))
      (at_set (set s.views id (joined v w)) other j (fresh 0 0) x e))
      (λ j u e. ⊎_elim
      (λ t. subst (λ (x : View P E). Knows k.parts k.history s.homes (length start) x) t.1 (fresh_knows k.parts k.history s.homes 0 0))
      (λ t. ⊎_elim
      (λ q. subst (λ (x : View P E). Knows k.parts k.history s.homes (length start) x) q.1 (record {
        held = known.held;
        stand = Stand-append k.history v.entries w.entries known.stand second.stand;
        bound = (let a = length-append v.entries w.entries in let b = known.bound in let c = second.bound in omega arith);
        since = known.since;
        live = λ i p f. omega arith;
      }))
      (λ q. k.each j u q.1)
      (at_set s.views id j (joined v w) u t.1))
      (at_set (set s.views id (joined v w)) other j (fresh 0 0) u e)) where
        old : get_elem? s.views other ≡ maybe.some w
        old = sym (set_else s.views id other (joined v w) differ) ∙ there

        Now : ℕ → View P E → Type 0
        Now j x = ((j ≡ id) × (joined v w ≡ x)) ⊎ ((j ≢ id) × (get_elem? s.views j ≡ maybe.some x))

        apart_after : (j l : ℕ) (x y : View P E) → j ≢ l → j ≢ other → Now j x → Now l y → HoldsApart footprint x y
        apart_after j l x y ne not (inl t) (inl u) = absurd (ne (t.0 ∙ sym u.0))
        apart_after j l x y ne not (inl t) (inr u) = subst (λ (z : View P E). HoldsApart footprint z y) t.1 (k.alone id l v y here u.1 (λ h. u.0 (sym h)))
        apart_after j l x y ne not (inr t) (inl u) = subst (λ (z : View P E). HoldsApart footprint x z) u.1
            (λ i n p h g. leave-append footprint i n v.entries w.entries (k.alone j id x v t.1 here t.0 i n p h g) (k.alone j other x w t.1 old not i n p h g))
        apart_after j l x y ne not (inr t) (inr u) = k.alone j l x y t.1 u.1 ne

  zeros : (n i : ℕ) → slice_index (replicate n 0) i ≡ 0
  zeros zero i = refl
  zeros (suc n) zero = refl
  zeros (suc n) (suc i) = zeros n i

  -- no turn is held, and each part is at home
  pub opens : (words : List ℕ) (slots : List (Option P)) (n : ℕ) (parts : List P) → words ≡ replicate n 0 → n ≡ length parts + 1 → slots ≡ map Some parts → parts ≡ start
      → Kept footprint happens start (opening words slots (whole {P = P} {E = E}))
  opens words slots n parts w m h p = subst (λ (ws : List ℕ). Kept footprint happens start (opening ws slots whole)) (sym (w ∙ ap (λ (k : ℕ). replicate k 0) (one_more n (length parts) (length start) m (ap (λ (xs : List P). length xs) p)))) (subst (λ (xs : List (Option P)). Kept footprint happens start (opening (replicate (suc (length start)) 0) xs whole)) (sym (h ∙ ap (map Some) p)) (record {
    history = [];
    parts = start;
    run = refl;
    wide = length-replicate (suc (length start)) 0;
    deep = length-map (map Some start) maybe.some ∙ length-map start Some;
    sized = refl;
    count = refl;
    numbers = λ x. below_zero x;
    many = refl;
    weights = refl;
    turn = λ i r. sym (zeros (suc (length start)) (suc i));
    binary = λ i r. (let z = zeros (suc (length start)) (suc i) in omega arith);
    free = λ i r z. part_there start i r;
    alone = λ j l v u e f ne. first_idle j v u e;
    each = λ j v e. first_only j v e;
  })) where
    one_more : (n m k : ℕ) → n ≡ m + 1 → m ≡ k → n ≡ suc k
    one_more n m k e f = omega arith

    below_zero : (x : ℕ) → 0 ≡ once_below x 0
    below_zero x = sym (ap count_if (le-ltb x 0 (omega arith)))

    first_idle : (j : ℕ) (v u : View P E) → get_elem? (whole {P = P} {E = E} ∷ []) j ≡ maybe.some v → HoldsApart footprint v u
    first_idle zero v u e = subst (λ (x : View P E). HoldsApart footprint x u) (maybe.some-injective whole v e) (idle_apart whole u (λ i p h. none_is_some p h))
    first_idle (suc j) v u e = absurd (maybe.some-ne-none v (sym e))

    first_only : (j : ℕ) (v : View P E) → get_elem? (whole {P = P} {E = E} ∷ []) j ≡ maybe.some v → Knows start [] (map maybe.some (map Some start)) (length start) v
    first_only zero v e = subst (λ (x : View P E). Knows start [] (map maybe.some (map Some start)) (length start) x) (maybe.some-injective whole v e) (fresh_knows start [] (map maybe.some (map Some start)) 1 15)
    first_only (suc j) v e = absurd (maybe.some-ne-none v (sym e))
