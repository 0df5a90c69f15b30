-- Messages by key: what is found, and what is left, in the order of posting and in the map.
use Rattle.std.proofs.Common.{◌≡◌, ℕ, suc, ◌+◌, ◌≤◌, Bool, true, false, cond, not, List, [], ◌∷◌, ◌++◌, length, map, filter, Option, None, Some, is_some, true≢false, refl, sym, ap, ◌∙◌, subst, inl, inr, arith}
use Rattle.std.proofs.lemmas.Bool.{cases_Bool, cond-true, cond-false}
use Rattle.std.proofs.lemmas.Map.Keys.{IsDistinct-head, IsDistinct-tail}
use Rattle.std.specs.Cmp.{IsEquivalence}
use Rattle.std.specs.List.{AllByRecursion, IsDistinct}
use Rattle.std.specs.Map.{keys_of, lookup}
use Rattle.std.specs.Option.{option_map}
use Rattle.snap_base.proofs.Options.{none_mapped}
use Rattle.indexmap.specs.IndexMap.{insert_entry, swap_remove_entry}
use Rattle.post_box.specs.declared.numbered.Numbered.{Numbered}
use Rattle.post_box.specs.Order.{in_order, IsNumbered}
use Rattle.post_box.specs.Kept.{entry_number, entry_message, in_posting_order}
use Rattle.post_box.proofs.InOrder.{filter-in_order_few, in_order-push, in_order-none, length-in_order, IsNumbered-push}
use Rattle.post_box.proofs.SwapRemove.{in_order-swap_remove_entry, IsNumbered-swap_remove_entry}

module _ {X Y : Type 0} where
  -- a filter of what is made of things
  pub filter-map : (p : Y → Bool) (f : X → Y) (xs : List X) → filter p (map f xs) ≡ map f (filter (λ x. p (f x)) xs)
  filter-map p f [] = refl
  filter-map p f (x ∷ xs) = ap (λ l. cond (p (f x)) (f x ∷ l) l) (filter-map p f xs) ∙ by (p (f x))
    where
      by : (b : Bool) → cond b (f x ∷ map f (filter (λ y. p (f y)) xs)) (map f (filter (λ y. p (f y)) xs)) ≡ map f (cond b (x ∷ filter (λ y. p (f y)) xs) (filter (λ y. p (f y)) xs))
      by true = refl
      by false = refl

  pub map-append : (f : X → Y) (xs ys : List X) → map f (xs ++ ys) ≡ map f xs ++ map f ys
  map-append f [] ys = refl
  map-append f (x ∷ xs) ys = ap (λ l. f x ∷ l) (map-append f xs ys)

  pub length-map_same : (f : X → Y) (xs : List X) → length (map f xs) ≡ length xs
  length-map_same f [] = refl
  length-map_same f (x ∷ xs) = ap suc (length-map_same f xs)

-- a key passes once at most, where keys are distinct
module _ {K V : Type 0} {eq : K → K → Bool} (laws : IsEquivalence eq) (k : K) where
  none_equal : (other : K) (es : List (K × V)) → eq k other ≡ true → AllByRecursion (λ y. eq other y ≡ false) (keys_of es) → filter (λ e. eq k e.0) es ≡ []
  none_equal other [] same apart = refl
  none_equal other (e ∷ es) same apart = cond-false (eq k e.0) _ _ (laws.congr k other e.0 same ∙ apart.0) ∙ none_equal other es same apart.1

  pub once : (es : List (K × V)) → IsDistinct eq (keys_of es) → length (filter (λ e. eq k e.0) es) ≤ 1
  once [] d = omega arith
  once (e ∷ es) d =
      elim (cases_Bool (eq k e.0)) [
        | inl q ↦
            let all : filter (λ x. eq k x.0) (e ∷ es) ≡ e ∷ filter (λ x. eq k x.0) es = cond-true (eq k e.0) _ _ q in
            let none : filter (λ x. eq k x.0) es ≡ [] = none_equal e.0 es q (IsDistinct-head eq e.0 (keys_of es) d) in
            omega (arith, ap length all, ap length none)
        | inr q ↦
            let all : filter (λ x. eq k x.0) (e ∷ es) ≡ filter (λ x. eq k x.0) es = cond-false (eq k e.0) _ _ q in
            omega (arith, ap length all, once es (IsDistinct-tail eq e.0 (keys_of es) d))
      ]

module _ {K M : Type 0} (t : K → Bool) where
  -- the message of the first
  abbrev first_message : List (K × Numbered M) → Option M
  first_message [] = None
  first_message (e ∷ es) = Some e.1.message

  lookup_first : (es : List (K × Numbered M)) → lookup t (map entry_message es) ≡ first_message (filter (λ e. t e.0) es)
  lookup_first [] = refl
  lookup_first (e ∷ es) = ap (λ o. cond (t e.0) (Some e.1.message) o) (lookup_first es) ∙ by (t e.0)
    where
      by : (b : Bool) → cond b (Some e.1.message) (first_message (filter (λ x. t x.0) es)) ≡ first_message (cond b (e ∷ filter (λ x. t x.0) es) (filter (λ x. t x.0) es))
      by true = refl
      by false = refl

  kept_first : (es : List (K × Numbered M)) → option_map (λ (v : Numbered M). v.message) (lookup t es) ≡ first_message (filter (λ e. t e.0) es)
  kept_first [] = refl
  kept_first (e ∷ es) = by (t e.0) (kept_first es)
    where
      by : (b : Bool) → option_map (λ (v : Numbered M). v.message) (lookup t es) ≡ first_message (filter (λ x. t x.0) es) → option_map (λ (v : Numbered M). v.message) (cond b (Some e.1) (lookup t es)) ≡ first_message (cond b (e ∷ filter (λ x. t x.0) es) (filter (λ x. t x.0) es))
      by true rest = refl
      by false rest = rest

  -- what is found in the order of posting is what the map finds
  pub lookup-posting_order : (n : ℕ) (es : List (K × Numbered M)) → IsNumbered entry_number n es → length (filter (λ e. t e.0) es) ≤ 1
      → lookup t (in_posting_order n es) ≡ option_map (λ (v : Numbered M). v.message) (lookup t es)
  lookup-posting_order n es h own =
      lookup_first (in_order entry_number n es) ∙ ap first_message (filter-in_order_few entry_number n (λ e. t e.0) es h own) ∙ sym (kept_first es)

  -- what a removal leaves, the others in their order
  pub posting_order-taken : (n : ℕ) (es : List (K × Numbered M)) → IsNumbered entry_number n es → length (filter (λ e. t e.0) es) ≤ 1
      → in_posting_order n (swap_remove_entry t es) ≡ filter (λ e. not (t e.0)) (in_posting_order n es)
  posting_order-taken n es h own =
      ap (map entry_message) (in_order-swap_remove_entry t entry_number n es h own) ∙ sym (filter-map (λ e. not (t e.0)) entry_message (in_order entry_number n es))

module _ {K M : Type 0} where
  posting_order-put : (n : ℕ) (es : List (K × Numbered M)) (k : K) (m : M) → IsNumbered entry_number n es
      → in_posting_order (n + 1) (es ++ (k, record { number = n; message = m }) ∷ []) ≡ in_posting_order n es ++ (k, m) ∷ []
  posting_order-put n es k m h =
      ap (map entry_message) (in_order-push entry_number n es (k, record { number = n; message = m }) h refl) ∙ map-append entry_message (in_order entry_number n es) ((k, record { number = n; message = m }) ∷ [])

  pub posting_order-none : (n : ℕ) → in_posting_order {K = K} {M = M} n [] ≡ []
  posting_order-none n = ap (map entry_message) (in_order-none entry_number n)

  pub length-posting_order : (n : ℕ) (es : List (K × Numbered M)) → IsNumbered entry_number n es → length (in_posting_order n es) ≡ length es
  length-posting_order n es h = length-map_same entry_message (in_order entry_number n es) ∙ length-in_order entry_number n es h

-- ---- the calls

insert_entry-absent : {K V : Type 0} (eq : K → K → Bool) (es : List (K × V)) (k : K) (v : V) → lookup (eq k) es ≡ None → insert_entry eq es k v ≡ es ++ (k, v) ∷ []
insert_entry-absent eq [] k v none = refl
insert_entry-absent eq (e ∷ es) k v none =
    elim (cases_Bool (eq k e.0)) [
      | inl q ↦ absurd (true≢false (ap is_some (sym (cond-true (eq k e.0) (Some e.1) (lookup (eq k) es) q) ∙ none)))
      | inr q ↦
          cond-false (eq k e.0) _ _ q
          ∙ ap (λ l. e ∷ l) (insert_entry-absent eq es k v (sym (cond-false (eq k e.0) (Some e.1) (lookup (eq k) es) q) ∙ none))
    ]

module _ {K M : Type 0} {eq : K → K → Bool} (laws : IsEquivalence eq) (k : K) (n : ℕ) (es : List (K × Numbered M)) (unique : IsDistinct eq (keys_of es)) (h : IsNumbered entry_number n es) where
  pub found : lookup (eq k) (in_posting_order n es) ≡ option_map (λ (v : Numbered M). v.message) (lookup (eq k) es)
  found = lookup-posting_order (eq k) n es h (once laws k es unique)

  pub taken : in_posting_order n (swap_remove_entry (eq k) es) ≡ filter (λ e. not (eq k e.0)) (in_posting_order n es)
  taken = posting_order-taken (eq k) n es h (once laws k es unique)

  pub taken_numbered : IsNumbered entry_number n (swap_remove_entry (eq k) es)
  taken_numbered = IsNumbered-swap_remove_entry (eq k) entry_number n es h (once laws k es unique)

  module _ (m : M) (none : lookup (eq k) (in_posting_order n es) ≡ None) where
    last : insert_entry eq es k (record { number = n; message = m }) ≡ es ++ (k, record { number = n; message = m }) ∷ []
    last = insert_entry-absent eq es k (record { number = n; message = m }) (none_mapped (λ (v : Numbered M). v.message) (lookup (eq k) es) (sym found ∙ none))

    pub put : in_posting_order (n + 1) (insert_entry eq es k (record { number = n; message = m })) ≡ in_posting_order n es ++ (k, m) ∷ []
    put = ap (in_posting_order (n + 1)) last ∙ posting_order-put n es k m h

    pub put_numbered : IsNumbered entry_number (n + 1) (insert_entry eq es k (record { number = n; message = m }))
    put_numbered = subst (IsNumbered entry_number (n + 1)) (sym last) (IsNumbered-push entry_number n es (k, record { number = n; message = m }) h refl)
