-- What a removal leaves that puts the last in the place of what goes.
use Rattle.std.proofs.Common.{◌≡◌, ℕ, suc, ◌+◌, ◌-◌, ◌<◌, ◌≤◌, Bool, true, false, cond, not, eqb, ltb, List, [], ◌∷◌, ◌++◌, length, take, set, get_or, filter, None, Some, refl, sym, ap, ◌∙◌, inl, inr, arith, append-nil, ltb-true, ltb-false, take_all}
use Rattle.std.proofs.lemmas.Bool.{cases_Bool, cond-true, cond-false, cond_both}
use Rattle.std.proofs.lemmas.List.{take_more}
use Rattle.std.proofs.lemmas.List.Elements.{filter-append}
use Rattle.std.specs.List.{swap_remove, position_or_len}
use Rattle.std.specs.Map.{keys_of}
use Rattle.std.specs.Option.{option_map_or}
use Rattle.indexmap.specs.IndexMap.{swap_remove_entry}
use Rattle.post_box.specs.Order.{numbered, in_order, IsNumbered}
use Rattle.post_box.proofs.InOrder.{at_most_one, filter-filter, filter_others, filter-in_order, in_order-same, length-filter_le, length-filter_tail, nil_from_length}

module _ {X : Type 0} where
  swap_remove-suc : (x : X) (xs : List X) (i : ℕ) (d : X) → 0 < length xs → swap_remove (x ∷ xs) (suc i) d ≡ x ∷ swap_remove xs i d
  swap_remove-suc x xs i d some =
      let n : suc (length xs) - 1 ≡ suc (length xs - 1) = omega arith in
      ap (λ k. take k (x ∷ set xs i (get_or (x ∷ xs) k d))) n

  swap_remove-zero : (x : X) (xs : List X) (d : X) → 0 < length xs → swap_remove (x ∷ xs) 0 d ≡ get_or xs (length xs - 1) d ∷ take (length xs - 1) xs
  swap_remove-zero x xs d some =
      let n : suc (length xs) - 1 ≡ suc (length xs - 1) = omega arith in
      ap (λ k. take k (get_or (x ∷ xs) k d ∷ xs)) n

  split_last : (xs : List X) (d : X) → 0 < length xs → xs ≡ take (length xs - 1) xs ++ get_or xs (length xs - 1) d ∷ []
  split_last xs d some = sym (take_all (length xs - 1 + 1) xs (omega arith)) ∙ take_more xs (length xs - 1) d (omega arith)

  -- of two lists with one element in all, either may come first
  append_few : (xs ys : List X) → length (ys ++ xs) ≤ 1 → xs ++ ys ≡ ys ++ xs
  append_few [] ys few = sym (append-nil ys)
  append_few (x ∷ xs) [] few = append-nil (x ∷ xs)
  append_few (x ∷ xs) (y ∷ []) few = absurd (omega arith)
  append_few (x ∷ xs) (y ∷ z ∷ ys) few = absurd (omega arith)

  cons_filter : (p : X → Bool) (x : X) (xs : List X) → filter p (x ∷ xs) ≡ filter p (x ∷ []) ++ filter p xs
  cons_filter p x xs = by (p x)
    where
      by : (b : Bool) → cond b (x ∷ filter p xs) (filter p xs) ≡ cond b (x ∷ []) [] ++ filter p xs
      by true = refl
      by false = refl

  -- the last one first: a test that one passes at most keeps the same
  filter_turned : (p : X → Bool) (xs : List X) (d : X) → 0 < length xs → length (filter p xs) ≤ 1 → filter p (get_or xs (length xs - 1) d ∷ take (length xs - 1) xs) ≡ filter p xs
  filter_turned p xs d some few =
      let last = get_or xs (length xs - 1) d in
      let front = take (length xs - 1) xs in
      let whole : filter p xs ≡ filter p front ++ filter p (last ∷ []) = ap (filter p) (split_last xs d some) ∙ filter-append p front (last ∷ []) in
      cons_filter p last front ∙ append_few (filter p (last ∷ [])) (filter p front) (omega (arith, ap length whole)) ∙ sym whole

module _ {K V : Type 0} (t : K → Bool) where
  place : List (K × V) → ℕ
  place es = position_or_len t (keys_of es)

  place-here : (e : K × V) (es : List (K × V)) → t e.0 ≡ true → position_or_len t (keys_of (e ∷ es)) ≡ 0
  place-here e es h = cond-false (not (t e.0)) _ _ (ap not h)

  place-later : (e : K × V) (es : List (K × V)) → t e.0 ≡ false → position_or_len t (keys_of (e ∷ es)) ≡ suc (position_or_len t (keys_of es))
  place-later e es h = let later : position_or_len t (keys_of (e ∷ es)) ≡ 1 + position_or_len t (keys_of es) = cond-true (not (t e.0)) _ _ (ap not h) in omega arith

  none_pass : (es : List (K × V)) → length (keys_of es) ≤ position_or_len t (keys_of es) → filter (λ e. t e.0) es ≡ []
  none_pass [] h = refl
  none_pass (e ∷ es) h =
      elim (cases_Bool (t e.0)) [
        | inl q ↦ absurd (omega (arith, place-here e es q))
        | inr q ↦ cond-false (t e.0) _ _ q ∙ none_pass es (omega (arith, place-later e es q))
      ]

  -- what a test that one passes at most keeps of what is left
  filter-swap_remove : (p : K × V → Bool) (es : List (K × V)) (d : K × V) → position_or_len t (keys_of es) < length (keys_of es)
      → length (filter (λ e. t e.0) es) ≤ 1 → length (filter p es) ≤ 1 → filter p (swap_remove es (position_or_len t (keys_of es)) d) ≡ filter p (filter (λ e. not (t e.0)) es)
  filter-swap_remove p [] d within own few = absurd (omega arith)
  filter-swap_remove p (e ∷ []) d within own few =
      elim (cases_Bool (t e.0)) [
        | inl q ↦ ap (filter p) (sym (cond-false (not (t e.0)) (e ∷ []) [] (ap not q)))
        | inr q ↦ absurd (omega (arith, place-later e [] q))
      ]
  filter-swap_remove p (e ∷ y ∷ ys) d within own few =
      let some : 0 < length (y ∷ ys) = omega arith in
      let few_later : length (filter p (y ∷ ys)) ≤ 1 = omega (arith, length-filter_tail p e (y ∷ ys)) in
      elim (cases_Bool (t e.0)) [
        | inl q ↦
            let now : filter (λ x. t x.0) (e ∷ y ∷ ys) ≡ e ∷ filter (λ x. t x.0) (y ∷ ys) = cond-true (t e.0) _ _ q in
            let none : filter (λ x. t x.0) (y ∷ ys) ≡ [] = nil_from_length (filter (λ x. t x.0) (y ∷ ys)) (omega (arith, ap length now)) in
            ap (λ i. filter p (swap_remove (e ∷ y ∷ ys) i d)) (place-here e (y ∷ ys) q)
            ∙ ap (filter p) (swap_remove-zero e (y ∷ ys) d some)
            ∙ filter_turned p (y ∷ ys) d some few_later
            ∙ ap (filter p) (sym (cond-false (not (t e.0)) _ _ (ap not q) ∙ filter_others (λ x. t x.0) (y ∷ ys) none))
        | inr q ↦
            let own_later : length (filter (λ x. t x.0) (y ∷ ys)) ≤ 1 = omega (arith, length-filter_tail (λ (x : K × V). t x.0) e (y ∷ ys)) in
            ap (λ i. filter p (swap_remove (e ∷ y ∷ ys) i d)) (place-later e (y ∷ ys) q)
            ∙ ap (filter p) (swap_remove-suc e (y ∷ ys) (position_or_len t (keys_of (y ∷ ys))) d some)
            ∙ ap (λ l. cond (p e) (e ∷ l) l) (filter-swap_remove p (y ∷ ys) d (omega (arith, place-later e (y ∷ ys) q)) own_later few_later)
            ∙ ap (filter p) (sym (cond-true (not (t e.0)) _ _ (ap not q)))
      ]

  pub filter-swap_remove_entry : (p : K × V → Bool) (es : List (K × V)) → length (filter (λ e. t e.0) es) ≤ 1 → length (filter p es) ≤ 1
      → filter p (swap_remove_entry t es) ≡ filter p (filter (λ e. not (t e.0)) es)
  filter-swap_remove_entry p [] own few = refl
  filter-swap_remove_entry p (e ∷ es) own few =
      let i = position_or_len t (keys_of (e ∷ es)) in
      cond_both
      (ltb i (length (keys_of (e ∷ es))))
      (Some i)
      None
      (λ o. filter p (option_map_or (λ k. swap_remove (e ∷ es) k e) o (e ∷ es)) ≡ filter p (filter (λ x. not (t x.0)) (e ∷ es)))
      (λ q. filter-swap_remove p (e ∷ es) e (ltb-true i (length (keys_of (e ∷ es))) q) own few)
      (λ q. ap (filter p) (sym (filter_others (λ x. t x.0) (e ∷ es) (none_pass (e ∷ es) (ltb-false i (length (keys_of (e ∷ es))) q)))))

  module _ (number : K × V → ℕ) where
    few_numbered : (n : ℕ) (es : List (K × V)) → IsNumbered number n es → (i : ℕ) → length (numbered number i es) ≤ 1
    few_numbered n es h i = omega (arith, h i, at_most_one i n)

    -- the others stay in their order
    pub in_order-swap_remove_entry : (n : ℕ) (es : List (K × V)) → IsNumbered number n es → length (filter (λ e. t e.0) es) ≤ 1
        → in_order number n (swap_remove_entry t es) ≡ filter (λ e. not (t e.0)) (in_order number n es)
    in_order-swap_remove_entry n es h own =
        in_order-same number n (swap_remove_entry t es) (filter (λ e. not (t e.0)) es) (λ i l. filter-swap_remove_entry (λ e. eqb (number e) i) es own (few_numbered n es h i))
        ∙ sym (filter-in_order number (λ e. not (t e.0)) n es)

    pub IsNumbered-swap_remove_entry : (n : ℕ) (es : List (K × V)) → IsNumbered number n es → length (filter (λ e. t e.0) es) ≤ 1 → IsNumbered number n (swap_remove_entry t es)
    IsNumbered-swap_remove_entry n es h own i =
        let left : numbered number i (swap_remove_entry t es) ≡ filter (λ e. not (t e.0)) (numbered number i es) =
        filter-swap_remove_entry (λ e. eqb (number e) i) es own (few_numbered n es h i) ∙ filter-filter (λ e. eqb (number e) i) (λ e. not (t e.0)) es in
        omega (arith, h i, ap length left, length-filter_le (λ (e : K × V). not (t e.0)) (numbered number i es))
