-- What stands in the order of its numbers.
use Rattle.std.proofs.Common.{◌≡◌, ℕ, zero, suc, ◌+◌, ◌<◌, ◌≤◌, Bool, true, false, cond, not, eqb, ltb, List, [], ◌∷◌, ◌++◌, length, filter, refl, sym, ap, ◌∙◌, arith, append-nil, length-append, inl, inr, if◌then◌else◌, eq-eqb, ne_eqb, ltb-true, ltb-false, lt-ltb, le-ltb}
use Rattle.std.proofs.lemmas.Bool.{cases_Bool, cond-true, cond-false, cond_both}
use Rattle.std.proofs.lemmas.List.Elements.{filter-append}
use mathlib.Core.Logic.{dite}
use native.Mathlib.Decide.{ℕ_discrete}
use Rattle.post_box.specs.Order.{numbered, in_order, IsNumbered}

-- ---- filters

module _ {X : Type 0} where
  filter-cond : (p : X → Bool) (b : Bool) (x : X) (xs : List X) → filter p (cond b (x ∷ xs) xs) ≡ cond b (cond (p x) (x ∷ filter p xs) (filter p xs)) (filter p xs)
  filter-cond p true x xs = refl
  filter-cond p false x xs = refl

  either_first : (a b : Bool) (x : X) (xs ys : List X) → xs ≡ ys → cond b (cond a (x ∷ xs) xs) xs ≡ cond a (cond b (x ∷ ys) ys) ys
  either_first true true x xs ys e = ap (λ l. x ∷ l) e
  either_first true false x xs ys e = e
  either_first false true x xs ys e = e
  either_first false false x xs ys e = e

  -- of two filters either may come first
  pub filter-filter : (p q : X → Bool) (xs : List X) → filter p (filter q xs) ≡ filter q (filter p xs)
  filter-filter p q [] = refl
  filter-filter p q (x ∷ xs) =
      filter-cond p (q x) x (filter q xs) ∙ either_first (p x) (q x) x _ _ (filter-filter p q xs) ∙ sym (filter-cond q (p x) x (filter p xs))

  length-cond : (b : Bool) (x : X) (xs : List X) → length (cond b (x ∷ xs) xs) ≡ length (cond b (x ∷ []) []) + length xs
  length-cond true x xs = omega arith
  length-cond false x xs = omega arith

  -- a filter makes no list longer, nor does one element less
  pub length-filter_le : (p : X → Bool) (xs : List X) → length (filter p xs) ≤ length xs
  length-filter_le p [] = omega arith
  length-filter_le p (x ∷ xs) =
      let rest : length (filter p xs) ≤ length xs = length-filter_le p xs in
      cond_both (p x) (x ∷ filter p xs) (filter p xs) (λ l. length l ≤ length (x ∷ xs)) (λ e. omega arith) (λ e. omega arith)

  pub length-filter_tail : (p : X → Bool) (x : X) (xs : List X) → length (filter p xs) ≤ length (filter p (x ∷ xs))
  length-filter_tail p x xs = omega (arith, length-cond (p x) x (filter p xs))

  pub nil_from_length : (xs : List X) → length xs ≤ 0 → xs ≡ []
  nil_from_length [] h = refl
  nil_from_length (x ∷ xs) h = absurd (omega arith)

  -- where none passes, all pass the other test
  pub filter_others : (p : X → Bool) (xs : List X) → filter p xs ≡ [] → filter (λ x. not (p x)) xs ≡ xs
  filter_others p [] h = refl
  filter_others p (x ∷ xs) h =
      let few : length (filter p (x ∷ xs)) ≤ 0 = omega (arith, ap length h) in
      let rest : filter p xs ≡ [] = nil_from_length (filter p xs) (omega (arith, length-cond (p x) x (filter p xs))) in
      let fails : p x ≡ false = fails_first (p x) few in
      cond-true (not (p x)) _ _ (ap not fails) ∙ ap (λ l. x ∷ l) (filter_others p xs rest)
    where
      fails_first : (b : Bool) → length (cond b (x ∷ filter p xs) (filter p xs)) ≤ 0 → b ≡ false
      fails_first true few = absurd (omega arith)
      fails_first false few = refl

-- ---- at most one, or none

abbrev one_below : ℕ → ℕ → ℕ
one_below i n = if ltb i n then 1 else 0

one_below-lt : (i n : ℕ) → i < n → one_below i n ≡ 1
one_below-lt i n h = cond-true (ltb i n) 1 0 (lt-ltb i n h)

one_below-ge : (i n : ℕ) → n ≤ i → one_below i n ≡ 0
one_below-ge i n h = cond-false (ltb i n) 1 0 (le-ltb i n h)

pub at_most_one : (i n : ℕ) → one_below i n ≤ 1
at_most_one i n = cond_both (ltb i n) 1 0 (λ k. k ≤ 1) (λ e. omega arith) (λ e. omega arith)

below_from_one : (i n : ℕ) → 1 ≤ one_below i n → i < n
below_from_one i n h =
    elim (cases_Bool (ltb i n)) [
      | inl q ↦ ltb-true i n q
      | inr q ↦ absurd (omega (arith, one_below-ge i n (ltb-false i n q)))
    ]

one_below_more : (i n : ℕ) → one_below i n ≤ one_below i (n + 1)
one_below_more i n =
    elim (cases_Bool (ltb i n)) [
      | inl q ↦ omega (arith, one_below-lt i (n + 1) (omega (arith, ltb-true i n q)), at_most_one i n)
      | inr q ↦ omega (arith, one_below-ge i n (ltb-false i n q))
    ]

-- ---- in order

module _ {X : Type 0} (number : X → ℕ) where
  numbered_here : (x : X) (n : ℕ) → number x ≡ n → numbered number n (x ∷ []) ≡ x ∷ []
  numbered_here x n e = cond-true (eqb (number x) n) _ _ (eq-eqb (number x) n e)

  numbered_else : (x : X) (n : ℕ) → (number x ≡ n → ⊥) → numbered number n (x ∷ []) ≡ []
  numbered_else x n ne = cond-false (eqb (number x) n) _ _ (ne_eqb (number x) n ne)

  pub filter-in_order : (p : X → Bool) (n : ℕ) (xs : List X) → filter p (in_order number n xs) ≡ in_order number n (filter p xs)
  filter-in_order p zero xs = refl
  filter-in_order p (suc n) xs =
      filter-append p (in_order number n xs) (numbered number n xs) ∙ (λ j. filter-in_order p n xs j ++ filter-filter p (λ x. eqb (number x) n) xs j)

  -- the order tells no more than which has which number
  pub in_order-same : (n : ℕ) (xs ys : List X) → ((i : ℕ) → i < n → numbered number i xs ≡ numbered number i ys) → in_order number n xs ≡ in_order number n ys
  in_order-same zero xs ys h = refl
  in_order-same (suc n) xs ys h = λ j. in_order-same n xs ys (λ i l. h i (omega arith)) j ++ h n (omega arith) j

  pub in_order-none : (n : ℕ) → in_order number n [] ≡ []
  in_order-none zero = refl
  in_order-none (suc n) = ap (λ l. l ++ []) (in_order-none n)

  in_order_past : (n : ℕ) (x : X) → n ≤ number x → in_order number n (x ∷ []) ≡ []
  in_order_past zero x h = refl
  in_order_past (suc n) x h = λ j. in_order_past n x (omega arith) j ++ numbered_else x n (λ e. omega arith) j

  pub in_order-one : (n : ℕ) (x : X) → number x < n → in_order number n (x ∷ []) ≡ x ∷ []
  in_order-one zero x h = absurd (omega arith)
  in_order-one (suc n) x h =
      dite
      (ℕ_discrete (number x) n)
      (λ e. λ j. in_order_past n x (omega arith) j ++ numbered_here x n e j)
      (λ ne. (λ j. in_order-one n x (omega arith) j ++ numbered_else x n ne j))

  in_order-few : (n : ℕ) (ys : List X) → length ys ≤ 1 → ((x : X) → ys ≡ x ∷ [] → number x < n) → in_order number n ys ≡ ys
  in_order-few n [] few below = in_order-none n
  in_order-few n (x ∷ []) few below = in_order-one n x (below x refl)
  in_order-few n (x ∷ y ∷ ys) few below = absurd (omega arith)

  -- the one that passes has a number below the next one
  number_below : (n : ℕ) (p : X → Bool) (xs : List X) (x : X) → IsNumbered number n xs → filter p xs ≡ x ∷ [] → number x < n
  number_below n p xs x h only =
      let i = number x in
      let has : filter p (numbered number i xs) ≡ x ∷ [] = filter-filter p (λ y. eqb (number y) i) xs ∙ ap (numbered number i) only ∙ numbered_here x i refl in
      below_from_one i n (omega (arith, h i, length-filter_le p (numbered number i xs), ap length has))

  -- Where a test passes one at most, it finds in the order of the numbers what it finds anywhere.
  pub filter-in_order_few : (n : ℕ) (p : X → Bool) (xs : List X) → IsNumbered number n xs → length (filter p xs) ≤ 1 → filter p (in_order number n xs) ≡ filter p xs
  filter-in_order_few n p xs h few = filter-in_order p n xs ∙ in_order-few n (filter p xs) few (λ x only. number_below n p xs x h only)

  -- ---- one more

  no_number : (n : ℕ) (xs : List X) → IsNumbered number n xs → numbered number n xs ≡ []
  no_number n xs h =
      nil_from_length (numbered number n xs) (omega (arith, h n, one_below-ge n n (omega arith)))

  pub in_order-push : (n : ℕ) (xs : List X) (x : X) → IsNumbered number n xs → number x ≡ n → in_order number (n + 1) (xs ++ x ∷ []) ≡ in_order number n xs ++ x ∷ []
  in_order-push n xs x h e =
      let next : n + 1 ≡ suc n = omega arith in
      ap (λ k. in_order number k (xs ++ x ∷ [])) next
      ∙ (λ j. in_order-same n (xs ++ x ∷ []) xs (λ i l. filter-append _ xs (x ∷ []) ∙ (λ k. numbered number i xs ++ numbered_else x i (λ q. omega arith) k) ∙ append-nil (numbered number i xs)) j
      ++ (filter-append (λ y. eqb (number y) n) xs (x ∷ []) ∙ (λ k. no_number n xs h k ++ numbered_here x n e k)) j)

  pub IsNumbered-push : (n : ℕ) (xs : List X) (x : X) → IsNumbered number n xs → number x ≡ n → IsNumbered number (n + 1) (xs ++ x ∷ [])
  IsNumbered-push n xs x h e i =
      let both : length (numbered number i (xs ++ x ∷ [])) ≡ length (numbered number i xs) + length (numbered number i (x ∷ [])) =
      ap length (filter-append (λ y. eqb (number y) i) xs (x ∷ [])) ∙ length-append (numbered number i xs) (numbered number i (x ∷ [])) in
      dite
      (ℕ_discrete (number x) i)
      (λ q.
      omega (arith, h i, both, one_below-ge i n (omega arith), one_below-lt i (n + 1) (omega arith), ap length (numbered_here x i q)))
      (λ q. omega (arith, h i, both, one_below_more i n, ap length (numbered_else x i q)))

  -- ---- how many

  pub number_below_first : (n : ℕ) (x : X) (xs : List X) → IsNumbered number n (x ∷ xs) → number x < n
  number_below_first n x xs h =
      let i = number x in
      below_from_one i n (omega (arith, h i, length-cond (eqb (number x) i) x (numbered number i xs), ap length (numbered_here x i refl)))

  pub IsNumbered-tail : (n : ℕ) (x : X) (xs : List X) → IsNumbered number n (x ∷ xs) → IsNumbered number n xs
  IsNumbered-tail n x xs h i = omega (arith, h i, length-filter_tail (λ y. eqb (number y) i) x xs)

  pub IsNumbered-filter : (p : X → Bool) (n : ℕ) (xs : List X) → IsNumbered number n xs → IsNumbered number n (filter p xs)
  IsNumbered-filter p n xs h i = omega (arith, h i, ap length (filter-filter (λ y. eqb (number y) i) p xs), length-filter_le p (numbered number i xs))

  length-in_order_cons : (n : ℕ) (x : X) (xs : List X) → length (in_order number n (x ∷ xs)) ≡ length (in_order number n (x ∷ [])) + length (in_order number n xs)
  length-in_order_cons zero x xs = refl
  length-in_order_cons (suc n) x xs =
      omega (
        arith,
        length-in_order_cons n x xs,
        length-cond (eqb (number x) n) x (numbered number n xs),
        length-append (in_order number n (x ∷ xs)) (numbered number n (x ∷ xs)),
        length-append (in_order number n (x ∷ [])) (numbered number n (x ∷ [])),
        length-append (in_order number n xs) (numbered number n xs),
      )

  pub length-in_order : (n : ℕ) (xs : List X) → IsNumbered number n xs → length (in_order number n xs) ≡ length xs
  length-in_order n [] h = ap length (in_order-none n)
  length-in_order n (x ∷ xs) h =
      omega (arith, length-in_order_cons n x xs, ap length (in_order-one n x (number_below_first n x xs h)), length-in_order n xs (IsNumbered-tail n x xs h))
