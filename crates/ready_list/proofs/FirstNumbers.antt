-- The events of one kind with one first number.
use Rattle.std.specs.Prelude.{◌≡◌, refl, ℕ, zero, suc, ◌+◌, ◌-◌, ◌<◌, ◌≤◌, ◌==◌, nat_lt, ◌&&◌, Bool, true, false, List, [], ◌∷◌, ◌++◌, drop, filter, length, map, slice_index_or, take}
use Rattle.std.specs.List.Sorted.{IsNonDecreasingBy, IsPartitionPoint}
use Rattle.std.proofs.Common.{arith, sym, ap, subst, inl, inr, ◌∙◌}
use Rattle.std.proofs.lemmas.Bool.{and_parts, cases_lt, eq-eqb, eqb-true, ltb-true, ne_eqb, or_cases}
use Rattle.std.proofs.lemmas.List.{get_or_append_left, get_or-append-add, length-append}
use Rattle.core_events.specs.Meant.{event_meant}
use Rattle.core_events.specs.declared.events.Event as code
use Rattle.core_events.specs.declared.events.Event.TheVariants as code_events
use Rattle.protocol.specs.Events.{Event}
use Rattle.protocol.specs.Schedule.{AscendByRank}
use Rattle.ready_list.specs.Order.{at, first_of, is_before, kind_of, numbers}
use Rattle.ready_list.specs.Rings.{AreOfKind}
use Rattle.ready_list.proofs.Gaps.{ascends_at, by_numbers, kind_at, mapped_at, mapped_length}

-- ---- first numbers do not fall

not_higher : (f e : Event) → kind_of f ≡ kind_of e → is_before f e ≡ true → first_of f ≤ first_of e
not_higher f e k h = elim (or_cases (nat_lt (first_of f) (first_of e)) ((first_of f == first_of e) && nat_lt (numbers f).second (numbers e).second) (sym (by_numbers f e k) ∙ h)) [
  | inl a ↦ omega (arith, ltb-true (first_of f) (first_of e) a)
  | inr b ↦ omega (arith, eqb-true (first_of f) (first_of e) (and_parts (first_of f == first_of e) (nat_lt (numbers f).second (numbers e).second) b).0)
]

firsts_rise : (k : ℕ) (es : List Event) (i j : ℕ) → AreOfKind k es → AscendByRank es → i ≤ j → j < length es → first_of (at es i) ≤ first_of (at es j)
firsts_rise k es i j a o h l = elim (cases_lt i j) [
  | inl x ↦ not_higher (at es i) (at es j) (kind_at k es i a (omega (arith, h, l)) ∙ sym (kind_at k es j a l)) (ascends_at es i j o x l)
  | inr y ↦ let q : i ≡ j = omega (arith, h, y) in subst (λ n. first_of (at es i) ≤ first_of (at es n)) q (omega arith)
]

pub no_fall : (k : ℕ) (items : List code.Event) (es : List Event) → map event_meant items ≡ es → AreOfKind k es → AscendByRank es → IsNonDecreasingBy (λ f. first_of (event_meant f)) items
no_fall k items es v a o i j d h l =
    let n : length es ≡ length items = sym (ap length v) ∙ mapped_length event_meant items in
    let at_i : at es i ≡ event_meant (slice_index_or items i d) = subst (λ l. at l i ≡ event_meant (slice_index_or items i d)) v (mapped_at event_meant items i d (omega (arith, h, l))) in
    let at_j : at es j ≡ event_meant (slice_index_or items j d) = subst (λ l. at l j ≡ event_meant (slice_index_or items j d)) v (mapped_at event_meant items j d l) in
    omega (arith, ap first_of at_i, ap first_of at_j, firsts_rise k es i j a o h (omega (arith, l, n)))

pub no_fall_ahead : (xs ys : List code.Event) → IsNonDecreasingBy (λ f. first_of (event_meant f)) (xs ++ ys) → IsNonDecreasingBy (λ f. first_of (event_meant f)) xs
no_fall_ahead xs ys up i j d h l =
    omega (
      arith,
      up i j d h (omega (arith, l, length-append xs ys)),
      ap (λ f. first_of (event_meant f)) (get_or_append_left xs ys d i (omega (arith, h, l))),
      ap (λ f. first_of (event_meant f)) (get_or_append_left xs ys d j l),
    )

pub no_fall_behind : (xs ys : List code.Event) → IsNonDecreasingBy (λ f. first_of (event_meant f)) (xs ++ ys) → IsNonDecreasingBy (λ f. first_of (event_meant f)) ys
no_fall_behind xs ys up i j d h l =
    omega (
      arith,
      up (length xs + i) (length xs + j) d (omega (arith, h)) (omega (arith, l, length-append xs ys)),
      ap (λ f. first_of (event_meant f)) (get_or-append-add xs ys i d),
      ap (λ f. first_of (event_meant f)) (get_or-append-add xs ys j d),
    )

-- ---- those between two places

between : (xs : List code.Event) (t start count : ℕ) → start + count ≤ length xs
    → ((k : ℕ) (d : code.Event) → k < start → first_of (event_meant (slice_index_or xs k d)) < t)
    → ((k : ℕ) (d : code.Event) → start ≤ k → k < start + count → first_of (event_meant (slice_index_or xs k d)) ≡ t)
    → ((k : ℕ) (d : code.Event) → start + count ≤ k → k < length xs → t < first_of (event_meant (slice_index_or xs k d)))
    → map event_meant (take count (drop start xs)) ≡ filter (λ f. first_of f == t) (map event_meant xs)
between [] t zero zero l below here above = refl
between [] t zero (suc count) l below here above = absurd (omega (arith, l))
between [] t (suc start) count l below here above = absurd (omega (arith, l))
between (x ∷ xs) t zero zero l below here above =
    let e : (first_of (event_meant x) == t) ≡ false = ne_eqb (first_of (event_meant x)) t (λ q. absurd (omega (arith, q, above 0 x (omega arith) (omega arith)))) in
    rw e (between xs t zero zero (omega arith) (λ k d a. absurd (omega (arith, a))) (λ k d a b. absurd (omega (arith, b))) (λ k d a b. above (suc k) d (omega arith) (omega (arith, b))))
between (x ∷ xs) t zero (suc count) l below here above =
    let e : (first_of (event_meant x) == t) ≡ true = eq-eqb (first_of (event_meant x)) t (here 0 x (omega arith) (omega arith)) in
    let more : map event_meant (take count (drop zero xs)) ≡ filter (λ f. first_of f == t) (map event_meant xs) =
    between xs t zero count (omega (arith, l)) (λ k d a. absurd (omega (arith, a))) (λ k d a b. here (suc k) d (omega arith) (omega (arith, b))) (λ k d a b. above (suc k) d (omega (arith, a)) (omega (arith, b))) in
    rw e (ap (λ es. event_meant x ∷ es) more)
between (x ∷ xs) t (suc start) count l below here above =
    let e : (first_of (event_meant x) == t) ≡ false = ne_eqb (first_of (event_meant x)) t (λ q. absurd (omega (arith, q, below 0 x (omega arith)))) in
    rw e (between xs t start count (omega (arith, l)) (λ k d a. below (suc k) d (omega (arith, a))) (λ k d a b. here (suc k) d (omega (arith, a)) (omega (arith, b))) (λ k d a b. above (suc k) d (omega (arith, a)) (omega (arith, b))))

-- what is lower lies ahead of what is not higher
pub in_order : (xs : List code.Event) (t start end : ℕ) → start ≤ length xs
    → IsPartitionPoint (λ f. first_of (event_meant f) < t) (λ f. t ≤ first_of (event_meant f)) xs start
    → IsPartitionPoint (λ f. first_of (event_meant f) ≤ t) (λ f. t < first_of (event_meant f)) xs end → start ≤ end
in_order xs t start end l lower upper = elim (cases_lt end start) [
  | inl x ↦ absurd (omega (arith, lower.0 end (code_events.Pass 0) (omega arith) x, upper.1 end (code_events.Pass 0) (omega arith) (omega (arith, x, l))))
  | inr y ↦ y
]

pub found_between : (xs : List code.Event) (t start end : ℕ) → start ≤ end → end ≤ length xs
    → IsPartitionPoint (λ f. first_of (event_meant f) < t) (λ f. t ≤ first_of (event_meant f)) xs start
    → IsPartitionPoint (λ f. first_of (event_meant f) ≤ t) (λ f. t < first_of (event_meant f)) xs end
    → map event_meant (take (end - start) (drop start xs)) ≡ filter (λ f. first_of f == t) (map event_meant xs)
found_between xs t start end h l lower upper =
    between xs t start (end - start) (omega (arith, h, l))
    (λ k d a. lower.0 k d (omega arith) a)
    (λ k d a b. omega (arith, lower.1 k d a (omega (arith, h, b, l)), upper.0 k d (omega arith) (omega (arith, h, b))))
    (λ k d a b. upper.1 k d (omega (arith, h, a)) b)

-- ---- of two tests

pub both_tests : (p q : Event → Bool) (es : List Event) → filter q (filter p es) ≡ filter (λ f. p f && q f) es
both_tests p q [] = refl
both_tests p q (e ∷ es) = by (p e) refl (q e) refl (both_tests p q es)
  where
    by : (b : Bool) → p e ≡ b → (c : Bool) → q e ≡ c → filter q (filter p es) ≡ filter (λ f. p f && q f) es → filter q (filter p (e ∷ es)) ≡ filter (λ f. p f && q f) (e ∷ es)
    by true h true g more = rw (h, g, more) refl
    by true h false g more = rw (h, g, more) refl
    by false h c g more = rw (h, more) refl

-- ---- none of them has the number

-- the first that is not lower is higher
pub none_found : (xs : List code.Event) (t start : ℕ) → IsNonDecreasingBy (λ f. first_of (event_meant f)) xs → start ≤ length xs
    → IsPartitionPoint (λ f. first_of (event_meant f) < t) (λ f. t ≤ first_of (event_meant f)) xs start
    → ((d : code.Event) → start < length xs → first_of (event_meant (slice_index_or xs start d)) ≡ t → ⊥) → [] ≡ filter (λ f. first_of f == t) (map event_meant xs)
none_found xs t start up l lower other =
    between xs t start 0 (omega (arith, l))
    (λ k d a. lower.0 k d (omega (arith, a)) a)
    (λ k d a b. absurd (omega (arith, a, b)))
    (λ k d a b. higher k d (omega (arith, a)) b)
  where
    higher : (k : ℕ) (d : code.Event) → start ≤ k → k < length xs → t < first_of (event_meant (slice_index_or xs k d))
    higher k d a b = elim (cases_lt t (first_of (event_meant (slice_index_or xs start d)))) [
      | inl x ↦ omega (arith, x, up start k d a b)
      | inr y ↦ absurd (other d (omega (arith, a, b)) (omega (arith, y, lower.1 start d (omega arith) (omega (arith, a, b)))))
    ]
