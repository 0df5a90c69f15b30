-- Live ACTs, counted from the end.
use Rattle.std.proofs.Common.{Some, ◌≡◌, ℕ, zero, suc, ◌+◌, ◌-◌, ◌<◌, ◌≤◌, Bool, true, false, cond, List, [], ◌∷◌, ◌++◌, length, map, take, drop, refl, ap, sym, ◌∙◌, arith}
use Rattle.std.specs.Prelude.{◌&&◌, filter, slice_index_or}
use Rattle.std.specs.List.{AllByRecursion}
use Rattle.std.proofs.lemmas.Bool.{cond-true, cond-false}
use Rattle.std.proofs.lemmas.List.{take-append-drop, drop_more}
use Rattle.protocol.specs.Words.{count, act_of, holds, is_doomed, is_live_act}
use Rattle.protocol.specs.Cutting.{Ascends}
use Rattle.protocol.specs.Parts.{Act}
use Rattle.order_book.proofs.Finding.{each_found}
use Rattle.order_book.specs.Kept.{Kept, seen, is_leaving, is_leaving_kept, is_live_kept, tid_kept}
use Rattle.protocol.specs.Numbers.{one_if}
use Rattle.order_book.specs.Registered.{tids_of_acts}

length_if : {X : Type 0} (b : Bool) (x : X) (xs : List X) → length (cond b (x ∷ xs) xs) ≡ one_if b + length xs
length_if true x xs = omega arith
length_if false x xs = omega arith

module _ {X : Type 0} (test : X → Bool) where
  count_head : (x : X) (xs : List X) → count test (x ∷ xs) ≡ one_if (test x) + count test xs
  count_head x xs = length_if (test x) x (filter test xs)

  count_append : (xs ys : List X) → count test (xs ++ ys) ≡ count test xs + count test ys
  count_append [] ys = omega arith
  count_append (x ∷ xs) ys = omega (arith, count_head x xs, count_head x (xs ++ ys), count_append xs ys)

  -- one more, from the end
  pub count_before : (xs : List X) (i : ℕ) (d : X) → i < length xs → count test (drop i xs) ≡ one_if (test (slice_index_or xs i d)) + count test (drop (i + 1) xs)
  count_before xs i d l = ap (count test) (drop_more xs i d l) ∙ count_head (slice_index_or xs i d) (drop (i + 1) xs)

  none_counted : (xs : List X) → length xs ≤ 0 → xs ≡ []
  none_counted [] h = refl
  none_counted (x ∷ xs) h = absurd (omega arith)

  -- where those from a place on are all there are, none stands before it
  pub none_before : (i : ℕ) (xs : List X) (found all : ℕ) → all ≡ count test xs → found ≡ count test (drop i xs) → all ≤ found → filter test (take i xs) ≡ []
  none_before i xs found all a f l =
      none_counted (filter test (take i xs)) (omega (arith, a, f, l, count_append (take i xs) (drop i xs), ap (count test) (take-append-drop i xs)))

  -- where some are not counted yet, some are left
  pub some_left : (i : ℕ) (xs : List X) (found all : ℕ) → all ≡ count test xs → found ≡ count test (drop i xs) → found < all → 1 ≤ i
  some_left zero xs found all a f l = absurd (omega (arith, a, f, l))
  some_left (suc i) xs found all a f l = omega arith

  -- so many are counted with the one before, no more than there are
  pub counted_before : (i : ℕ) (xs : List X) (d : X) → 1 ≤ i → i ≤ length xs → count test (drop i xs) + one_if (test (slice_index_or xs (i - 1) d)) ≤ count test xs
  counted_before i xs d some within =
      let j = i - 1 in
      let next : j + 1 ≡ i = omega (arith, some) in
      omega (
        arith,
        count_before xs j d (omega (arith, some, within)),
        ap (λ k. count test (drop k xs)) next,
        count_append (take j xs) (drop j xs),
        ap (count test) (take-append-drop j xs),
      )

-- ---- what is kept of ACTs

by_test : (b : Bool) (x : Kept) (epoch : ℕ) (xs : List Kept) (ys : List Kept) → map (seen epoch) ys ≡ map (seen epoch) xs → cond b (seen epoch x ∷ map (seen epoch) ys) (map (seen epoch) ys) ≡ map (seen epoch) (cond b (x ∷ xs) xs)
by_test true x epoch xs ys e = ap (λ l. seen epoch x ∷ l) e
by_test false x epoch xs ys e = e

live_seen : (epoch : ℕ) (xs : List Kept) → filter is_live_act (map (seen epoch) xs) ≡ map (seen epoch) (filter is_live_kept xs)
live_seen epoch [] = refl
live_seen epoch (x ∷ xs) =
    ap (λ l. cond (is_live_kept x) (seen epoch x ∷ l) l) (live_seen epoch xs)
    ∙ by_test (is_live_kept x) x epoch (filter is_live_kept xs) (filter is_live_kept xs) refl

tids_seen : (epoch : ℕ) (xs : List Kept) → tids_of_acts (map (seen epoch) xs) ≡ map tid_kept xs
tids_seen epoch [] = refl
tids_seen epoch (x ∷ xs) = ap (λ l. x.act.tid ∷ l) (tids_seen epoch xs)

same_length : (epoch : ℕ) (xs : List Kept) → length (map (seen epoch) xs) ≡ length xs
same_length epoch [] = refl
same_length epoch (x ∷ xs) = ap suc (same_length epoch xs)

pub live_count_seen : (epoch : ℕ) (xs : List Kept) → count is_live_act (map (seen epoch) xs) ≡ count is_live_kept xs
live_count_seen epoch xs = ap length (live_seen epoch xs) ∙ same_length epoch (filter is_live_kept xs)

pub live_tids_seen : (epoch : ℕ) (xs : List Kept) → tids_of_acts (filter is_live_act (map (seen epoch) xs)) ≡ map tid_kept (filter is_live_kept xs)
live_tids_seen epoch xs = ap tids_of_acts (live_seen epoch xs) ∙ tids_seen epoch (filter is_live_kept xs)

-- ---- those of the live ones that are given up

module _ {X : Type 0} (p q : X → Bool) where
  by_tests : (b c : Bool) (x : X) (xs ys : List X) → q x ≡ c → xs ≡ filter q ys → cond (c && b) (x ∷ xs) xs ≡ filter q (cond b (x ∷ ys) ys)
  by_tests true true x xs ys k e = ap (λ l. x ∷ l) e ∙ sym (cond-true (q x) (x ∷ filter q ys) (filter q ys) k)
  by_tests true false x xs ys k e = e ∙ sym (cond-false (q x) (x ∷ filter q ys) (filter q ys) k)
  by_tests false true x xs ys k e = e
  by_tests false false x xs ys k e = e

  filter_both : (xs : List X) → filter (λ x. q x && p x) xs ≡ filter q (filter p xs)
  filter_both [] = refl
  filter_both (x ∷ xs) = by_tests (p x) (q x) x (filter (λ x. q x && p x) xs) (filter p xs) refl (filter_both xs)

doomed_kept : Kept → Bool
doomed_kept x = is_doomed x.act.status

pub none_leaving : (xs : List Kept) → filter is_live_kept xs ≡ [] → filter is_leaving_kept xs ≡ []
unfolding doomed_kept
none_leaving xs none = filter_both is_live_kept doomed_kept xs ∙ ap (filter doomed_kept) none

leaving_seen : (epoch : ℕ) (xs : List Kept) → filter is_leaving (map (seen epoch) xs) ≡ map (seen epoch) (filter is_leaving_kept xs)
leaving_seen epoch [] = refl
leaving_seen epoch (x ∷ xs) =
    ap (λ l. cond (is_leaving_kept x) (seen epoch x ∷ l) l) (leaving_seen epoch xs)
    ∙ by_test (is_leaving_kept x) x epoch (filter is_leaving_kept xs) (filter is_leaving_kept xs) refl

pub leaving_tids_seen : (epoch : ℕ) (xs : List Kept) → tids_of_acts (filter is_leaving (map (seen epoch) xs)) ≡ map tid_kept (filter is_leaving_kept xs)
leaving_tids_seen epoch xs = ap tids_of_acts (leaving_seen epoch xs) ∙ tids_seen epoch (filter is_leaving_kept xs)

by_doom : (f : ℕ → Bool) (d b : Bool) (x : Act) (ys zs : List Act) → f x.tid ≡ d → tids_of_acts ys ≡ filter f (tids_of_acts zs) → tids_of_acts (cond (d && b) (x ∷ ys) ys) ≡ filter f (tids_of_acts (cond b (x ∷ zs) zs))
by_doom f true true x ys zs k e = ap (λ l. x.tid ∷ l) e ∙ sym (cond-true (f x.tid) (x.tid ∷ filter f (tids_of_acts zs)) (filter f (tids_of_acts zs)) k)
by_doom f false true x ys zs k e = e ∙ sym (cond-false (f x.tid) (x.tid ∷ filter f (tids_of_acts zs)) (filter f (tids_of_acts zs)) k)
by_doom f true false x ys zs k e = e
by_doom f false false x ys zs k e = e

among : (acts xs : List Act) → AllByRecursion (λ x. act_of x.tid acts ≡ Some x) xs → tids_of_acts (filter is_leaving xs) ≡ filter (λ t. holds (λ x. is_doomed x.status) (act_of t acts)) (tids_of_acts (filter is_live_act xs))
among acts [] found = refl
among acts (x ∷ xs) found =
    by_doom (λ t. holds (λ y. is_doomed y.status) (act_of t acts)) (is_doomed x.status) (is_live_act x) x (filter is_leaving xs) (filter is_live_act xs)
    (ap (holds (λ y. is_doomed y.status)) found.0) (among acts xs found.1)

-- with rising tids each is found by its own
pub given_up_among : (acts : List Act) → Ascends (tids_of_acts acts) → tids_of_acts (filter is_leaving acts) ≡ filter (λ t. holds (λ x. is_doomed x.status) (act_of t acts)) (tids_of_acts (filter is_live_act acts))
given_up_among acts up = among acts acts (each_found acts up)
