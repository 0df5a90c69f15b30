-- First places, as keys are added, and what they tell of the keys in front.
use Rattle.std.proofs.Common.{◌≡◌, ℕ, zero, suc, ◌+◌, ◌≤◌, Bool, true, false, cond, ltb, Option, Some, None, List, [], ◌∷◌, ◌++◌, length, take, refl, sym, ap, ◌∙◌, arith}
use Rattle.std.proofs.lemmas.Bool.{cond_both, cond-true, cond-false, le-ltb, lt-ltb}
use Rattle.std.specs.Prelude.{◌||◌}
use Rattle.std.specs.List.{list_any, position_from}
use Rattle.std.specs.Option.{option_or}
use Rattle.txn_records.specs.declared.keys.Key.{Key}
use Rattle.log_set.specs.Keys.{is_key}
use Rattle.log_set.specs.Firsts.{first_place, ArePlaces}
use Rattle.log_set.specs.Logs.{LogList, is_key_durable}

-- ---- one more key

position_more : {X : Type 0} (test : X → Bool) (n : ℕ) (xs : List X) (y : X) → position_from test n (xs ++ y ∷ []) ≡ option_or (position_from test n xs) (cond (test y) (Some (n + length xs)) None)
position_more test n [] y = ap (λ i. cond (test y) (Some i) None) (omega arith)
position_more test n (x ∷ xs) y =
    cond_both (test x) (Some n) (position_from test (n + 1) xs) (λ o. cond (test x) (Some n) (position_from test (n + 1) (xs ++ y ∷ [])) ≡ option_or o (cond (test y) (Some (n + length (x ∷ xs))) None))
    (λ e. cond-true (test x) (Some n) (position_from test (n + 1) (xs ++ y ∷ [])) e)
    (λ e. cond-false (test x) (Some n) (position_from test (n + 1) (xs ++ y ∷ [])) e ∙ (position_more test (n + 1) xs y ∙ ap (λ i. option_or (position_from test (n + 1) xs) (cond (test y) (Some i) None)) (omega arith)))

pub places_more : (f g : Key → Option ℕ) (keys : List Key) (key : Key) (place : ℕ) → ArePlaces f keys → place ≡ length keys
    → ((k : Key) → g k ≡ option_or (f k) (cond (is_key key k) (Some place) None)) → ArePlaces g (keys ++ key ∷ [])
places_more f g keys key place h end put k =
    put k ∙ (ap (λ o. option_or o (cond (is_key key k) (Some place) None)) (h k) ∙ (ap (λ i. option_or (first_place k keys) (cond (is_key key k) (Some i) None)) (omega (arith, end)) ∙ sym (position_more (λ x. is_key x k) 0 keys key)))

-- ---- whether it stands in front

abbrev pub is_below : ℕ → Option ℕ → Bool
is_below n None = false
is_below n (Some i) = ltb i n

none_below : {X : Type 0} (test : X → Bool) (low n : ℕ) (xs : List X) → low ≤ n → is_below low (position_from test n xs) ≡ false
none_below test low n [] h = refl
none_below test low n (x ∷ xs) h =
    cond_both (test x) (Some n) (position_from test (n + 1) xs) (λ o. is_below low o ≡ false) (λ e. le-ltb n low h) (λ e. none_below test low (n + 1) xs (omega (arith, h)))

below_in_front : {X : Type 0} (test : X → Bool) (n k : ℕ) (xs : List X) → is_below (n + k) (position_from test n xs) ≡ list_any test (take k xs)
below_in_front test n zero [] = refl
below_in_front test n (suc k) [] = refl
below_in_front test n zero (x ∷ xs) = none_below test (n + 0) n (x ∷ xs) (omega arith)
below_in_front test n (suc k) (x ∷ xs) =
    let more : n + suc k ≡ (n + 1) + k = omega arith in
    either (test x) (position_from test (n + 1) xs) (list_any test (take k xs)) (ap (λ m. is_below m (position_from test (n + 1) xs)) more ∙ below_in_front test (n + 1) k xs)
  where
    either : (b : Bool) (p : Option ℕ) (r : Bool) → is_below (n + suc k) p ≡ r → is_below (n + suc k) (cond b (Some n) p) ≡ (b || r)
    either true p r h = lt-ltb n (n + suc k) (omega arith)
    either false p r h = h

pub durable_by_place : (key : Key) (l : LogList) → is_below l.synced (first_place key l.keys) ≡ is_key_durable key l
durable_by_place key l =
    let same : l.synced ≡ 0 + l.synced = omega arith in
    ap (λ m. is_below m (first_place key l.keys)) same ∙ below_in_front (λ k. is_key k key) 0 l.synced l.keys
