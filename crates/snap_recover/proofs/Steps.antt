-- One element more in a loop over a list.
use Rattle.std.proofs.Common.{◌≡◌, ℕ, ◌+◌, ◌<◌, ◌≤◌, Bool, true, Option, Some, None, MatchOption, List, [], ◌∷◌, ◌++◌, length, map, take, drop, get_or, max, sym, ap, subst, ◌∙◌, arith}
use Rattle.std.specs.Option.{is_some}
use Rattle.std.specs.Ordering.{ord_max, nat_cmp}
use Rattle.std.proofs.lemmas.Bool.Decides.{nat_tests}
use Rattle.std.proofs.lemmas.List.{take_more, take_all, take-append-drop, drop_more, map-append}
use Rattle.std.proofs.lemmas.List.Elements.{filter-append}
use Rattle.std.proofs.lemmas.List.Concat.{flat_map-append}
use Rattle.std.specs.List.{AllByRecursion, filter, flat_map}
pub use Rattle.snap_base.proofs.Lists.{all_step}
use Rattle.snap_base.proofs.Lists.{flat_step}
use Rattle.txn_records.specs.declared.records.Record.{Record}
use Rattle.snap_recover.specs.Logs.{all_of, is_genesis, geneses}
use Rattle.snap_recover.specs.Opening.{greatest}
use Rattle.snap_recover.proofs.Greatest.{greatest_append}

pub taken : {X : Type 0} (xs : List X) (i : ℕ) (x : X) → i < length xs → x ≡ get_or xs i x → take (i + 1) xs ≡ take i xs ++ x ∷ []
taken xs i x l e = take_more xs i x l ∙ ap (λ (z : _). take i xs ++ z ∷ []) (sym e)

pub split_at : {X : Type 0} (xs : List X) (i : ℕ) (x : X) → i < length xs → x ≡ get_or xs i x → xs ≡ take i xs ++ x ∷ drop (i + 1) xs
split_at xs i x l e = sym (take-append-drop i xs) ∙ ap (λ (z : List _). take i xs ++ z) (drop_more xs i x l ∙ ap (λ (z : _). z ∷ drop (i + 1) xs) (sym e))

-- ---- what holds of all

pub all_end : {X : Type 0} (P : X → Type 0) (xs : List X) (i : ℕ) → length xs ≤ i → AllByRecursion P (take i xs) → AllByRecursion P xs
all_end P xs i l h = subst (AllByRecursion P) (take_all i xs l) h

pub mapped : {X Y : Type 0} (f : X → Y) (P : Y → Type 0) (xs : List X) → AllByRecursion P (map f xs) → AllByRecursion (λ x. P (f x)) xs
mapped f P [] h = tt
mapped f P (x ∷ xs) h = (h.0, mapped f P xs h.1)

-- ---- filters, joined lists and their greatest

pub filter_step : {X : Type 0} (p : X → Bool) (xs : List X) (i : ℕ) (x : X) → i < length xs → x ≡ get_or xs i x → filter p (take (i + 1) xs) ≡ filter p (take i xs) ++ filter p (x ∷ [])
filter_step p xs i x l e = ap (filter p) (taken xs i x l e) ∙ filter-append p (take i xs) (x ∷ [])

pub logs_step : (logs : List (List Record)) (i : ℕ) (rs : List Record) → i < length logs → rs ≡ get_or logs i rs → all_of (take (i + 1) logs) ≡ all_of (take i logs) ++ rs
logs_step logs i rs l e = flat_step (λ (z : List Record). z) logs i rs l e

pub geneses_step : (logs : List (List Record)) (i : ℕ) (rs : List Record) → i < length logs → rs ≡ get_or logs i rs → geneses (take (i + 1) logs) ≡ geneses (take i logs) ++ filter is_genesis rs
geneses_step logs i rs l e = ap (filter is_genesis) (logs_step logs i rs l e) ∙ filter-append is_genesis (all_of (take i logs)) rs

pub logs_split : (logs : List (List Record)) (i : ℕ) (rs : List Record) → i < length logs → rs ≡ get_or logs i rs → all_of logs ≡ all_of (take i logs) ++ (rs ++ all_of (drop (i + 1) logs))
logs_split logs i rs l e = ap all_of (split_at logs i rs l e) ∙ flat_map-append (λ (z : List Record). z) (take i logs) (rs ∷ drop (i + 1) logs)

pub greatest_step : {X : Type 0} (f : X → List ℕ) (xs : List X) (i : ℕ) (x : X) → i < length xs → x ≡ get_or xs i x → greatest (flat_map f (take (i + 1) xs)) ≡ max (greatest (flat_map f (take i xs))) (greatest (f x))
greatest_step f xs i x l e = ap greatest (flat_step f xs i x l e) ∙ greatest_append (flat_map f (take i xs)) (f x)

pub greatest_logs_step : (f : Record → List ℕ) (logs : List (List Record)) (i : ℕ) (rs : List Record) → i < length logs → rs ≡ get_or logs i rs
    → greatest (flat_map f (all_of (take (i + 1) logs))) ≡ max (greatest (flat_map f (all_of (take i logs)))) (greatest (flat_map f rs))
greatest_logs_step f logs i rs l e =
    ap (λ (z : List Record). greatest (flat_map f z)) (logs_step logs i rs l e) ∙ ap greatest (flat_map-append f (all_of (take i logs)) rs) ∙ greatest_append (flat_map f (all_of (take i logs))) (flat_map f rs)

pub greatest_map_step : {X : Type 0} (f : X → ℕ) (xs : List X) (i : ℕ) (d : X) → i < length xs → greatest (map f (take (i + 1) xs)) ≡ max (greatest (map f (take i xs))) (f (get_or xs i d))
greatest_map_step f xs i d l =
    let e : greatest (map f (take (i + 1) xs)) ≡ max (greatest (map f (take i xs))) (max (f (get_or xs i d)) 0) =
    ap (λ (z : List _). greatest (map f z)) (take_more xs i d l) ∙ ap greatest (map-append f (take i xs) (get_or xs i d ∷ [])) ∙ greatest_append (map f (take i xs)) (f (get_or xs i d) ∷ []) in
    omega (arith, e)

pub same_at : {X : Type 0} (xs : List X) (i : ℕ) (x y : X) → y ≡ x → x ≡ get_or xs i x → y ≡ get_or xs i y
same_at xs i x y e at = subst (λ (z : _). z ≡ get_or xs i z) (sym e) at

-- what is found in one log is found in all
pub found_in_all : {X : Type 0} (o : Option X) (N M : Type 0) (P Q : X → Type 0) → true ≡ is_some o → ((x : X) → P x → Q x) → MatchOption o N P → MatchOption o M Q
found_in_all (Some x) N M P Q e f h = f x h
found_in_all None N M P Q e f h = absurd (cc)

pub geneses_split : (logs : List (List Record)) (i : ℕ) (rs : List Record) → i < length logs → rs ≡ get_or logs i rs → geneses (take i logs) ≡ []
    → geneses logs ≡ filter is_genesis rs ++ geneses (drop (i + 1) logs)
geneses_split logs i rs l e none =
    ap (filter is_genesis) (logs_split logs i rs l e) ∙ filter-append is_genesis (all_of (take i logs)) (rs ++ all_of (drop (i + 1) logs))
    ∙ ap (λ (z : List Record). z ++ filter is_genesis (rs ++ all_of (drop (i + 1) logs))) none ∙ filter-append is_genesis rs (all_of (drop (i + 1) logs))

pub greater_is : (a b : ℕ) → ord_max nat_cmp a b ≡ max a b
greater_is a b = grind (arith, nat_tests)
