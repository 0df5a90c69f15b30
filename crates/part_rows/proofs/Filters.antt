-- A filter makes no list longer.
use Rattle.std.proofs.Common.{ℕ, ◌≤◌, Bool, not, List, length, filter, refl, arith}
use Rattle.std.proofs.lemmas.List.Filters.{length-filter_both}

pub filter_few : {X : Type 0} (p : X → Bool) (xs : List X) (n : ℕ) → length xs ≤ n → length (filter p xs) ≤ n
filter_few p xs n few = let both = length-filter_both p (λ x. not (p x)) (λ x. refl) xs in omega arith
