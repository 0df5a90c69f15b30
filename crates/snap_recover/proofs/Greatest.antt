-- The greatest of the numbers that occur.
use Rattle.std.proofs.Common.{◌≡◌, ℕ, ◌<◌, ◌≤◌, max, List, [], ◌∷◌, ◌++◌, ap, ◌∙◌, arith}
use Rattle.std.specs.List.{AllByRecursion, flat_map}
use Rattle.std.proofs.lemmas.List.Concat.{flat_map-append}
use Rattle.txn_records.specs.declared.records.Record.{Record}
use Rattle.snap_recover.specs.Opening.{greatest}

pub greatest_append : (xs ys : List ℕ) → greatest (xs ++ ys) ≡ max (greatest xs) (greatest ys)
greatest_append [] ys = omega arith
greatest_append (x ∷ xs) ys = omega (arith, greatest_append xs ys)

pub all_below : (xs : List ℕ) (n : ℕ) → greatest xs < n → AllByRecursion (λ x. x < n) xs
all_below [] n h = tt
all_below (x ∷ xs) n h = (omega (arith, h), all_below xs n (omega (arith, h)))

-- each number of each record
pub each_below : (numbers : Record → List ℕ) (rs : List Record) (n : ℕ) → greatest (flat_map numbers rs) < n → AllByRecursion (λ r. AllByRecursion (λ x. x < n) (numbers r)) rs
each_below numbers [] n h = tt
each_below numbers (r ∷ rs) n h =
    let e = greatest_append (numbers r) (flat_map numbers rs) in
    (all_below (numbers r) n (omega (arith, e, h)), each_below numbers rs n (omega (arith, e, h)))

pub greatest_of : (numbers : Record → List ℕ) (rs more : List Record) → greatest (flat_map numbers (rs ++ more)) ≡ max (greatest (flat_map numbers rs)) (greatest (flat_map numbers more))
greatest_of numbers rs more = ap greatest (flat_map-append numbers rs more) ∙ greatest_append (flat_map numbers rs) (flat_map numbers more)

-- no number that occurs is above m, so the greatest is not
pub greatest_within : (xs : List ℕ) (m : ℕ) → AllByRecursion (λ x. x ≤ m) xs → greatest xs ≤ m
greatest_within [] m h = omega arith
greatest_within (x ∷ xs) m h = omega (arith, h.0, greatest_within xs m h.1)

pub numbers_within : (numbers : Record → List ℕ) (rs : List Record) (m : ℕ) → AllByRecursion (λ r. AllByRecursion (λ x. x ≤ m) (numbers r)) rs → greatest (flat_map numbers rs) ≤ m
numbers_within numbers [] m h = omega arith
numbers_within numbers (r ∷ rs) m h = omega (arith, greatest_append (numbers r) (flat_map numbers rs), greatest_within (numbers r) m h.0, numbers_within numbers rs m h.1)
