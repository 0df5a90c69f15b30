-- What holds of each element of a list holds of each of what is made of the list.
use Rattle.std.specs.Prelude.{Bool, true, false, if◌then◌else◌, Option, Some, None, List, [], ◌∷◌, find}
use Rattle.std.specs.List.{AllByRecursion}
pub use Rattle.snap_base.proofs.Lists.{all_join, all_set}

-- what is there has it
abbrev pub If : {X : Type 0} → (X → Type 0) → Option X → Type 0
If P None = Unit {0}
If P (Some x) = P x

pub all_found : {X : Type 0} (P : X → Type 0) (p : X → Bool) (xs : List X) → AllByRecursion P xs → If P (find p xs)
all_found P p [] h = tt
all_found P p (x ∷ xs) h = by (p x) (all_found P p xs h.1)
  where
    by : (b : Bool) → If P (find p xs) → If P (if b then Some x else find p xs)
    by true k = h.0
    by false k = k
