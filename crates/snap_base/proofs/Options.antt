-- Options and results: whether a value is there, and which.
use Rattle.std.proofs.Common.{◌≡◌, ℕ, zero, suc, ◌<◌, true, false, List, [], ◌∷◌, length, map, refl, sym, ap, ◌∙◌, arith, Option, Some, None, Result, Ok, Err, IsSome, OnErr, is_some, option_map}
use Rattle.std.specs.Prelude.{slice_get}
use Rattle.std.proofs.lemmas.Bool.{true≢false}

pub same_some : {X : Type 0} (x y : X) → Some x ≡ Some y → x ≡ y
same_some x y e = cc e

pub is_same_some : {X : Type 0} {x y : X} → Some x ≡ Some y → x ≡ y
is_same_some h = cc h

pub none_is_some : {P : Type 0} (p : P) → None ≡ Some p → ⊥
none_is_some p e = cc

pub is_no_none : {X : Type 0} (o : Option X) → o ≡ None → is_some o ≡ true → ⊥
is_no_none o e q = true≢false (sym q ∙ ap is_some e)

pub somebody : {X : Type 0} (o : Option X) → is_some o ≡ true → (x : X) × (o ≡ Some x)
somebody None h = absurd (cc h)
somebody (Some x) h = (x, refl)

pub some_value : {X : Type 0} (o : Option X) → IsSome o → (x : X) × (o ≡ Some x)
some_value None h = absurd (cc h)
some_value (Some x) h = (x, refl)

pub nobody_is : {X : Type 0} (o : Option X) → is_some o ≡ false → o ≡ None
nobody_is None h = refl
nobody_is (Some x) h = absurd (cc h)

-- ---- maps

pub is_some_map : {P Q : Type 0} (f : P → Q) (o : Option P) → is_some (option_map f o) ≡ is_some o
is_some_map f None = refl
is_some_map f (Some x) = refl

pub some_mapped : {X Y : Type 0} (f : X → Y) (o : Option X) (y : Y) → option_map f o ≡ Some y → (x : X) × (o ≡ Some x) × (f x ≡ y)
some_mapped f None y e = absurd (cc e)
some_mapped f (Some x) y e = (x, refl, cc e)

pub pair_mapped : {X Y : Type 0} (f : X → Y) (o : Option X) (y : Y) → option_map f o ≡ Some y → (x : X) × ((o ≡ Some x) × (f x ≡ y))
pair_mapped f None y same = absurd (cc same)
pair_mapped f (Some x) y same = (x, (refl, cc same))

pub none_mapped : {X Y : Type 0} (f : X → Y) (o : Option X) → option_map f o ≡ None → o ≡ None
none_mapped f None e = refl
none_mapped f (Some x) e = absurd (true≢false (ap is_some e))

-- ---- options in lists

pub some_there : {X : Type 0} (o : Option X) → (Some (is_some o) ≡ Some false → ⊥) → (x : X) × (o ≡ Some x)
some_there None h = absurd (h refl)
some_there (Some x) h = (x, refl)

pub there_at : {X : Type 0} (xs : List (Option X)) (i : ℕ) → i < length xs → (slice_get (map is_some xs) i ≡ Some false → ⊥) → (x : X) × (slice_get xs i ≡ Some (Some x))
there_at [] i h f = absurd (omega (arith, h))
there_at (None ∷ xs) zero h f = absurd (f refl)
there_at (Some x ∷ xs) zero h f = (x, refl)
there_at (o ∷ xs) (suc i) h f = there_at xs i (omega (arith, h)) f

-- ---- results

pub on_any_err : {T E : Type 0} (P : Type 0) (r : Result T E) → P → OnErr r P
on_any_err P (Ok x) p = tt
on_any_err P (Err e) p = p
