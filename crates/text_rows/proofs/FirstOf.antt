-- What holds of every element holds of the first.
use Rattle.std.proofs.Common.{◌≡◌, ◌≤◌, List, [], ◌∷◌, length, get_or, sym, subst, arith}
use Rattle.std.specs.List.{AllByRecursion}

pub first_of : {A : Type 0} (P : A → Type 0) (xs : List A) (x : A) → 1 ≤ length xs → x ≡ get_or xs 0 x → AllByRecursion P xs → P x
first_of P [] x some is all = absurd (omega arith)
first_of P (y ∷ ys) x some is all = subst P (sym is) all.0
