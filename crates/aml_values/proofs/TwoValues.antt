-- An operator with two operands that do not fail.
use Rattle.std.proofs.Common.{◌≡◌, ℕ, ℤ, pos, Bool, true, false, if◌then◌else◌, ◌||◌, Some, None, Result, Ok, List, refl, sym, ap, ◌∙◌}
use Rattle.snap_base.specs.declared.transactions.State.{State}
use Rattle.aml_tree.specs.declared.trees.Operator.{Operator}
use Rattle.aml_tree.specs.declared.trees.Operator.TheVariants as operator
use Rattle.aml_tree.specs.Tree.{Expr, Binary}
use Rattle.aml_check.specs.Meaning.{◌>>=◌, decided, unless_decided, joined, truth, is_nonzero, value_of}

or_by : (b c : Bool) → (let r : Result ℤ ℕ = Ok (truth (b || c)) in unless_decided (if b then Some (pos 1) else None) r ≡ r)
or_by true c = refl
or_by false c = refl

and_by : (b c : Bool) → (let r : Result ℤ ℕ = Ok (truth (if b then c else false)) in unless_decided (if b then None else Some (pos 0)) r ≡ r)
and_by true c = refl
and_by false c = refl

-- what the left side decides alone is what the operator makes of both
pub decided_joined : (o : Operator) (x y : ℤ) → unless_decided (decided o x) (joined o x y) ≡ joined o x y
decided_joined operator.Or x y = or_by (is_nonzero x) (is_nonzero y)
decided_joined operator.And x y = and_by (is_nonzero x) (is_nonzero y)
decided_joined operator.Equal x y = refl
decided_joined operator.NotEqual x y = refl
decided_joined operator.Less x y = refl
decided_joined operator.LessOrEqual x y = refl
decided_joined operator.Greater x y = refl
decided_joined operator.GreaterOrEqual x y = refl
decided_joined operator.Plus x y = refl
decided_joined operator.Minus x y = refl
decided_joined operator.Times x y = refl
decided_joined operator.Over x y = refl
decided_joined operator.Remainder x y = refl

pub two_value : (own : ℕ) (vs : List ℤ) (s : State) (o : Operator) (a b : Expr ℕ) (x y : ℤ) → Ok x ≡ value_of own vs s a → Ok y ≡ value_of own vs s b → joined o x y ≡ value_of own vs s (Binary o a b)
two_value own vs s o a b x y first second =
    let second_by : ℤ → Result ℤ ℕ → Result ℤ ℕ = λ v r. unless_decided (decided o v) (r >>= λ w. joined o v w) in
    sym (decided_joined o x y)
    ∙ ap (second_by x) second
    ∙ ap (λ (r : Result ℤ ℕ). r >>= λ v. second_by v (value_of own vs s b)) first
