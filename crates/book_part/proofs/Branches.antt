-- What a test and its branches come to.
use Rattle.std.specs.Prelude.{◌≡◌, Bool, true, false, ◌&&◌, ◌||◌, if◌then◌else◌}
use Rattle.std.proofs.Common.{arith, ℕ, leb, sym, ap, ◌∙◌}
use Rattle.std.specs.Ordering.{is_le, nat_cmp}
use Rattle.std.proofs.lemmas.Bool.Decides.{nat_tests}

pub then_and : (r a s b : Bool) → r ≡ a → r ≡ true → s ≡ b → s ≡ (a && b)
then_and r a s b e f g = g ∙ ap (λ z. z && b) (sym f ∙ e)

pub else_and : (r a b : Bool) → r ≡ a → r ≡ false → r ≡ (a && b)
else_and r a b e f = f ∙ ap (λ z. z && b) (sym f ∙ e)

pub then_or : (r a b : Bool) → r ≡ a → r ≡ true → r ≡ (a || b)
then_or r a b e f = f ∙ ap (λ z. z || b) (sym f ∙ e)

pub else_or : (r a s b : Bool) → r ≡ a → r ≡ false → s ≡ b → s ≡ (a || b)
else_or r a s b e f g = g ∙ ap (λ z. z || b) (sym f ∙ e)

pub then_if : {X : Type 0} (r a : Bool) (x y z : X) → r ≡ a → r ≡ true → z ≡ x → z ≡ (if a then x else y)
then_if r a x y z e f g = g ∙ ap (λ b. if b then x else y) (sym f ∙ e)

pub else_if : {X : Type 0} (r a : Bool) (x y z : X) → r ≡ a → r ≡ false → z ≡ y → z ≡ (if a then x else y)
else_if r a x y z e f g = g ∙ ap (λ b. if b then x else y) (sym f ∙ e)

pub le_is : (m n : ℕ) → is_le (nat_cmp m n) ≡ leb m n
le_is m n = grind (arith, nat_tests)
