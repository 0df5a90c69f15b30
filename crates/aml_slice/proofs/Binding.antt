-- What goes on behind a result goes on in order.
use Rattle.std.proofs.Common.{◌≡◌, ℕ, Bool, true, false, if◌then◌else◌, Result, Ok, Err, refl}
use Rattle.aml_check.specs.Meaning.{◌>>=◌}

pub bind_assoc : {A B C : Type 0} (o : Result A ℕ) (f : A → Result B ℕ) (g : B → Result C ℕ) → ((o >>= f) >>= g) ≡ (o >>= λ x. f x >>= g)
bind_assoc (Ok x) f g = refl
bind_assoc (Err code) f g = refl

pub same_either : {A : Type 0} (b : Bool) (x : A) → (if b then x else x) ≡ x
same_either true x = refl
same_either false x = refl
