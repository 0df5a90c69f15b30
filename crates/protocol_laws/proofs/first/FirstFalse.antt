-- A list of tests and the first of them that is false.
use Rattle.std.specs.Prelude.{◌≡◌, refl, ℕ, ◌+◌, Bool, true, false, ◌↔◌, List, [], ◌∷◌}
use Rattle.protocol.specs.Fixed.{Fixed}
use Rattle.protocol.specs.Events.{Event}
use Rattle.protocol.specs.Parts.{Machine}
use Rattle.protocol.specs.Conditions.{AllTrue, IsAllowed, conditions, first_false, refusal}
use Rattle.std.proofs.Common.{arith}

pub all_true : (rule : ℕ) (bs : List Bool) → first_false (rule + 1) bs ≡ 0 → AllTrue bs
all_true rule [] h = tt
all_true rule (true ∷ bs) h = (refl, all_true (rule + 1) bs h)
all_true rule (false ∷ bs) h = absurd (omega (arith, h))

pub none_false : (rule : ℕ) (bs : List Bool) → AllTrue bs → first_false rule bs ≡ 0
none_false rule [] h = refl
none_false rule (true ∷ bs) h = none_false (rule + 1) bs h.1
none_false rule (false ∷ bs) h = absurd (cc h.0)

pub allowed_or_refused : {C : Type 0} (w : Fixed C) (e : Event) (s : Machine C) → (refusal w e s ≡ 0) ↔ IsAllowed w e s
unfolding refusal
allowed_or_refused w e s = (all_true 0 (conditions w e s), none_false 1 (conditions w e s))
