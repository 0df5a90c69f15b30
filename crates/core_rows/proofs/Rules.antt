-- The rule that refuses.
use Rattle.std.proofs.Common.{◌≡◌, ℕ, ◌+◌, ◌≤◌, Bool, true, false, refl, List, [], ◌∷◌, sym, ap, ◌∙◌, arith}
use Rattle.protocol.specs.Fixed.{Fixed}
use Rattle.protocol.specs.Parts.{Machine}
use Rattle.protocol.specs.Events.{Event}
use Rattle.protocol.specs.Conditions.{conditions, IsAllowed, AllTrue, first_false, refusal}

all_true : (rule : ℕ) (bs : List Bool) → 1 ≤ rule → first_false rule bs ≡ 0 → AllTrue bs
all_true rule [] some h = tt
all_true rule (true ∷ bs) some h = (refl, all_true (rule + 1) bs (omega arith) h)
all_true rule (false ∷ bs) some h = absurd (omega arith)

-- where none refuses, the event is allowed
pub allowed_where : {C : Type 0} (w : Fixed C) (e : Event) (s : Machine C) → refusal w e s ≡ 0 → IsAllowed w e s
unfolding refusal
allowed_where w e s h = all_true 1 (conditions w e s) (omega arith) h

-- what the askings say is what the conditions say
pub refused : {C : Type 0} (w : Fixed C) (e : Event) (s : Machine C) (bs : List Bool) (n : ℕ) → conditions w e s ≡ bs → n ≡ first_false 1 bs → refusal w e s ≡ n
unfolding refusal
refused w e s bs n same is = ap (first_false 1) same ∙ sym is

pub one : {a x : Bool} → a ≡ x → (a ∷ []) ≡ (x ∷ [])
one p = ap (λ b. b ∷ []) p

pub two : {a b x y : Bool} → a ≡ x → b ≡ y → (a ∷ b ∷ []) ≡ (x ∷ y ∷ [])
two p q = cc

pub three : {a b c x y z : Bool} → a ≡ x → b ≡ y → c ≡ z → (a ∷ b ∷ c ∷ []) ≡ (x ∷ y ∷ z ∷ [])
three p q r = cc

pub four : {a b c d x y z u : Bool} → a ≡ x → b ≡ y → c ≡ z → d ≡ u → (a ∷ b ∷ c ∷ d ∷ []) ≡ (x ∷ y ∷ z ∷ u ∷ [])
four p q r t = cc

-- the first condition refuses
pub first_rule : {C : Type 0} (w : Fixed C) (e : Event) (s : Machine C) (b : Bool) (bs : List Bool) → conditions w e s ≡ b ∷ bs → b ≡ false → refusal w e s ≡ 1
unfolding refusal
first_rule w e s b bs is h = ap (first_false 1) (is ∙ ap (λ x. x ∷ bs) h)
