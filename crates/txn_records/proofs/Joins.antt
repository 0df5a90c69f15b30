-- Pieces that are put one behind the other.
use Rattle.std.proofs.Common.{◌≡◌, ℕ, List, ◌++◌, ap, ◌∙◌, append_assoc}

pub three_behind : (old a b c v w x : List ℕ) → v ≡ old ++ a → w ≡ v ++ b → x ≡ w ++ c → x ≡ old ++ (a ++ (b ++ c))
three_behind old a b c v w x ea eb ec =
    ec ∙ ap (λ (z : List ℕ). z ++ c) (eb ∙ ap (λ (z : List ℕ). z ++ b) ea) ∙ append_assoc (old ++ a) b c ∙ append_assoc old a (b ++ c)

pub four_behind : (old a b c d v w x y : List ℕ) → v ≡ old ++ a → w ≡ v ++ b → x ≡ w ++ c → y ≡ x ++ d → y ≡ old ++ (a ++ (b ++ (c ++ d)))
four_behind old a b c d v w x y ea eb ec ed =
    ed ∙ ap (λ (z : List ℕ). z ++ d) (ec ∙ ap (λ (z : List ℕ). z ++ c) (eb ∙ ap (λ (z : List ℕ). z ++ b) ea))
    ∙ append_assoc ((old ++ a) ++ b) c d ∙ append_assoc (old ++ a) b (c ++ d) ∙ append_assoc old a (b ++ (c ++ d))
