-- An ACT is found, and changed, at the one place that has its tid.
use Rattle.std.proofs.Common.{◌≡◌, ℕ, zero, suc, ◌<◌, eqb, Some, None, List, [], ◌∷◌, length, get_or, set, refl, ap, arith}
use Rattle.std.proofs.lemmas.Bool.{eq-eqb, ne_eqb, cond_both}
use Rattle.protocol.specs.Parts.{Act}
use Rattle.protocol.specs.Words.{act_of}
use Rattle.protocol.specs.OnBook.{changed_act}

abbrev pub IsNowhere : ℕ → List Act → Type 0
IsNowhere t acts = (i : ℕ) (d : Act) → i < length acts → (get_or acts i d).tid ≡ t → ⊥

abbrev pub IsOnlyAt : ℕ → List Act → ℕ → Type 0
IsOnlyAt t acts i = (j : ℕ) (d : Act) → j < length acts → (get_or acts j d).tid ≡ t → j ≡ i

pub act_of-nowhere : (t : ℕ) (acts : List Act) → IsNowhere t acts → act_of t acts ≡ None
act_of-nowhere t [] h = refl
act_of-nowhere t (x ∷ xs) h = rw (ne_eqb x.tid t (h 0 x (omega arith))) (act_of-nowhere t xs (λ i d lt. h (suc i) d (omega (arith, lt))))

pub act_of-at : (t : ℕ) (acts : List Act) (i : ℕ) (d : Act) → i < length acts → (get_or acts i d).tid ≡ t → IsOnlyAt t acts i → act_of t acts ≡ Some (get_or acts i d)
act_of-at t [] i d lt at only = absurd (omega (arith, lt))
act_of-at t (x ∷ xs) zero d lt at only = rw (eq-eqb x.tid t at) refl
act_of-at t (x ∷ xs) (suc i) d lt at only =
    rw (ne_eqb x.tid t (λ e. absurd (omega (arith, only 0 x (omega arith) e))))
    (act_of-at t xs i d (omega (arith, lt)) at (λ j e lt' at'. omega (arith, only (suc j) e (omega (arith, lt')) at')))

pub changed_act-nowhere : (t : ℕ) (f : Act → Act) (acts : List Act) → IsNowhere t acts → changed_act t f acts ≡ acts
changed_act-nowhere t f [] h = refl
changed_act-nowhere t f (x ∷ xs) h =
    rw (ne_eqb x.tid t (h 0 x (omega arith))) (ap (λ ys. x ∷ ys) (changed_act-nowhere t f xs (λ i d lt. h (suc i) d (omega (arith, lt)))))

pub changed_act-at : (t : ℕ) (f : Act → Act) (acts : List Act) (i : ℕ) (d : Act) → i < length acts → (get_or acts i d).tid ≡ t → IsOnlyAt t acts i
    → changed_act t f acts ≡ set acts i (f (get_or acts i d))
changed_act-at t f [] i d lt at only = absurd (omega (arith, lt))
changed_act-at t f (x ∷ xs) zero d lt at only =
    rw (eq-eqb x.tid t at) (ap (λ ys. f x ∷ ys) (changed_act-nowhere t f xs (λ j e lt' at'. absurd (omega (arith, only (suc j) e (omega (arith, lt')) at')))))
changed_act-at t f (x ∷ xs) (suc i) d lt at only =
    rw (ne_eqb x.tid t (λ e. absurd (omega (arith, only 0 x (omega arith) e))))
    (ap (λ ys. x ∷ ys) (changed_act-at t f xs i d (omega (arith, lt)) at (λ j e lt' at'. omega (arith, only (suc j) e (omega (arith, lt')) at'))))

-- where it is not found, it is nowhere
pub nowhere_since : (t : ℕ) (acts : List Act) → act_of t acts ≡ None → IsNowhere t acts
nowhere_since t [] h i d lt at = absurd (omega (arith, lt))
nowhere_since t (x ∷ xs) h zero d lt at = cc (rw (eq-eqb x.tid t at) at h)
nowhere_since t (x ∷ xs) h (suc i) d lt at =
    cond_both (eqb x.tid t) (Some x) (act_of t xs) (λ o. o ≡ None → ⊥) (λ e k. cc k) (λ e k. nowhere_since t xs k i d (omega (arith, lt)) at) h
