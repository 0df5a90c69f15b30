-- Fields without the zeros at the end, one more field at a time.
use Rattle.std.proofs.Common.{◌≡◌, ◌<◌, List, [], ◌∷◌, ◌++◌, length, zero, suc, refl, sym, ap, ◌∙◌, ℤ, pos, negsuc, true, false, arith, w64, SFits, of_z, to_z, to_z-of_z}
use Rattle.snap_report.specs.Lines.{is_zero, onto_shown, without_last_zeros, shown_fields}

-- a field that is not 0 stays, and all before it
pub without_last_zeros-push : (zs : List ℤ) (y : ℤ) → is_zero y ≡ false → without_last_zeros (zs ++ y ∷ []) ≡ zs ++ y ∷ []
without_last_zeros-push [] y h = rw h refl
without_last_zeros-push (z ∷ []) y h = ap (onto_shown z) (without_last_zeros-push [] y h)
without_last_zeros-push (z ∷ x ∷ zs) y h = ap (onto_shown z) (without_last_zeros-push (x ∷ zs) y h)

-- a 0 adds nothing
pub without_last_zeros-zero : (zs : List ℤ) (y : ℤ) → is_zero y ≡ true → without_last_zeros (zs ++ y ∷ []) ≡ without_last_zeros zs
without_last_zeros-zero [] y h = rw h refl
without_last_zeros-zero (z ∷ zs) y h = ap (onto_shown z) (without_last_zeros-zero zs y h)

pub shown_fields-push : (zs : List ℤ) (y : ℤ) → 0 < length zs → is_zero y ≡ false → shown_fields (zs ++ y ∷ []) ≡ zs ++ y ∷ []
shown_fields-push [] y some h = absurd (omega arith)
shown_fields-push (z ∷ zs) y some h = ap (λ l. z ∷ l) (without_last_zeros-push zs y h)

pub shown_fields-zero : (zs : List ℤ) (y : ℤ) → 0 < length zs → is_zero y ≡ true → shown_fields (zs ++ y ∷ []) ≡ shown_fields zs
shown_fields-zero [] y some h = absurd (omega arith)
shown_fields-zero (z ∷ zs) y some h = ap (λ l. z ∷ l) (without_last_zeros-zero zs y h)

-- ---- a field's test, as the machine makes it

pub zero_is : (z : ℤ) → SFits w64 z → of_z w64 z ≡ 0 → is_zero z ≡ true
zero_is z fits e = let same : z ≡ pos 0 = sym (to_z-of_z fits) ∙ ap (to_z w64) e in rw same refl

pub not_zero_is : (z : ℤ) → (of_z w64 z ≡ 0 → ⊥) → is_zero z ≡ false
not_zero_is (pos zero) h = absurd (h refl)
not_zero_is (pos (suc n)) h = refl
not_zero_is (negsuc n) h = refl
