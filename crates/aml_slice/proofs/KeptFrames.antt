-- How many frames wait, and room for what one more keeps.
use Rattle.std.proofs.Common.{◌≡◌, ℕ, suc, ◌+◌, ◌*◌, ◌<◌, ◌≤◌, ℤ, List, [], ◌∷◌, length, reverse, refl, ap, ◌∙◌, arith}
use Rattle.std.specs.List.{AllByRecursion, fold}
use Rattle.std.proofs.lemmas.List.{length-reverse}
use Rattle.aml_resume.specs.declared.places.Spot.{Spot}
use Rattle.aml_slice.specs.Views.{IsRow, before_last, frames_in}
use Rattle.aml_slice.specs.declared.saved.SavedFrame.{SavedFrame}

as_many : (fs : List SavedFrame) (vs : List ℤ) (qs : List Spot) → length (frames_in fs vs qs) ≡ length fs
as_many [] vs qs = refl
as_many (f ∷ fs) vs qs = ap suc (as_many fs (before_last f.variables vs) (before_last f.levels qs))

pub number_of_frames : (fs : List SavedFrame) (vs : List ℤ) (qs : List Spot) → length (frames_in (reverse fs) vs qs) ≡ length fs
number_of_frames fs vs qs = as_many (reverse fs) vs qs ∙ length-reverse fs

few_from : (of : SavedFrame → ℕ) (a : ℕ) (fs : List SavedFrame) → AllByRecursion (λ (f : SavedFrame). of f ≤ 32) fs → fold (λ n f. n + of f) a fs ≤ a + 32 * length fs
few_from of a [] h = omega arith
few_from of a (f ∷ fs) h = omega (arith, h.0, few_from of (a + of f) fs h.1)

-- there is room for what one more keeps
pub row_fits : (of : SavedFrame → ℕ) (fs : List SavedFrame) (room size capacity more : ℕ) → IsRow of 32 fs room size capacity → length fs < room → more ≤ 32 → size + more ≤ capacity
row_fits of fs room size capacity more row one few = omega (arith, few_from of 0 fs row.few, row.all, row.fits, one, few)
