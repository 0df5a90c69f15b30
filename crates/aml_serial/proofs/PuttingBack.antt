-- The states that are kept put back the world that was found, whatever became of it.
use Rattle.std.proofs.Common.{◌≡◌, ◌≢◌, ℕ, ◌==◌, Bool, true, false, ◌||◌, List, [], ◌∷◌, ◌++◌, get_or, set, refl, sym, ap, ◌∙◌}
use Rattle.std.specs.List.{list_any}
use Rattle.std.proofs.lemmas.Bool.{eqb-true, eqb-false}
use Rattle.std.proofs.lemmas.List.{set-set, set_comm, set-get_or, get_or-set_other}
use Rattle.snap_base.specs.declared.transactions.State.{State}
use Rattle.aml_serial.specs.declared.images.BeforeImage.{BeforeImage}
use Rattle.aml_serial.specs.Images.{put_back}

abbrev is_of : ℕ → BeforeImage → Bool
is_of a image = image.actor == a

-- a change of an actor's state, where an image follows that is of this actor or of another
changed_by : (a : ℕ) (t : State) (image : BeforeImage) (images : List BeforeImage) (w : List State) (own : Bool)
    → (image.actor == a) ≡ own → (own || list_any (is_of a) images) ≡ true
    → ((v : List State) → list_any (is_of a) images ≡ true → put_back images (set v a t) ≡ put_back images v)
    → put_back images (set (set w a t) image.actor image.state) ≡ put_back images (set w image.actor image.state)
changed_by a t image images w true is among more =
    let here : a ≡ image.actor = sym (eqb-true image.actor a is) in
    ap (put_back images) (ap (λ b. set (set w b t) image.actor image.state) here ∙ set-set w image.actor t image.state)
changed_by a t image images w false is among more =
    let other : a ≢ image.actor = λ same. eqb-false image.actor a is (sym same) in
    ap (put_back images) (set_comm w a image.actor t image.state other) ∙ more (set w image.actor image.state) among

-- what becomes of an actor's state that is kept does not matter
pub kept_already : (a : ℕ) (t : State) (images : List BeforeImage) (w : List State) → list_any (λ (image : BeforeImage). image.actor == a) images ≡ true → put_back images (set w a t) ≡ put_back images w
kept_already a t [] w among = absurd cc
kept_already a t (image ∷ images) w among = changed_by a t image images w (image.actor == a) refl among (λ v. kept_already a t images v)

pub not_first : (x y : Bool) → (x || y) ≡ false → (x ≡ false) × (y ≡ false)
not_first true y h = absurd cc
not_first false y h = (refl, h)

-- nor does it once the state is kept last
pub kept_last : (a : ℕ) (s t z : State) (images : List BeforeImage) (w : List State) → list_any (λ (image : BeforeImage). image.actor == a) images ≡ false → s ≡ get_or w a z
    → put_back (images ++ record { actor = a; state = s } ∷ []) (set w a t) ≡ put_back images w
kept_last a s t z [] w none is = set-set w a t s ∙ ap (set w a) is ∙ set-get_or w a z
kept_last a s t z (image ∷ images) w none is =
    let apart = not_first (image.actor == a) (list_any (is_of a) images) none in
    let other : a ≢ image.actor = λ same. eqb-false image.actor a apart.0 (sym same) in
    ap (put_back (images ++ record { actor = a; state = s } ∷ [])) (set_comm w a image.actor t image.state other)
    ∙ kept_last a s t z images (set w image.actor image.state) apart.1 (is ∙ sym (get_or-set_other w image.actor a image.state z other))
