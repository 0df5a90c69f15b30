-- The lines up to `end`.
use Rattle.std.proofs.Common.{◌≡◌, ℕ, List, [], ◌∷◌, ◌++◌, length, take, refl, sym, ap, ◌∙◌, append_assoc, append-nil, Bool, true, false, ◌-◌, arith, length-append, if◌then◌else◌}
use Rattle.std.specs.Prelude.{Option, Some, None, codes}
use Rattle.std.specs.Str.{bytes_eq}
use Rattle.std.proofs.Math.Seq.{take-append_seam}
use Rattle.std.proofs.lemmas.List.Concat.{flat_map-append}
use Rattle.work_text.specs.Lines.{Line, up_to_end, with_front, text_of}

abbrev pub with_fronts : List (List ℕ) → Option (List (List ℕ) × List Line) → Option (List (List ℕ) × List Line)
with_fronts front None = None
with_fronts front (Some cut) = Some (front ++ cut.0, cut.1)

pub with_none : (r : Option (List (List ℕ) × List Line)) → r ≡ with_fronts [] r
with_none None = refl
with_none (Some cut) = refl

more_fronts : (front : List (List ℕ)) (line : List ℕ) (r : Option (List (List ℕ) × List Line)) → with_fronts front (with_front line r) ≡ with_fronts (front ++ line ∷ []) r
more_fronts front line None = refl
more_fronts front line (Some cut) = ap (λ xs. Some (xs, cut.1)) (sym (append_assoc front (line ∷ []) cut.0))

step_by : (t : Bool) (l : Line) (ls : List Line) → bytes_eq l.bytes (codes "end") ≡ t → up_to_end (l ∷ ls) ≡ (if t then Some ([], ls) else with_front l.bytes (up_to_end ls))
step_by t l ls e = ap (λ (t : Bool). if t then Some ([], ls) else with_front l.bytes (up_to_end ls)) e

pub front_more : (start ls behind : List Line) (l : Line) (front : List (List ℕ)) → up_to_end start ≡ with_fronts front (up_to_end ls) → ls ≡ l ∷ behind → bytes_eq l.bytes (codes "end") ≡ false
    → up_to_end start ≡ with_fronts (front ++ l.bytes ∷ []) (up_to_end behind)
front_more start ls behind l front e cut other = e ∙ ap (λ xs. with_fronts front (up_to_end xs)) cut ∙ ap (with_fronts front) (step_by false l behind other) ∙ more_fronts front l.bytes (up_to_end behind)

pub front_found : (start ls behind : List Line) (l : Line) (front : List (List ℕ)) → up_to_end start ≡ with_fronts front (up_to_end ls) → ls ≡ l ∷ behind → bytes_eq l.bytes (codes "end") ≡ true → up_to_end start ≡ Some (front, behind)
front_found start ls behind l front e cut is =
    e ∙ ap (λ xs. with_fronts front (up_to_end xs)) cut ∙ ap (with_fronts front) (step_by true l behind is) ∙ ap (λ xs. Some (xs, behind)) (append-nil front)

pub text_more : (rest start after : List ℕ) (line : List ℕ) (front : List (List ℕ)) → start ≡ text_of front ++ rest → rest ≡ line ++ 10 ∷ after → start ≡ text_of (front ++ line ∷ []) ++ after
text_more rest start after line front e f =
    e ∙ ap (λ xs. text_of front ++ xs) (f ∙ sym (append_assoc line (10 ∷ []) after)) ∙ sym (append_assoc (text_of front) (line ++ 10 ∷ []) after)
    ∙ ap (λ xs. xs ++ after) (sym (flat_map-append (λ line. line ++ 10 ∷ []) front (line ∷ []) ∙ ap (λ xs. text_of front ++ xs) (append-nil (line ++ 10 ∷ []))))

pub text_front : (start front rest : List ℕ) (n : ℕ) → start ≡ front ++ rest → n ≡ length start - length rest → take n start ≡ front
text_front start front rest n e m = ap (λ k. take k start) (omega (arith, m, ap length e, length-append front rest)) ∙ ap (take (length front)) e ∙ take-append_seam front rest
