-- The first line of a text.
use Rattle.std.proofs.Common.{◌≡◌, ◌≢◌, ℕ, ◌+◌, ◌<◌, Bool, false, List, [], ◌∷◌, ◌++◌, length, get_or, drop, take, refl, sym, ap, ◌∙◌, arith, eqb, if◌then◌else◌}
use Rattle.std.proofs.lemmas.List.{take-append-drop, drop_more, drop_all, take_more}
use Rattle.std.proofs.Math.Seq.{take-length}
use Rattle.std.specs.List.{AllByRecursion}
use Rattle.snap_base.proofs.Lists.{all_push}
use Rattle.snap_base.specs.Lines.{lines, onto_line}

abbrev pub IsFree : List ℕ → Type 0
IsFree line = AllByRecursion (λ b. eqb b 10 ≡ false) line

pub lines_step : (t : Bool) (b : ℕ) (bs : List ℕ) → eqb b 10 ≡ t → lines (b ∷ bs) ≡ (if t then [] ∷ lines bs else onto_line b (lines bs))
lines_step t b bs e = ap (λ (t : Bool). if t then [] ∷ lines bs else onto_line b (lines bs)) e

lines_front : (front rest : List ℕ) → IsFree front → lines (front ++ 10 ∷ rest) ≡ front ∷ lines rest
lines_front [] rest free = refl
lines_front (b ∷ front) rest free = lines_step false b (front ++ 10 ∷ rest) free.0 ∙ ap (onto_line b) (lines_front front rest free.1)

lines_last : (b : ℕ) (front : List ℕ) → IsFree (b ∷ front) → lines (b ∷ front) ≡ (b ∷ front) ∷ []
lines_last b [] free = lines_step false b [] free.0
lines_last b (d ∷ front) free = lines_step false b (d ∷ front) free.0 ∙ ap (onto_line b) (lines_last d front free.1)

lines_whole : (rest : List ℕ) → IsFree rest → rest ≢ [] → lines rest ≡ rest ∷ []
lines_whole [] free some = absurd (some refl)
lines_whole (b ∷ bs) free some = lines_last b bs free

-- a line that ends with a line feed, and one that ends with the text
pub cut_at_feed : (rest : List ℕ) (at d : ℕ) → at < length rest → IsFree (take at rest) → get_or rest at d ≡ 10 → lines rest ≡ take at rest ∷ lines (drop (at + 1) rest)
cut_at_feed rest at d lt free is =
    ap lines (sym (take-append-drop at rest) ∙ ap (λ ys. take at rest ++ ys) (drop_more rest at d lt ∙ ap (λ y. y ∷ drop (at + 1) rest) is)) ∙ lines_front (take at rest) (drop (at + 1) rest) free

pub cut_at_end : (rest : List ℕ) (at : ℕ) → at ≡ length rest → IsFree (take at rest) → rest ≢ [] → lines rest ≡ take at rest ∷ lines (drop (at + 1) rest)
cut_at_end rest at e free some =
    let whole : take at rest ≡ rest = ap (λ n. take n rest) e ∙ take-length rest in
    let none : drop (at + 1) rest ≡ [] = drop_all (at + 1) rest (omega (arith, e)) in
    rw none (rw whole (lines_whole rest (rw whole at free) some))

pub free_more : (rest : List ℕ) (at d : ℕ) → at < length rest → IsFree (take at rest) → eqb (get_or rest at d) 10 ≡ false → IsFree (take (at + 1) rest)
free_more rest at d lt free other = rw (take_more rest at d lt) (all_push (λ b. eqb b 10 ≡ false) (take at rest) (get_or rest at d) free other)

pub feed_at : (rest : List ℕ) (at d : ℕ) → at < length rest → get_or rest at d ≡ 10 → rest ≡ take at rest ++ 10 ∷ drop (at + 1) rest
feed_at rest at d lt is = sym (take-append-drop at rest) ∙ ap (λ ys. take at rest ++ ys) (drop_more rest at d lt ∙ ap (λ y. y ∷ drop (at + 1) rest) is)
