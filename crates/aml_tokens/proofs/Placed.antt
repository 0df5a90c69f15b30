-- Where pieces stand that are written one behind the other, with a blank only where it is needed.
use Rattle.std.proofs.Common.{◌≡◌, ℕ, ◌+◌, ◌<◌, ◌==◌, Bool, true, false, List, [], ◌∷◌, ◌++◌, length, refl, sym, ap, subst, ◌∙◌, arith}
use Rattle.std.specs.Prelude.{if◌then◌else◌}
use Rattle.std.specs.List.{AllByRecursion}
use Rattle.std.proofs.lemmas.List.{append-nil, append_assoc}
use Rattle.aml_tokens.specs.Bytes.{is_blank}
use Rattle.aml_tokens.specs.Lexing.{Piece, joins, piece_ended, pieces_from, without_comments}
use Rattle.aml_tokens.specs.Writing.{parted}
use Rattle.aml_tokens.proofs.Fronts.{blank_ends, ends_before, goes_on, ended_is}
use Rattle.aml_tokens.proofs.Spaced.{Grows, gap}

abbrev pub behind : List ℕ → List (List ℕ) → List ℕ
behind last [] = []
behind last (w ∷ ws) = parted last w ++ behind w ws

abbrev pub placed : ℕ → List ℕ → List (List ℕ) → List Piece
placed end last [] = []
placed end last (w ∷ ws) = record { at = end + gap last w; bytes = w } ∷ placed (end + gap last w + length w) w ws

-- one piece, which begins with no blank and no comment
abbrev pub IsClean : List ℕ → Type 0
IsClean [] = ⊥
IsClean (b ∷ bs) = (is_blank b ≡ false) × ((b == 35) ≡ false) × Grows (b ∷ []) bs

moved : (a b : ℕ) (front whole rest : List ℕ) → a ≡ b → front ≡ whole → pieces_from a front rest ≡ pieces_from b whole rest
moved a b front whole rest h k = subst (λ (x : ℕ). pieces_from a front rest ≡ pieces_from x whole rest) h (ap (λ (x : List ℕ). pieces_from a x rest) k)

grown_read : (bs front rest : List ℕ) (at : ℕ) → Grows front bs → pieces_from at front (without_comments false (bs ++ rest)) ≡ pieces_from (at + length bs) (front ++ bs) (without_comments false rest)
grown_read [] front rest at g = moved at (at + 0) front (front ++ []) (without_comments false rest) (omega arith) (sym (append-nil front))
grown_read (b ∷ bs) front rest at g =
    goes_on at front b (bs ++ rest) g.0 ∙ grown_read bs (front ++ b ∷ []) rest (at + 1) g.1
    ∙ moved (at + 1 + length bs) (at + length (b ∷ bs)) ((front ++ b ∷ []) ++ bs) (front ++ b ∷ bs) (without_comments false rest) (omega arith) (append_assoc front (b ∷ []) bs)

clean_read : (b : ℕ) (bs rest : List ℕ) (at : ℕ) → IsClean (b ∷ bs) → pieces_from at [] (without_comments false ((b ∷ bs) ++ rest)) ≡ pieces_from (at + length (b ∷ bs)) (b ∷ bs) (without_comments false rest)
clean_read b bs rest at h =
    let no_blank = h.0 in
    let no_comment = h.1 in
    let first : pieces_from at [] (without_comments false ((b ∷ bs) ++ rest)) ≡ pieces_from (at + 1) (b ∷ []) (without_comments false (bs ++ rest)) = rw (no_comment, no_blank) refl in
    first ∙ grown_read bs (b ∷ []) rest (at + 1) h.2 ∙ moved (at + 1 + length bs) (at + length (b ∷ bs)) (b ∷ bs) (b ∷ bs) (without_comments false rest) (omega arith) refl

behind_blank : (end : ℕ) (last rest : List ℕ) → pieces_from end last (32 ∷ rest) ≡ piece_ended end last (pieces_from (end + 1) [] rest)
behind_blank end last rest = rw (blank_ends last) refl

parted_read : (last w rest : List ℕ) (end : ℕ) → IsClean w → pieces_from end last (without_comments false (parted last w ++ rest)) ≡ piece_ended end last (pieces_from (end + gap last w + length w) w (without_comments false rest))
parted_read last [] rest end h = absurd h
parted_read last (b ∷ bs) rest end h = by_join (joins last b) refl
  where
    by_join : (t : Bool) → joins last b ≡ t
        → pieces_from end last (without_comments false ((if t then 32 ∷ b ∷ bs else b ∷ bs) ++ rest)) ≡ piece_ended end last (pieces_from (end + (if t then 1 else 0) + length (b ∷ bs)) (b ∷ bs) (without_comments false rest))
    by_join true e = behind_blank end last (without_comments false ((b ∷ bs) ++ rest)) ∙ ap (piece_ended end last) (clean_read b bs rest (end + 1) h)
    by_join false e =
        ends_before end last b (bs ++ rest) e
        ∙ ap (piece_ended end last) (clean_read b bs rest end h ∙ moved (end + length (b ∷ bs)) (end + 0 + length (b ∷ bs)) (b ∷ bs) (b ∷ bs) (without_comments false rest) (omega arith) refl)

some_bytes : (w : List ℕ) → IsClean w → 0 < length w
some_bytes [] h = absurd h
some_bytes (b ∷ bs) h = omega arith

pub behind_read : (ws : List (List ℕ)) (last : List ℕ) (end : ℕ) → AllByRecursion IsClean ws → pieces_from end last (without_comments false (behind last ws)) ≡ piece_ended end last (placed end last ws)
behind_read [] last end h = refl
behind_read (w ∷ ws) last end h =
    parted_read last w (behind w ws) end h.0
    ∙ ap (piece_ended end last) (behind_read ws w (end + gap last w + length w) h.1 ∙ ended_is (end + gap last w + length w) (end + gap last w) w (placed (end + gap last w + length w) w ws) refl (some_bytes w h.0))
