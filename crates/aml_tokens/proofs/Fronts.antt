-- What a byte does to the piece before it.
use Rattle.std.proofs.Common.{◌≡◌, ℕ, ◌+◌, ◌-◌, ◌<◌, Bool, true, false, ◌&&◌, ◌||◌, ◌==◌, List, [], ◌∷◌, ◌++◌, length, get_or, drop, refl, sym, ap, subst, ◌∙◌, arith, eqb-true}
use Rattle.std.specs.List.{between}
use Rattle.std.proofs.lemmas.List.{drop_more}
use Rattle.std.proofs.lemmas.List.Edits.{between_more, length-between}
use Rattle.snap_base.proofs.Booleans.{and_false}
use Rattle.aml_tokens.specs.Bytes.{is_word_byte, begins_comparison}
use Rattle.aml_tokens.specs.Lexing.{Piece, joins, piece_ended, pieces_from, without_comments}
use Rattle.aml_tokens.specs.Reading.{pieces_at}

neither : (a b : Bool) → ((a && false) || (b && false)) ≡ false
neither true true = refl
neither true false = refl
neither false true = refl
neither false false = refl

-- no piece goes on with a blank or a comment
pub blank_ends : (front : List ℕ) → joins front 32 ≡ false
blank_ends [] = refl
blank_ends (c ∷ []) = neither (is_word_byte c) (begins_comparison c)
blank_ends (c ∷ d ∷ front) = and_false (is_word_byte c)

comment_ends : (front : List ℕ) → joins front 35 ≡ false
comment_ends [] = refl
comment_ends (c ∷ []) = neither (is_word_byte c) (begins_comparison c)
comment_ends (c ∷ d ∷ front) = and_false (is_word_byte c)

ends_there : (at : ℕ) (front : List ℕ) (b : ℕ) (bs : List ℕ) → joins front b ≡ false → pieces_from at front (b ∷ bs) ≡ piece_ended at front (pieces_from at [] (b ∷ bs))
ends_there at front b bs h = rw h refl

pub ends_before : (at : ℕ) (front : List ℕ) (b : ℕ) (bs : List ℕ) → joins front b ≡ false
    → pieces_from at front (without_comments false (b ∷ bs)) ≡ piece_ended at front (pieces_from at [] (without_comments false (b ∷ bs)))
ends_before at front b bs h = by_first (b == 35) refl
  where
    by_first : (t : Bool) → (b == 35) ≡ t → pieces_from at front (without_comments false (b ∷ bs)) ≡ piece_ended at front (pieces_from at [] (without_comments false (b ∷ bs)))
    by_first true e = rw e (ends_there at front 32 (without_comments true bs) (blank_ends front))
    by_first false e = rw e (ends_there at front b (without_comments false bs) h)

pub goes_on : (at : ℕ) (front : List ℕ) (b : ℕ) (bs : List ℕ) → joins front b ≡ true
    → pieces_from at front (without_comments false (b ∷ bs)) ≡ pieces_from (at + 1) (front ++ b ∷ []) (without_comments false bs)
goes_on at front b bs h = by_first (b == 35) refl
  where
    by_first : (t : Bool) → (b == 35) ≡ t → pieces_from at front (without_comments false (b ∷ bs)) ≡ pieces_from (at + 1) (front ++ b ∷ []) (without_comments false bs)
    by_first true e =
        let none : joins front b ≡ false = subst (λ (x : ℕ). joins front x ≡ false) (sym (eqb-true b 35 e)) (comment_ends front) in
        absurd (cc (h, none))
    by_first false e = rw (e, h) refl

pub ended_is : (at start : ℕ) (front : List ℕ) (more : List Piece) → start + length front ≡ at → 0 < length front → piece_ended at front more ≡ record { at = start; bytes = front } ∷ more
ended_is at start [] more h some = absurd (omega arith)
ended_is at start (c ∷ cs) more h some =
    let begun : at - length (c ∷ cs) ≡ start = omega arith in
    ap (λ (n : ℕ). record { at = n; bytes = c ∷ cs } ∷ more) begun

-- ---- over places of a text

pub piece_ends : (text : List ℕ) (start at : ℕ) → start < at → at < length text → joins (between start at text) (get_or text at 0) ≡ false
    → pieces_from at (between start at text) (without_comments false (drop at text)) ≡ record { at = start; bytes = between start at text } ∷ pieces_at text at
piece_ends text start at some lt h =
    let len : length (between start at text) ≡ at - start = length-between text start at (omega arith) in
    let here = ends_before at (between start at text) (get_or text at 0) (drop (at + 1) text) h in
    let rest : drop at text ≡ get_or text at 0 ∷ drop (at + 1) text = drop_more text at 0 lt in
    let there = subst (λ (bs : List ℕ). pieces_from at (between start at text) (without_comments false bs) ≡ piece_ended at (between start at text) (pieces_from at [] (without_comments false bs))) (sym rest) here in
    there ∙ ended_is at start (between start at text) (pieces_at text at) (omega arith) (omega arith)

pub piece_goes_on : (text : List ℕ) (start at : ℕ) → start < at → at < length text → joins (between start at text) (get_or text at 0) ≡ true
    → pieces_from (at + 1) (between start (at + 1) text) (without_comments false (drop (at + 1) text)) ≡ pieces_from at (between start at text) (without_comments false (drop at text))
piece_goes_on text start at some lt h =
    let more : between start (at + 1) text ≡ between start at text ++ get_or text at 0 ∷ [] = between_more text start at 0 (omega arith) lt in
    let rest : drop at text ≡ get_or text at 0 ∷ drop (at + 1) text = drop_more text at 0 lt in
    let here = goes_on at (between start at text) (get_or text at 0) (drop (at + 1) text) h in
    subst (λ (bs : List ℕ). pieces_from (at + 1) bs (without_comments false (drop (at + 1) text)) ≡ pieces_from at (between start at text) (without_comments false (drop at text))) (sym more)
    (sym (subst (λ (bs : List ℕ). pieces_from at (between start at text) (without_comments false bs) ≡ pieces_from (at + 1) (between start at text ++ get_or text at 0 ∷ []) (without_comments false (drop (at + 1) text))) (sym rest) here))
