-- How reading a text ends, as the functions of the code find it.
use Rattle.std.proofs.Common.{◌≡◌, ℕ, zero, suc, ◌<◌, ◌≤◌, List, [], ◌∷◌, length, Option, Some, None, Ok, Err, sym, ap, subst, ◌∙◌, inl, inr, slice_get, rules, tests, arith}
use Rattle.aml_tokens.specs.declared.tokens.TextCause.{TextCause}
use Rattle.aml_tokens.specs.Lexing.{tokens, places, stop, line_at, column_at}
use Rattle.aml_parser.specs.declared.faults.TextFault.{TextFault}
use Rattle.aml_tree.specs.Tree.{TextMethod}
use Rattle.aml_tree.specs.Programs.{IsProgramText}
use Rattle.aml_parser.specs.Faults.{IsFirstTextFault}
use Rattle.aml_parser.specs.Reading.{program}
use Rattle.aml_parser.proofs.TextTokens.{places_match}
use Rattle.aml_parser.proofs.Texts.{read_text, at_token, at_piece, at_end}

abbrev pub told_at : List ℕ → ℕ → TextCause → TextFault
told_at text at c = record { line = line_at text at; column = column_at text at; cause = c }

is_within : (xs : List ℕ) (k at : ℕ) → slice_get xs k ≡ Some at → k < length xs
is_within [] k at e = absurd cc
is_within (x ∷ xs) zero at e = search (rules, tests)
is_within (x ∷ xs) (suc k) at e = let lt = is_within xs k at e in omega (arith, lt)

is_beyond : (xs : List ℕ) (k : ℕ) → slice_get xs k ≡ None → length xs ≤ k
is_beyond [] k e = search (rules, tests)
is_beyond (x ∷ xs) zero e = absurd cc
is_beyond (x ∷ xs) (suc k) e = let le = is_beyond xs k e in omega (arith, le)

pub token_fault : (text starts : List ℕ) (k at : ℕ) (c : TextCause) (f : TextFault) → starts ≡ places text → slice_get starts k ≡ Some at → program (tokens text) ≡ Err (k, c) → f ≡ told_at text at c → IsFirstTextFault text f
token_fault text starts k at c f same there e is =
    let there' : slice_get (places text) k ≡ Some at = sym (ap (λ (xs : List ℕ). slice_get xs k) same) ∙ there in
    at_token text k at c f e (omega (arith, is_within (places text) k at there', places_match text)) there' is

beyond : (text starts : List ℕ) (k : ℕ) → starts ≡ places text → slice_get starts k ≡ None → length (tokens text) ≤ k
beyond text starts k same none = omega (arith, is_beyond (places text) k (sym (ap (λ (xs : List ℕ). slice_get xs k) same) ∙ none), places_match text)

pub piece_fault : (text starts : List ℕ) (piece : Option (ℕ × TextCause)) (k at : ℕ) (c d : TextCause) (f : TextFault) → starts ≡ places text → slice_get starts k ≡ None → program (tokens text) ≡ Err (k, c)
    → piece ≡ stop text → piece ≡ Some (at, d) → f ≡ told_at text at d → IsFirstTextFault text f
piece_fault text starts piece k at c d f same none e stops there is = at_piece text at d f (inr (k, c, e, beyond text starts k same none)) (sym stops ∙ there) is

pub end_fault : (text starts : List ℕ) (piece : Option (ℕ × TextCause)) (k : ℕ) (c : TextCause) (f : TextFault) → starts ≡ places text → slice_get starts k ≡ None → program (tokens text) ≡ Err (k, c)
    → piece ≡ stop text → piece ≡ None → f ≡ told_at text (length text) c → IsFirstTextFault text f
end_fault text starts piece k c f same none e stops there is = at_end text k c f e (beyond text starts k same none) (sym stops ∙ there) is

-- ---- where all tokens are read

pub read_fault : (text : List ℕ) (ms : List TextMethod) (piece : Option (ℕ × TextCause)) (at : ℕ) (d : TextCause) (f : TextFault) → program (tokens text) ≡ Ok ms → piece ≡ stop text → piece ≡ Some (at, d) → f ≡ told_at text at d
    → IsFirstTextFault text f
read_fault text ms piece at d f e stops there is = at_piece text at d f (inl (ms, e)) (sym stops ∙ there) is

pub read_whole : (text : List ℕ) (ms : List TextMethod) (piece : Option (ℕ × TextCause)) → program (tokens text) ≡ Ok ms → piece ≡ stop text → piece ≡ None → IsProgramText text ms
read_whole text ms piece e stops there = read_text text ms (sym stops ∙ there) e

pub same_fault : (text : List ℕ) (f g : TextFault) → f ≡ g → IsFirstTextFault text f → IsFirstTextFault text g
same_fault text f g e x = subst (λ (h : TextFault). IsFirstTextFault text h) e x
