-- A piece behind a text.
use Rattle.std.proofs.Common.{◌≡◌, ℕ, Bool, true, false, List, [], ◌∷◌, ◌++◌, length, get_or, drop, ap, sym, ◌∙◌}
use Rattle.std.specs.Prelude.{if◌then◌else◌}
use Rattle.std.proofs.lemmas.List.{append-nil, append_assoc, drop_at}
use Rattle.aml_tokens.specs.Lexing.{joins}
use Rattle.aml_tokens.specs.Writing.{Written, parted, with_piece}

blank_or_none : (t : Bool) (text piece : List ℕ) → (text ++ (if t then 32 ∷ [] else [])) ++ piece ≡ text ++ (if t then 32 ∷ piece else piece)
blank_or_none true text piece = append_assoc text (32 ∷ []) piece
blank_or_none false text piece = ap (λ (x : List ℕ). x ++ piece) (append-nil text)

both : (a b c d : List ℕ) → a ≡ b → c ≡ d → ◌≡◌ {A = Written} (record { text = a; last = c }) (record { text = b; last = d })
both a b c d h k = cc

pub piece_behind : (text last piece begun whole : List ℕ) (len : ℕ) → begun ≡ text ++ (if joins last (get_or piece 0 0) then 32 ∷ [] else []) → len ≡ length begun → whole ≡ begun ++ piece
    → ◌≡◌ {A = Written} (record { text = whole; last = drop len whole }) (with_piece (record { text = text; last = last }) piece)
piece_behind text last piece begun whole len h n w =
    both whole (text ++ parted last piece) (drop len whole) piece
    (w ∙ ap (λ (x : List ℕ). x ++ piece) h ∙ blank_or_none (joins last (get_or piece 0 0)) text piece)
    (ap (drop len) w ∙ drop_at begun piece len (sym n))
