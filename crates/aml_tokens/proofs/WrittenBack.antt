-- Tokens that a text may have, written in one line that is not too long, are read back.
use Rattle.std.proofs.Common.{◌≡◌, ℕ, ◌+◌, ◌≤◌, Bool, true, false, List, [], ◌∷◌, length, get_or, map, None, Result, Ok, refl, sym, ap, subst, ◌∙◌, arith}
use Rattle.std.specs.Prelude.{if◌then◌else◌}
use Rattle.std.specs.List.{AllByRecursion}
use Rattle.std.specs.Str.{IsAscii}
use Rattle.std.proofs.lemmas.List.{length-append}
use Rattle.aml_tokens.specs.declared.limits.TheConstants.{LONGEST_PROGRAM}
use Rattle.aml_tokens.specs.declared.tokens.TextCause.{TextCause}
use Rattle.aml_tokens.specs.Token.{Token}
use Rattle.aml_tokens.specs.Lexing.{Piece, Tokens, onto, joins, token_in, token_at, tokens_in, pieces, line_at}
use Rattle.aml_tokens.specs.Names.{IsToken}
use Rattle.aml_tokens.specs.Writing.{nothing_written, parted, with_tokens, token_bytes, in_first_line, IsReadBack}
use Rattle.aml_tokens.proofs.Alone.{IsAlone, token_alone}
use Rattle.aml_tokens.proofs.Spaced.{gap}
use Rattle.aml_tokens.proofs.Placed.{behind, placed, IsClean, behind_read}
use Rattle.aml_tokens.proofs.Printable.{IsPrinted, token_clean, token_printed, behind_printed, printed_ascii, first_line}
use Rattle.aml_tokens.proofs.ReadBack.{is_within, written_text}

all_alone : (ts : List Token) → AllByRecursion IsToken ts → AllByRecursion IsAlone ts
all_alone [] h = tt
all_alone (t ∷ ts) h = (token_alone t h.0, all_alone ts h.1)

all_clean : (ts : List Token) → AllByRecursion IsAlone ts → AllByRecursion IsClean (map token_bytes ts)
all_clean [] h = tt
all_clean (t ∷ ts) h = (token_clean 1 (token_bytes t) (in_first_line t) h.0.grown h.0.read, all_clean ts h.1)

all_printed : (ts : List Token) → AllByRecursion IsAlone ts → AllByRecursion IsPrinted (map token_bytes ts)
all_printed [] h = tt
all_printed (t ∷ ts) h = (token_printed 1 (token_bytes t) (in_first_line t) h.0.grown h.0.read, all_printed ts h.1)

parted_length : (last w : List ℕ) → length (parted last w) ≡ gap last w + length w
parted_length last w = by (joins last (get_or w 0 0))
  where
    by : (t : Bool) → length (if t then 32 ∷ w else w) ≡ (if t then 1 else 0) + length w
    by true = omega arith
    by false = omega arith

-- the tokens of the pieces that are placed behind one that ends at a place
abbrev AreRead : List ℕ → List Piece → List Token → Type 0
AreRead text ps ts = ((tokens_in text ps).stop ≡ None) × ((tokens_in text ps).tokens ≡ map in_first_line ts)

placed_read : (text : List ℕ) (ts : List Token) (begun : ℕ) (last : List ℕ) → ((at : ℕ) → line_at text at ≡ 1) → AllByRecursion IsAlone ts → begun + length (behind last (map token_bytes ts)) ≤ LONGEST_PROGRAM
    → AreRead text (placed begun last (map token_bytes ts)) ts
placed_read text [] begun last line all fits = (refl, refl)
placed_read text (t ∷ ts) begun last line all fits =
    let w : List ℕ = token_bytes t in
    let at : ℕ = begun + gap last (token_bytes t) in
    let whole : length (behind last (token_bytes t ∷ map token_bytes ts)) ≡ length (parted last (token_bytes t)) + length (behind (token_bytes t) (map token_bytes ts)) = length-append (parted last (token_bytes t)) (behind (token_bytes t) (map token_bytes ts)) in
    let first = parted_length last (token_bytes t) in
    let q : Piece = record { at = begun + gap last (token_bytes t); bytes = token_bytes t } in
    let alone : token_in (line_at text at) (token_bytes t) ≡ Ok (in_first_line t) = subst (λ (n : ℕ). token_in n (token_bytes t) ≡ Ok (in_first_line t)) (sym (line at)) all.0.read in
    let here : token_at text q ≡ Ok (in_first_line t) = is_within q (token_in (line_at text at) (token_bytes t)) (in_first_line t) alone (omega arith) in
    let rest = placed_read text ts (begun + gap last (token_bytes t) + length (token_bytes t)) (token_bytes t) line all.1 (omega arith) in
    let behind_it : Tokens = tokens_in text (placed (begun + gap last (token_bytes t) + length (token_bytes t)) (token_bytes t) (map token_bytes ts)) in (
      ap (λ (x : Result Token TextCause). (onto at x behind_it).stop) here ∙ rest.0,
      ap (λ (x : Result Token TextCause). (onto at x behind_it).tokens) here ∙ ap (λ (x : List Token). in_first_line t ∷ x) rest.1,
    )

pub written_ascii : (ts : List Token) → AllByRecursion IsToken ts → IsAscii (with_tokens nothing_written ts).text
written_ascii ts h =
    subst (λ (x : List ℕ). IsAscii x) (sym (written_text ts nothing_written)) (printed_ascii (behind [] (map token_bytes ts)) (behind_printed (map token_bytes ts) [] (all_printed ts (all_alone ts h))))

pub written_back : (ts : List Token) → AllByRecursion IsToken ts → length (with_tokens nothing_written ts).text ≤ LONGEST_PROGRAM → IsReadBack (with_tokens nothing_written ts).text ts
written_back ts h fits =
    let all = all_alone ts h in
    let is : (with_tokens nothing_written ts).text ≡ behind [] (map token_bytes ts) = written_text ts nothing_written in
    let short : length (behind [] (map token_bytes ts)) ≤ LONGEST_PROGRAM = subst (λ (x : List ℕ). length x ≤ LONGEST_PROGRAM) is fits in
    let printed : IsPrinted (behind [] (map token_bytes ts)) = behind_printed (map token_bytes ts) [] (all_printed ts all) in
    let cut : pieces (behind [] (map token_bytes ts)) ≡ placed 0 [] (map token_bytes ts) = behind_read (map token_bytes ts) [] 0 (all_clean ts all) in
    let seen = placed_read (behind [] (map token_bytes ts)) ts 0 [] (λ at. first_line (behind [] (map token_bytes ts)) at printed) all (omega (arith, short)) in
    let back : IsReadBack (behind [] (map token_bytes ts)) ts = record {
      whole = ap (λ (ps : List Piece). (tokens_in (behind [] (map token_bytes ts)) ps).stop) cut ∙ seen.0;
      same = ap (λ (ps : List Piece). (tokens_in (behind [] (map token_bytes ts)) ps).tokens) cut ∙ seen.1;
      ascii = printed_ascii (behind [] (map token_bytes ts)) printed;
    } in
    subst (λ (x : List ℕ). IsReadBack x ts) (sym is) back
