-- The tokens of a text, written in one line, are read back.
use Rattle.std.proofs.Common.{◌≡◌, ℕ, ◌+◌, ◌≤◌, Bool, true, false, List, [], ◌∷◌, ◌++◌, length, map, None, Result, Ok, Err, refl, sym, ap, subst, ◌∙◌, arith, leb}
use Rattle.std.specs.List.{AllByRecursion}
use Rattle.std.proofs.lemmas.Bool.{leb-true, le-leb}
use Rattle.std.proofs.lemmas.List.{append-nil, append_assoc}
use Rattle.aml_tokens.specs.declared.limits.TheConstants.{LONGEST_PROGRAM}
use Rattle.aml_tokens.specs.declared.tokens.TextCause.{TextCause}
use Rattle.aml_tokens.specs.declared.tokens.TextCause.TheVariants as cause
use Rattle.aml_tokens.specs.Token.{Token}
use Rattle.aml_tokens.specs.Lexing.{Piece, Tokens, onto, within, token_in, token_at, tokens_in, tokens, stop, pieces, line_at}
use Rattle.aml_tokens.specs.Writing.{Written, nothing_written, parted, with_piece, with_tokens, token_bytes, in_first_line, IsReadBack}
use Rattle.aml_tokens.proofs.Spaced.{Spaced, gap, pieces_spaced}
use Rattle.aml_tokens.proofs.Placed.{behind, placed, IsClean, behind_read}
use Rattle.aml_tokens.proofs.Printable.{IsPrinted, token_clean, token_printed, behind_printed, printed_ascii, first_line}
use Rattle.aml_tokens.proofs.Told.{token_told}

abbrev bytes_of : Piece → List ℕ
bytes_of p = p.bytes

-- the first piece is a token, where all are
abbrev IsRead : Result Token TextCause → Tokens → Type 0
IsRead r rest = (t : Token) × (r ≡ Ok t) × (rest.stop ≡ None)

all_read : (at : ℕ) (r : Result Token TextCause) (rest : Tokens) → (onto at r rest).stop ≡ None → IsRead r rest
all_read at (Ok t) rest h = (t, refl, h)
all_read at (Err e) rest h = absurd cc

within_ok : (p : Piece) (r : Result Token TextCause) (t : Token) → within p r ≡ Ok t → (r ≡ Ok t) × (p.at + length p.bytes ≤ LONGEST_PROGRAM)
within_ok p (Err e) t h = absurd cc
within_ok p (Ok x) t h = by_end (leb (p.at + length p.bytes) LONGEST_PROGRAM) refl
  where
    by_end : (u : Bool) → leb (p.at + length p.bytes) LONGEST_PROGRAM ≡ u → (◌≡◌ {A = Result Token TextCause} (Ok x) (Ok t)) × (p.at + length p.bytes ≤ LONGEST_PROGRAM)
    by_end true f = (sym (rw f refl) ∙ h, leb-true (p.at + length p.bytes) LONGEST_PROGRAM f)
    by_end false f =
        let is : within p (Ok x) ≡ Err cause.TooMany = rw f refl in
        absurd (cc (is, h))

pub is_within : (p : Piece) (r : Result Token TextCause) (t : Token) → r ≡ Ok t → p.at + length p.bytes ≤ LONGEST_PROGRAM → within p r ≡ Ok t
is_within p r t h le =
    let f : leb (p.at + length p.bytes) LONGEST_PROGRAM ≡ true = le-leb (p.at + length p.bytes) LONGEST_PROGRAM le in
    let is : within p (Ok t) ≡ Ok t = rw f refl in
    ap (within p) h ∙ is

-- ---- piece by piece

clean_pieces : (source : List ℕ) (ps : List Piece) (end : ℕ) (last : List ℕ) → Spaced end last ps → (tokens_in source ps).stop ≡ None → AllByRecursion IsClean (map bytes_of ps)
clean_pieces source [] end last s h = tt
clean_pieces source (p ∷ ps) end last s h =
    let r = all_read p.at (token_at source p) (tokens_in source ps) h in
    let w = within_ok p (token_in (line_at source p.at) p.bytes) r.0 r.1 in
    (token_clean (line_at source p.at) p.bytes r.0 s.1 w.0, clean_pieces source ps (p.at + length p.bytes) p.bytes s.2 r.2)

printed_pieces : (source : List ℕ) (ps : List Piece) (end : ℕ) (last : List ℕ) → Spaced end last ps → (tokens_in source ps).stop ≡ None → AllByRecursion IsPrinted (map bytes_of ps)
printed_pieces source [] end last s h = tt
printed_pieces source (p ∷ ps) end last s h =
    let r = all_read p.at (token_at source p) (tokens_in source ps) h in
    let w = within_ok p (token_in (line_at source p.at) p.bytes) r.0 r.1 in
    (token_printed (line_at source p.at) p.bytes r.0 s.1 w.0, printed_pieces source ps (p.at + length p.bytes) p.bytes s.2 r.2)

bytes_of_tokens : (source : List ℕ) (ps : List Piece) → (tokens_in source ps).stop ≡ None → map token_bytes (tokens_in source ps).tokens ≡ map bytes_of ps
bytes_of_tokens source [] h = refl
bytes_of_tokens source (p ∷ ps) h =
    let r = all_read p.at (token_at source p) (tokens_in source ps) h in
    let w = within_ok p (token_in (line_at source p.at) p.bytes) r.0 r.1 in
    let bytes = (token_told (line_at source p.at) p.bytes r.0 w.0).0 in
    let here : map token_bytes (tokens_in source (p ∷ ps)).tokens ≡ token_bytes r.0 ∷ map token_bytes (tokens_in source ps).tokens =
    ap (λ (x : Result Token TextCause). map token_bytes (onto p.at x (tokens_in source ps)).tokens) r.1 in
    here ∙ ap (λ (x : List (List ℕ)). token_bytes r.0 ∷ x) (bytes_of_tokens source ps r.2) ∙ ap (λ (x : List ℕ). x ∷ map bytes_of ps) (sym bytes)

carried : (source text : List ℕ) (ps : List Piece) (end : ℕ) (last : List ℕ) (begun : ℕ) → Spaced end last ps → begun ≤ end → (tokens_in source ps).stop ≡ None → ((at : ℕ) → line_at text at ≡ 1)
    → ((tokens_in text (placed begun last (map bytes_of ps))).stop ≡ None) × ((tokens_in text (placed begun last (map bytes_of ps))).tokens ≡ map in_first_line (tokens_in source ps).tokens)
carried source text [] end last begun s le h line = (refl, refl)
carried source text (p ∷ ps) end last begun s le h line =
    let r = all_read p.at (token_at source p) (tokens_in source ps) h in
    let w = within_ok p (token_in (line_at source p.at) p.bytes) r.0 r.1 in
    let room = s.0 in
    let short = w.1 in
    let at : ℕ = begun + gap last p.bytes in
    let q : Piece = record { at = begun + gap last p.bytes; bytes = p.bytes } in
    let first : token_in (line_at text at) p.bytes ≡ Ok (in_first_line r.0) = subst (λ (n : ℕ). token_in n p.bytes ≡ Ok (in_first_line r.0)) (sym (line at)) (token_told (line_at source p.at) p.bytes r.0 w.0).1 in
    let here : token_at text q ≡ Ok (in_first_line r.0) = is_within q (token_in (line_at text at) p.bytes) (in_first_line r.0) first (omega arith) in
    let rest = carried source text ps (p.at + length p.bytes) p.bytes (begun + gap last p.bytes + length p.bytes) s.2 (omega arith) r.2 line in
    let behind_it : Tokens = tokens_in text (placed (begun + gap last p.bytes + length p.bytes) p.bytes (map bytes_of ps)) in
    let source_tokens : map in_first_line (tokens_in source (p ∷ ps)).tokens ≡ in_first_line r.0 ∷ map in_first_line (tokens_in source ps).tokens =
    ap (λ (x : Result Token TextCause). map in_first_line (onto p.at x (tokens_in source ps)).tokens) r.1 in (
      ap (λ (x : Result Token TextCause). (onto at x behind_it).stop) here ∙ rest.0,
      ap (λ (x : Result Token TextCause). (onto at x behind_it).tokens) here ∙ ap (λ (x : List Token). in_first_line r.0 ∷ x) rest.1 ∙ sym source_tokens,
    )

-- ---- the whole text

pub written_text : (ts : List Token) (w : Written) → (with_tokens w ts).text ≡ w.text ++ behind w.last (map token_bytes ts)
written_text [] w = sym (append-nil w.text)
written_text (t ∷ ts) w =
    written_text ts (with_piece w (token_bytes t)) ∙ append_assoc w.text (parted w.last (token_bytes t)) (behind (token_bytes t) (map token_bytes ts))

pub read_back : (source : List ℕ) → stop source ≡ None → IsReadBack (with_tokens nothing_written (tokens source)).text (tokens source)
read_back source h =
    let ws : List (List ℕ) = map bytes_of (pieces source) in
    let spaced = pieces_spaced source in
    let text : List ℕ = behind [] (map bytes_of (pieces source)) in
    let printed : IsPrinted (behind [] (map bytes_of (pieces source))) = behind_printed (map bytes_of (pieces source)) [] (printed_pieces source (pieces source) 0 [] spaced h) in
    let cut : pieces (behind [] (map bytes_of (pieces source))) ≡ placed 0 [] (map bytes_of (pieces source)) = behind_read (map bytes_of (pieces source)) [] 0 (clean_pieces source (pieces source) 0 [] spaced h) in
    let seen = carried source (behind [] (map bytes_of (pieces source))) (pieces source) 0 [] 0 spaced (omega arith) h (λ at. first_line (behind [] (map bytes_of (pieces source))) at printed) in
    let is : (with_tokens nothing_written (tokens source)).text ≡ behind [] (map bytes_of (pieces source)) =
    written_text (tokens source) nothing_written ∙ ap (behind []) (bytes_of_tokens source (pieces source) h) in
    let all : IsReadBack (behind [] (map bytes_of (pieces source))) (tokens source) = record {
      whole = ap (λ (ps : List Piece). (tokens_in (behind [] (map bytes_of (pieces source))) ps).stop) cut ∙ seen.0;
      same = ap (λ (ps : List Piece). (tokens_in (behind [] (map bytes_of (pieces source))) ps).tokens) cut ∙ seen.1;
      ascii = printed_ascii (behind [] (map bytes_of (pieces source))) printed;
    } in
    subst (λ (x : List ℕ). IsReadBack x (tokens source)) (sym is) all
