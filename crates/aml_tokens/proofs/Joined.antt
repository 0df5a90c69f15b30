-- Tokens before those of the rest of a text.
use Rattle.std.proofs.Common.{◌≡◌, ℕ, ◌+◌, ◌≤◌, ◌==◌, cond, List, [], ◌∷◌, ◌++◌, length, take, drop, Ok, Err, Some, Result, refl, ap, sym, subst, ◌∙◌, arith}
use Rattle.std.specs.List.{between, count_by}
use Rattle.std.proofs.lemmas.List.{append-nil, append_assoc, take_at, length-append, length-take}
use Rattle.std.proofs.lemmas.List.Edits.{split_between, length-between}
use Rattle.std.proofs.lemmas.List.Sums.{sum_by-append}
use Rattle.aml_tokens.specs.declared.tokens.TextCause.{TextCause}
use Rattle.aml_tokens.specs.Token.{Token}
use Rattle.aml_tokens.specs.Lexing.{Tokens, Piece, onto, within, token_in, tokens_in, line_at}
use Rattle.aml_tokens.specs.Reading.{pieces_at}

abbrev pub joined : List Token → List ℕ → Tokens → Tokens
joined ts ps rest = record { tokens = ts ++ rest.tokens; places = ps ++ rest.places; stop = rest.stop }

-- what the next piece gives
read_next : (text : List ℕ) (at : ℕ) (bytes : List ℕ) (more : List Piece) (line : ℕ) (r : Result Token TextCause) → line ≡ line_at text at
    → r ≡ within (record { at = at; bytes = bytes }) (token_in line bytes) → tokens_in text (record { at = at; bytes = bytes } ∷ more) ≡ onto at r (tokens_in text more)
read_next text at bytes more line r place is =
    let here : within (record { at = at; bytes = bytes }) (token_in (line_at text at) bytes) ≡ r = subst (λ (n : ℕ). within (record { at = at; bytes = bytes }) (token_in n bytes) ≡ r) place (sym is) in
    ap (λ (x : Result Token TextCause). onto at x (tokens_in text more)) here

pub stops_at : (text : List ℕ) (ts : List Token) (ps : List ℕ) (at : ℕ) (bytes : List ℕ) (more : List Piece) (line : ℕ) (cause : TextCause) → line ≡ line_at text at
    → Err cause ≡ within (record { at = at; bytes = bytes }) (token_in line bytes) → pieces_at text at ≡ record { at = at; bytes = bytes } ∷ more
    → joined ts ps (tokens_in text (pieces_at text at)) ≡ record { tokens = ts; places = ps; stop = Some (at, cause) }
stops_at text ts ps at bytes more line cause place is next =
    let here : tokens_in text (pieces_at text at) ≡ record { tokens = []; places = []; stop = Some (at, cause) } = ap (tokens_in text) next ∙ read_next text at bytes more line (Err cause) place is in
    ap (joined ts ps) here ∙ rw (append-nil ts, append-nil ps) refl

pub goes_past : (text : List ℕ) (ts : List Token) (ps : List ℕ) (at : ℕ) (bytes : List ℕ) (more : List Piece) (line : ℕ) (token : Token) → line ≡ line_at text at
    → Ok token ≡ within (record { at = at; bytes = bytes }) (token_in line bytes) → pieces_at text at ≡ record { at = at; bytes = bytes } ∷ more
    → joined ts ps (tokens_in text (pieces_at text at)) ≡ joined (ts ++ token ∷ []) (ps ++ at ∷ []) (tokens_in text more)
goes_past text ts ps at bytes more line token place is next =
    let here : tokens_in text (pieces_at text at) ≡ onto at (Ok token) (tokens_in text more) = ap (tokens_in text) next ∙ read_next text at bytes more line (Ok token) place is in
    ap (joined ts ps) here ∙ simp append_assoc

pub more_lines : (text : List ℕ) (counted at lines more : ℕ) → counted ≤ at → lines ≡ count_by (λ b. b == 10) (take counted text) → more ≡ count_by (λ b. b == 10) (between counted at text)
    → at ≤ length text → lines + more ≡ count_by (λ b. b == 10) (take at text)
more_lines text counted at lines more order before behind fits =
    let split : text ≡ take counted text ++ (between counted at text ++ drop at text) = split_between text counted at order in
    let len : length (take counted text ++ between counted at text) ≡ at = omega (arith, length-append (take counted text) (between counted at text), length-take counted text, length-between text counted at fits) in
    let front : take at text ≡ take counted text ++ between counted at text =
    ap (take at) (split ∙ sym (append_assoc (take counted text) (between counted at text) (drop at text))) ∙ take_at (take counted text ++ between counted at text) (drop at text) at len in
    let sum : count_by (λ b. b == 10) (take at text) ≡ count_by (λ b. b == 10) (take counted text) + count_by (λ b. b == 10) (between counted at text) =
    ap (count_by (λ b. b == 10)) front ∙ sum_by-append (λ b. cond (b == 10) 1 0) (take counted text) (between counted at text) in
    cc

pub one_more : (text : List ℕ) (ts grown : List Token) (ps places : List ℕ) (whole : Tokens) (at next : ℕ) (bytes : List ℕ) (more : List Piece) (line : ℕ) (token : Token) → line ≡ line_at text at
    → Ok token ≡ within (record { at = at; bytes = bytes }) (token_in line bytes) → pieces_at text at ≡ record { at = at; bytes = bytes } ∷ more
    → grown ≡ ts ++ token ∷ [] → places ≡ ps ++ at ∷ [] → pieces_at text next ≡ more → joined ts ps (tokens_in text (pieces_at text at)) ≡ whole
    → joined grown places (tokens_in text (pieces_at text next)) ≡ whole
one_more text ts grown ps places whole at next bytes more line token place is here more_tokens more_places rest all =
    let past = sym (goes_past text ts ps at bytes more line token place is here) ∙ all in
    let a = subst (λ (x : List Piece). joined (ts ++ token ∷ []) (ps ++ at ∷ []) (tokens_in text x) ≡ whole) (sym rest) past in
    let b = subst (λ (x : List ℕ). joined (ts ++ token ∷ []) x (tokens_in text (pieces_at text next)) ≡ whole) (sym more_places) a in
    subst (λ (x : List Token). joined x places (tokens_in text (pieces_at text next)) ≡ whole) (sym more_tokens) b
