-- The tokens of a text: a name is one of the grammar, a number and a field are within their ranges.
use Rattle.std.proofs.Common.{◌≡◌, ℕ, ◌+◌, ◌<◌, ◌^◌, nat_lt, nat_le, ◌==◌, ◌&&◌, ◌||◌, Bool, true, false, if◌then◌else◌, map, List, [], ◌∷◌, ◌++◌, length, Option, Some, None, Result, Ok, Err, codes, refl, sym, ap, ◌∙◌, inl, inr, arith, rules, tests}
use Rattle.std.proofs.lemmas.Slice.Eq.{bytes_eq-Decides}
use Rattle.std.proofs.lemmas.List.Folds.{list_all-append, list_any-append}
use Rattle.std.specs.List.{AllByRecursion, list_all, list_any}
use Rattle.std.specs.Str.{bytes_eq}
use Rattle.std.specs.Str.Parse.{digits_value}
use Rattle.std.proofs.lemmas.Bool.{cases_Bool, or_cases, and_parts, and_from, or_from}
use Rattle.aml_tokens.specs.Names.{IsToken}
use Rattle.aml_tokens.specs.declared.tokens.Symbol.{Symbol}
use Rattle.aml_tokens.specs.declared.tokens.TextCause.{TextCause}
use Rattle.aml_tokens.specs.declared.tokens.TextCause.TheVariants.{BadByte, BadToken, NumberRange, TooMany}
use Rattle.aml_tokens.specs.Bytes.{is_letter, is_digit, is_word_byte, is_blank, begins_comparison, symbol_bytes, keywords, signs}
use Rattle.aml_tokens.specs.Token.{Token, Name, Number, Field, Sign, Let, CloseBrace}
use Rattle.aml_tokens.specs.Lexing.{Piece, joins, piece_ended, pieces_from, pieces, without_comments, symbol_of, field_of, field_words, is_plain, number_token, either, word_token, sign_token, token_in, within, token_at, onto, tokens_in, tokens, places, Tokens, line_at}

-- ---- tests

is_same : (a b : ℕ) → (a == b) ≡ true → a ≡ b
is_same a b e = search (rules, tests)

no_both : (b : Bool) → b ≡ true → b ≡ false → ⊥
no_both b x y = absurd cc

-- ---- pieces that begin with a byte of words

no_comparison : (c : ℕ) → begins_comparison c ≡ true → is_word_byte c ≡ false
no_comparison c e =
    elim (or_cases (((c == 61) || (c == 33)) || (c == 60)) (c == 62) e) [
      | inr h ↦ ap is_word_byte (is_same c 62 h)
      | inl e ↦ elim (or_cases ((c == 61) || (c == 33)) (c == 60) e) [
        | inr h ↦ ap is_word_byte (is_same c 60 h)
        | inl e ↦ elim (or_cases (c == 61) (c == 33) e) [
          | inl h ↦ ap is_word_byte (is_same c 61 h)
          | inr h ↦ ap is_word_byte (is_same c 33 h)
        ]
      ]
    ]

abbrev IsRun : List ℕ → Type 0
IsRun [] = Unit {0}
IsRun (b ∷ bs) = is_word_byte b ≡ true → list_all is_word_byte (b ∷ bs) ≡ true

single_run : (b : ℕ) → IsRun (b ∷ [])
single_run b h = and_from (is_word_byte b) true h refl

joined_run : (bs : List ℕ) (b : ℕ) → IsRun bs → joins bs b ≡ true → IsRun (bs ++ b ∷ [])
joined_run [] b run e = absurd cc
joined_run (c ∷ []) b run e = λ h.
    elim (or_cases (is_word_byte c && is_word_byte b) (begins_comparison c && (b == 61)) e) [
      | inl words ↦ and_from (is_word_byte c) (is_word_byte b && true) h (and_from (is_word_byte b) true (and_parts (is_word_byte c) (is_word_byte b) words).1 refl)
      | inr sign ↦ absurd (no_both (is_word_byte c) h (no_comparison c (and_parts (begins_comparison c) (b == 61) sign).0))
    ]
joined_run (c ∷ d ∷ bs) b run e = λ h.
    list_all-append is_word_byte (c ∷ d ∷ bs) (b ∷ []) ∙ and_from (list_all is_word_byte (c ∷ d ∷ bs)) (is_word_byte b && true) (run h) (and_from (is_word_byte b) true (and_parts (is_word_byte c) (is_word_byte b) e).1 refl)

abbrev AreRuns : List Piece → Type 0
AreRuns ps = AllByRecursion (λ (p : Piece). IsRun p.bytes) ps

ended_runs : (at : ℕ) (bs : List ℕ) (ps : List Piece) → IsRun bs → AreRuns ps → AreRuns (piece_ended at bs ps)
ended_runs at [] ps run h = h
ended_runs at (c ∷ cs) ps run h = (run, h)

first_run : (blank : Bool) (b : ℕ) → IsRun (if blank then [] else b ∷ [])
first_run true b = tt
first_run false b = single_run b

pieces_runs : (at : ℕ) (bs text : List ℕ) → IsRun bs → AreRuns (pieces_from at bs text)
pieces_runs at bs [] run = ended_runs at bs [] run tt
pieces_runs at bs (b ∷ text) run =
    by (joins bs b) refl (λ h. pieces_runs (at + 1) (bs ++ b ∷ []) text h) (pieces_runs (at + 1) (if is_blank b then [] else b ∷ []) text (first_run (is_blank b) b))
  where
    by : (t : Bool) → joins bs b ≡ t → (IsRun (bs ++ b ∷ []) → AreRuns (pieces_from (at + 1) (bs ++ b ∷ []) text)) → AreRuns (pieces_from (at + 1) (if is_blank b then [] else b ∷ []) text)
        → AreRuns (if t then pieces_from (at + 1) (bs ++ b ∷ []) text else piece_ended at bs (pieces_from (at + 1) (if is_blank b then [] else b ∷ []) text))
    by true e on off = on (joined_run bs b run e)
    by false e on off = ended_runs at bs (pieces_from (at + 1) (if is_blank b then [] else b ∷ []) text) run off

-- ---- what a piece is

abbrev IsGood : Result Token TextCause → Type 0
IsGood (Ok t) = IsToken t
IsGood (Err c) = Unit {0}

good_number : (bytes : List ℕ) → IsGood (number_token bytes)
good_number bytes = by (is_plain bytes) (nat_lt (digits_value 10 bytes) (2 ^ 63)) refl
  where
    by : (p t : Bool) → nat_lt (digits_value 10 bytes) (2 ^ 63) ≡ t → IsGood (if p then (if t then Ok (Number (digits_value 10 bytes)) else Err NumberRange) else Err BadToken)
    by true true e = search (rules, tests)
    by true false e = tt
    by false t e = tt

differ : (a b : List ℕ) → bytes_eq a b ≡ false → bytes_eq b a ≡ false
differ a b e = elim (cases_Bool (bytes_eq b a)) [
  | inr other ↦ other
  | inl there ↦ absurd (no_both (bytes_eq a b) ((bytes_eq-Decides a b).1 (sym ((bytes_eq-Decides b a).0 there))) e)
]

no_keyword : (symbols : List Symbol) (bytes : List ℕ) → symbol_of symbols bytes ≡ None → list_any (λ (word : List ℕ). bytes_eq word bytes) (map symbol_bytes symbols) ≡ false
no_keyword [] bytes e = refl
no_keyword (s ∷ symbols) bytes e = by (bytes_eq bytes (symbol_bytes s)) refl e (no_keyword symbols bytes)
  where
    by : (t : Bool) → bytes_eq bytes (symbol_bytes s) ≡ t → (if t then Some s else symbol_of symbols bytes) ≡ None
        → (symbol_of symbols bytes ≡ None → list_any (λ (word : List ℕ). bytes_eq word bytes) (map symbol_bytes symbols) ≡ false) → list_any (λ (word : List ℕ). bytes_eq word bytes) (map symbol_bytes (s ∷ symbols)) ≡ false
    by true same none more = absurd cc
    by false other none more = or_from (bytes_eq (symbol_bytes s) bytes) (list_any (λ (word : List ℕ). bytes_eq word bytes) (map symbol_bytes symbols)) (differ bytes (symbol_bytes s) other) (more none)

no_field : (k : ℕ) (words : List (List ℕ)) (bytes : List ℕ) → field_of k words bytes ≡ None → list_any (λ (word : List ℕ). bytes_eq word bytes) words ≡ false
no_field k [] bytes e = refl
no_field k (word ∷ words) bytes e = by (bytes_eq bytes word) refl e (no_field (k + 1) words bytes)
  where
    by : (t : Bool) → bytes_eq bytes word ≡ t → (if t then Some k else field_of (k + 1) words bytes) ≡ None
        → (field_of (k + 1) words bytes ≡ None → list_any (λ (word : List ℕ). bytes_eq word bytes) words ≡ false) → list_any (λ (word : List ℕ). bytes_eq word bytes) (word ∷ words) ≡ false
    by true same none more = absurd cc
    by false other none more = or_from (bytes_eq word bytes) (list_any (λ (word : List ℕ). bytes_eq word bytes) words) (differ bytes word other) (more none)

some_field : (words : List (List ℕ)) (k f : ℕ) (bytes : List ℕ) → field_of k words bytes ≡ Some f → f < k + length words
some_field [] k f bytes e = absurd cc
some_field (word ∷ words) k f bytes e = by (bytes_eq bytes word) e (some_field words (k + 1) f bytes)
  where
    by : (t : Bool) → (if t then Some k else field_of (k + 1) words bytes) ≡ Some f → (field_of (k + 1) words bytes ≡ Some f → f < k + 1 + length words) → f < k + length (word ∷ words)
    by true e more = let same : k ≡ f = cc in omega (arith, same)
    by false e more = let lt = more e in omega (arith, lt)

or_true : (t : Bool) → t ≡ true → (t || false) ≡ true
or_true t e = rw e refl

good_word : (line b : ℕ) (bs : List ℕ) → IsRun (b ∷ bs) → is_letter b ≡ true → IsGood (word_token line (b ∷ bs))
good_word line b bs run letter = by (bytes_eq (b ∷ bs) (codes "let")) refl (symbol_of keywords (b ∷ bs)) refl (field_of 0 field_words (b ∷ bs)) refl (nat_le (length (b ∷ bs)) 32) refl
  where
    word_byte : is_word_byte b ≡ true
    word_byte = rw letter refl

    by : (l : Bool) → bytes_eq (b ∷ bs) (codes "let") ≡ l → (s : Option Symbol) → symbol_of keywords (b ∷ bs) ≡ s → (f : Option ℕ) → field_of 0 field_words (b ∷ bs) ≡ f → (t : Bool) → nat_le (length (b ∷ bs)) 32 ≡ t
        → IsGood (if l then Ok (Let line) else either s (λ s. Ok (Sign s)) (either f (λ k. Ok (Field k line)) (if t then Ok (Name (record { name = b ∷ bs; line = line })) else Err BadToken)))
    by true l s a f x t y = tt
    by false l (Some s) a f x t y = tt
    by false l None a (Some k) x t y = some_field field_words 0 k (b ∷ bs) x
    by false l None a None x false y = tt
    by false l None a None x true y = record {
      first = or_true (is_letter b) letter;
      bytes = run (rw letter refl);
      short = search (rules, tests);
      free = rw (differ (b ∷ bs) (codes "let") l) (list_any-append (λ (word : List ℕ). bytes_eq word (b ∷ bs)) (map symbol_bytes keywords) field_words
          ∙ or_from (list_any (λ (word : List ℕ). bytes_eq word (b ∷ bs)) (map symbol_bytes keywords)) (list_any (λ (word : List ℕ). bytes_eq word (b ∷ bs)) field_words) (no_keyword keywords (b ∷ bs) a) (no_field 0 field_words (b ∷ bs) x));
    }

good_sign : (line : ℕ) (bytes : List ℕ) → IsGood (sign_token line bytes)
good_sign line bytes = by (bytes_eq bytes (codes "}")) (symbol_of signs bytes) (bytes_eq bytes (codes "!"))
  where
    by : (brace : Bool) (s : Option Symbol) (bang : Bool) → IsGood (if brace then Ok (CloseBrace line) else either s (λ s. Ok (Sign s)) (if bang then Err BadToken else Err BadByte))
    by true s bang = tt
    by false (Some s) bang = tt
    by false None true = tt
    by false None false = tt

good_token : (line : ℕ) (bytes : List ℕ) → IsRun bytes → IsGood (token_in line bytes)
good_token line [] run = tt
good_token line (b ∷ bs) run = by (is_digit b) (is_letter b) refl
  where
    by : (digit letter : Bool) → is_letter b ≡ letter → IsGood (if digit then number_token (b ∷ bs) else (if letter then word_token line (b ∷ bs) else sign_token line (b ∷ bs)))
    by true letter e = good_number (b ∷ bs)
    by false true e = good_word line b bs run e
    by false false e = good_sign line (b ∷ bs)

good_within : (piece : Piece) (r : Result Token TextCause) → IsGood r → IsGood (within piece r)
good_within piece (Err c) h = tt
good_within piece (Ok t) h = by (nat_le (piece.at + length piece.bytes) 65536)
  where
    by : (b : Bool) → IsGood (if b then Ok t else Err TooMany)
    by true = h
    by false = tt

-- ---- the tokens of a text

onto_good : (at : ℕ) (r : Result Token TextCause) (behind : Tokens) → IsGood r → AllByRecursion IsToken behind.tokens → AllByRecursion IsToken (onto at r behind).tokens
onto_good at (Ok t) behind h more = (h, more)
onto_good at (Err c) behind h more = tt

pieces_good : (text : List ℕ) (ps : List Piece) → AreRuns ps → AllByRecursion IsToken (tokens_in text ps).tokens
pieces_good text [] runs = tt
pieces_good text (p ∷ ps) runs =
    onto_good p.at (token_at text p) (tokens_in text ps) (good_within p (token_in (line_at text p.at) p.bytes) (good_token (line_at text p.at) p.bytes runs.0)) (pieces_good text ps runs.1)

pub tokens_good : (text : List ℕ) → AllByRecursion IsToken (tokens text)
tokens_good text = pieces_good text (pieces text) (pieces_runs 0 [] (without_comments false text) tt)

onto_places : (at : ℕ) (r : Result Token TextCause) (behind : Tokens) → length behind.places ≡ length behind.tokens → length (onto at r behind).places ≡ length (onto at r behind).tokens
onto_places at (Ok t) behind same = omega (arith, same)
onto_places at (Err c) behind same = refl

pieces_places : (text : List ℕ) (ps : List Piece) → length (tokens_in text ps).places ≡ length (tokens_in text ps).tokens
pieces_places text [] = refl
pieces_places text (p ∷ ps) = onto_places p.at (token_at text p) (tokens_in text ps) (pieces_places text ps)

pub places_match : (text : List ℕ) → length (places text) ≡ length (tokens text)
places_match text = pieces_places text (pieces text)
