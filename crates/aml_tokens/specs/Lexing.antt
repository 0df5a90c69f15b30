-- How the bytes of a text make tokens, and where its first piece stands that is none.
use Rattle.std.specs.Prelude.{ℕ, ◌+◌, ◌-◌, ◌^◌, min, nat_lt, nat_le, ◌==◌, ◌&&◌, ◌||◌, Bool, true, false, if◌then◌else◌, List, [], ◌∷◌, ◌++◌, length, take, Option, Some, None, Result, Ok, Err, codes}
use Rattle.std.specs.List.{list_all, count_by}
use Rattle.std.specs.Str.{bytes_eq}
use Rattle.std.specs.Str.Parse.{digits_value}
use Rattle.aml_tokens.specs.declared.limits.TheConstants.{LONGEST_NAME, LONGEST_PROGRAM}
use Rattle.aml_tokens.specs.declared.tokens.Symbol.{Symbol}
use Rattle.aml_tokens.specs.declared.tokens.TextCause.{TextCause}
use Rattle.aml_tokens.specs.declared.tokens.TextCause.TheVariants.{BadByte, BadToken, NumberRange, TooMany}
use Rattle.aml_tokens.specs.Bytes.{is_letter, is_digit, is_word_byte, is_blank, begins_comparison, symbol_bytes, keywords, signs}
use Rattle.aml_tokens.specs.Token.{Token, Name, Number, Field, Sign, Let, CloseBrace}

-- ---- places

-- a number that a fault can tell
abbrev pub capped : ℕ → ℕ
capped n = min n (2 ^ 32 - 1)

abbrev pub line_at : List ℕ → ℕ → ℕ
line_at text at = capped (1 + count_by (λ b. b == 10) (take at text))

-- how many bytes stand behind the last line feed; n are behind it so far
abbrev pub behind_line_feed : ℕ → List ℕ → ℕ
behind_line_feed n [] = n
behind_line_feed n (b ∷ bs) = if b == 10 then behind_line_feed 0 bs else behind_line_feed (n + 1) bs

abbrev pub column_at : List ℕ → ℕ → ℕ
column_at text at = capped (1 + behind_line_feed 0 (take at text))

-- ---- pieces

-- The bytes with each comment blanked out, from its '#' up to the line's end; the first argument says
-- whether a comment is open before them.
abbrev pub without_comments : Bool → List ℕ → List ℕ
without_comments _ [] = []
without_comments true (b ∷ bs) = if b == 10 then 10 ∷ without_comments false bs else 32 ∷ without_comments true bs
without_comments false (b ∷ bs) = if b == 35 then 32 ∷ without_comments true bs else b ∷ without_comments false bs

pub record Piece : Type 0 where
  pub at : ℕ
  pub bytes : List ℕ

-- A byte goes on with the piece that is open before it: letters, digits and '_' with one that such a
-- byte begins, and '=' with one of the bytes = ! < > that stands alone.
abbrev pub joins : List ℕ → ℕ → Bool
joins [] b = false
joins (c ∷ []) b = (is_word_byte c && is_word_byte b) || (begins_comparison c && (b == 61))
joins (c ∷ d ∷ _) b = is_word_byte c && is_word_byte b

-- the piece that ends before a place, if one is open, and those behind it
abbrev pub piece_ended : ℕ → List ℕ → List Piece → List Piece
piece_ended at [] pieces = pieces
piece_ended at (c ∷ cs) pieces = record { at = at - length (c ∷ cs); bytes = c ∷ cs } ∷ pieces

-- The pieces of bytes that begin at a place, where a piece is open before them. Each is as long as it
-- can be, and no blank is in one.
abbrev pub pieces_from : ℕ → List ℕ → List ℕ → List Piece
pieces_from at front [] = piece_ended at front []
pieces_from at front (b ∷ bs) =
    if joins front b
    then pieces_from (at + 1) (front ++ b ∷ []) bs
    else piece_ended at front (pieces_from (at + 1) (if is_blank b then [] else b ∷ []) bs)

abbrev pub pieces : List ℕ → List Piece
pieces text = pieces_from 0 [] (without_comments false text)

-- ---- what a piece is

-- the first of the symbols that is written so
abbrev pub symbol_of : List Symbol → List ℕ → Option Symbol
symbol_of [] bytes = None
symbol_of (s ∷ symbols) bytes = if bytes_eq bytes (symbol_bytes s) then Some s else symbol_of symbols bytes

-- digits, of which the first is no zero unless it stands alone
abbrev pub is_plain : List ℕ → Bool
is_plain [] = false
is_plain (b ∷ []) = is_digit b
is_plain (b ∷ c ∷ bs) = list_all is_digit (b ∷ c ∷ bs) && (if b == 48 then false else true)

abbrev pub number_token : List ℕ → Result Token TextCause
number_token bytes =
    if is_plain bytes
    then (if nat_lt (digits_value 10 bytes) (2 ^ 63) then Ok (Number (digits_value 10 bytes)) else Err NumberRange)
    else Err BadToken

abbrev pub field_words : List (List ℕ)
field_words =
    codes "f0" ∷ codes "f1" ∷ codes "f2" ∷ codes "f3" ∷ codes "f4" ∷ codes "f5" ∷ codes "f6" ∷ codes "f7"
    ∷ codes "f8" ∷ codes "f9" ∷ codes "f10" ∷ codes "f11" ∷ codes "f12" ∷ codes "f13" ∷ codes "f14" ∷ codes "f15" ∷ []

-- the place in a list of words, counted from a number on, of the one that is written so
abbrev pub field_of : ℕ → List (List ℕ) → List ℕ → Option ℕ
field_of k [] bytes = None
field_of k (word ∷ words) bytes = if bytes_eq bytes word then Some k else field_of (k + 1) words bytes

-- what is made of a value, where there is one
abbrev pub either : {A B : Type 0} → Option A → (A → B) → B → B
either None some none = none
either (Some x) some none = some x

-- no keyword and no field is a name
abbrev pub word_token : ℕ → List ℕ → Result Token TextCause
word_token line bytes =
    if bytes_eq bytes (codes "let")
    then Ok (Let line)
    else either (symbol_of keywords bytes) (λ s. Ok (Sign s))
    (either (field_of 0 field_words bytes) (λ k. Ok (Field k line))
    (if nat_le (length bytes) LONGEST_NAME then Ok (Name (record { name = bytes; line = line })) else Err BadToken))

abbrev pub sign_token : ℕ → List ℕ → Result Token TextCause
sign_token line bytes =
    if bytes_eq bytes (codes "}")
    then Ok (CloseBrace line)
    else either (symbol_of signs bytes) (λ s. Ok (Sign s)) (if bytes_eq bytes (codes "!") then Err BadToken else Err BadByte)

abbrev pub token_in : ℕ → List ℕ → Result Token TextCause
token_in line [] = Err BadByte
token_in line (b ∷ bs) =
    if is_digit b then number_token (b ∷ bs) else (if is_letter b then word_token line (b ∷ bs) else sign_token line (b ∷ bs))

-- The token that a piece of a text is. It lies within the longest program.
abbrev pub within : Piece → Result Token TextCause → Result Token TextCause
within piece (Err cause) = Err cause
within piece (Ok token) = if nat_le (piece.at + length piece.bytes) LONGEST_PROGRAM then Ok token else Err TooMany

abbrev pub token_at : List ℕ → Piece → Result Token TextCause
token_at text piece = within piece (token_in (line_at text piece.at) piece.bytes)

-- ---- the tokens of a text up to the first piece that is none

pub record Tokens : Type 0 where
  pub tokens : List Token
  pub places : List ℕ
  pub stop : Option (ℕ × TextCause)

abbrev pub onto : ℕ → Result Token TextCause → Tokens → Tokens
onto at (Ok token) behind = record { tokens = token ∷ behind.tokens; places = at ∷ behind.places; stop = behind.stop }
onto at (Err cause) behind = record { tokens = []; places = []; stop = Some (at, cause) }

abbrev pub tokens_in : List ℕ → List Piece → Tokens
tokens_in text [] = record { tokens = []; places = []; stop = None }
tokens_in text (piece ∷ more) = onto piece.at (token_at text piece) (tokens_in text more)

abbrev pub lexed : List ℕ → Tokens
lexed text = tokens_in text (pieces text)

abbrev pub tokens : List ℕ → List Token
tokens text = (lexed text).tokens

abbrev pub places : List ℕ → List ℕ
places text = (lexed text).places

abbrev pub stop : List ℕ → Option (ℕ × TextCause)
stop text = (lexed text).stop
