-- How tokens are written in one line: a blank stands only where two of them would make one piece.
use Rattle.std.specs.Prelude.{◌≡◌, ℕ, if◌then◌else◌, List, [], ◌∷◌, ◌++◌, map, None, slice_index, slice_index_or, codes}
use Rattle.std.specs.Fmt.{decimal}
use Rattle.std.specs.Str.{IsAscii}
use Rattle.aml_tokens.specs.Token.{Token, Name, Number, Field, Sign, Let, CloseBrace}
use Rattle.aml_tokens.specs.Bytes.{symbol_bytes}
use Rattle.aml_tokens.specs.Lexing.{joins, field_words, stop, tokens}

abbrev pub token_bytes : Token → List ℕ
token_bytes (Name w) = w.name
token_bytes (Number n) = decimal n
token_bytes (Field k line) = slice_index_or field_words k []
token_bytes (Sign s) = symbol_bytes s
token_bytes (Let line) = codes "let"
token_bytes (CloseBrace line) = codes "}"

-- a text, and the piece that was written last
pub record Written : Type 0 where
  pub text : List ℕ
  pub last : List ℕ

abbrev pub nothing_written : Written
nothing_written = record { text = []; last = [] }

abbrev pub parted : List ℕ → List ℕ → List ℕ
parted last piece = if joins last (slice_index piece 0) then 32 ∷ piece else piece

abbrev pub with_piece : Written → List ℕ → Written
with_piece w piece = record { text = w.text ++ parted w.last piece; last = piece }

abbrev pub with_tokens : Written → List Token → Written
with_tokens w [] = w
with_tokens w (t ∷ ts) = with_tokens (with_piece w (token_bytes t)) ts

-- a token as it is where all stand in the first line
abbrev pub in_first_line : Token → Token
in_first_line (Name w) = Name (record { name = w.name; line = 1 })
in_first_line (Number n) = Number n
in_first_line (Field k line) = Field k 1
in_first_line (Sign s) = Sign s
in_first_line (Let line) = Let 1
in_first_line (CloseBrace line) = CloseBrace 1

-- The text is whole, and has these tokens, with all in the first line.
pub record IsReadBack (text : List ℕ) (ts : List Token) : Type 0 where
  pub whole : stop text ≡ None
  pub same : tokens text ≡ map in_first_line ts
  pub ascii : IsAscii text
