-- Which words are names, and which tokens a text may have.
use Rattle.std.specs.Prelude.{◌≡◌, ℕ, ◌<◌, ◌≤◌, ◌^◌, IsTrue, false, List, ◌∷◌, ◌++◌, length, take, map, codes, ⊤}
use Rattle.std.specs.List.{list_all, list_any}
use Rattle.std.specs.Str.{bytes_eq}
use Rattle.aml_tokens.specs.declared.limits.TheConstants.{LONGEST_NAME}
use Rattle.aml_tokens.specs.Token.{Token, Name, Number, Field, Sign, Let, CloseBrace}
use Rattle.aml_tokens.specs.Bytes.{is_letter, is_word_byte, symbol_bytes, keywords}
use Rattle.aml_tokens.specs.Lexing.{field_words}

-- the keywords, the fields
abbrev pub reserved : List (List ℕ)
reserved = codes "let" ∷ (map symbol_bytes keywords ++ field_words)

-- a letter or '_', then letters, digits and '_', not too long, and no keyword or field
pub record IsName (name : List ℕ) : Type 0 where
  pub first : IsTrue (list_any is_letter (take 1 name))
  pub bytes : IsTrue (list_all is_word_byte name)
  pub short : length name ≤ LONGEST_NAME
  pub free : list_any (λ (word : List ℕ). bytes_eq word name) reserved ≡ false

-- a token that a text may have
abbrev pub IsToken : Token → Type 0
IsToken (Name w) = IsName w.name
IsToken (Number n) = n < 2 ^ 63
IsToken (Field k line) = k < length field_words
IsToken (Sign s) = ⊤
IsToken (Let line) = ⊤
IsToken (CloseBrace line) = ⊤
