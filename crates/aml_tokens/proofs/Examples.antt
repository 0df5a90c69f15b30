-- Short texts, and the tokens that they are cut into: what the definitions say, evaluated.
use Rattle.std.proofs.Common.{◌≡◌, ℕ, List, [], ◌∷◌, Some, None, codes, refl}
use Rattle.aml_tokens.specs.declared.tokens.Symbol.TheVariants as symbol
use Rattle.aml_tokens.specs.declared.tokens.TextCause.TheVariants as cause
use Rattle.aml_tokens.specs.Token.{Name, Number, Field, Sign, Let, CloseBrace}
use Rattle.aml_tokens.specs.Lexing.{tokens, stop, lexed, line_at, column_at}

-- three signs of '=' are two tokens, and '<' before '=' is one with it
three_equals : tokens (codes "a===b<=1") ≡ Name (record { name = codes "a"; line = 1 }) ∷ Sign symbol.Equal ∷ Sign symbol.Assign ∷ Name (record { name = codes "b"; line = 1 }) ∷ Sign symbol.LessOrEqual ∷ Number 1 ∷ []
three_equals = refl

-- fields, a name that is none, a keyword, and a comment up to the line's end
fields_and_words : lexed (codes "f15 f16#x!\n\tself }") ≡ record {
  tokens = Field 15 1 ∷ Name (record { name = codes "f16"; line = 1 }) ∷ Sign symbol.Own ∷ CloseBrace 2 ∷ [];
  places = 0 ∷ 4 ∷ 12 ∷ 17 ∷ [];
  stop = None;
}
fields_and_words = refl

number_before_letter : lexed (codes "1 12a") ≡ record { tokens = Number 1 ∷ []; places = 0 ∷ []; stop = Some (2, cause.BadToken) }
number_before_letter = refl

leading_zero : stop (codes "x 007") ≡ Some (2, cause.BadToken)
leading_zero = refl

largest : tokens (codes "9223372036854775807") ≡ Number 9223372036854775807 ∷ []
largest = refl

too_large : stop (codes "9223372036854775808") ≡ Some (0, cause.NumberRange)
too_large = refl

alone : stop (codes "a ! =") ≡ Some (2, cause.BadToken)
alone = refl

-- `let` and a field tell their lines
lets_and_fields : tokens (codes "let\nf0 letter") ≡ Let 1 ∷ Field 0 2 ∷ Name (record { name = codes "letter"; line = 2 }) ∷ []
lets_and_fields = refl

-- a carriage return is no blank
carriage_return : stop (97 ∷ 13 ∷ 10 ∷ []) ≡ Some (1, cause.BadByte)
carriage_return = refl

-- the line and the column of a place, from 1 on; a column counts bytes
abbrev at : List ℕ → ℕ → ℕ × ℕ
at text place = (line_at text place, column_at text place)

places_of_text : (at (codes "a\nbc") 1 ≡ (1, 2)) × (at (codes "a\nbc") 2 ≡ (2, 1)) × (at (codes "a\nbc") 4 ≡ (2, 3)) × (at (codes "a\nbc") 9 ≡ (2, 3))
places_of_text = (refl, refl, refl, refl)

places_elsewhere : (at [] 0 ≡ (1, 1)) × (at (codes "ab") 1 ≡ (1, 2)) × (at (195 ∷ 164 ∷ 120 ∷ 10 ∷ []) 2 ≡ (1, 3))
places_elsewhere = (refl, refl, refl)
