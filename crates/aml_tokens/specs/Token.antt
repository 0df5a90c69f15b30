-- A token as definitions see it, and the tokens that values of the code are.
use Rattle.std.specs.Prelude.{ℕ, List, map}
use Rattle.aml_tokens.specs.declared.tokens.Word.{Word}
use Rattle.aml_tokens.specs.declared.tokens.Symbol.{Symbol}
use Rattle.aml_tokens.specs.declared.tokens.Token.TheVariants as token
use Rattle.aml_tokens.specs.declared.tokens.Token as code

-- a name, a field, `let` and a closing brace have their line, since a tree keeps it
pub data Token : Type 0 where
  Name : (w : Word) → Token
  Number : (n : ℕ) → Token
  Field : (k line : ℕ) → Token
  Sign : (s : Symbol) → Token
  Let : (line : ℕ) → Token
  CloseBrace : (line : ℕ) → Token

abbrev pub token_of : code.Token → Token
token_of (token.Name name line) = Name (record { name = name.now; line = line })
token_of (token.Number n) = Number n
token_of (token.Field k line) = Field k line
token_of (token.Symbol s) = Sign s
token_of (token.Let line) = Let line
token_of (token.CloseBrace line) = CloseBrace line

abbrev pub tokens_of : List code.Token → List Token
tokens_of ts = map token_of ts
