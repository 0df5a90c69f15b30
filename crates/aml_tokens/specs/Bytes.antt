-- Which bytes and which words have a meaning.
use Rattle.std.specs.Prelude.{ℕ, nat_le, ◌==◌, ◌&&◌, ◌||◌, Bool, List, [], ◌∷◌, codes}
use Rattle.aml_tokens.specs.declared.tokens.Symbol.{Symbol}
use Rattle.aml_tokens.specs.declared.tokens.Symbol.TheVariants as symbol

abbrev pub is_letter : ℕ → Bool
is_letter b = (nat_le 97 b && nat_le b 122) || (nat_le 65 b && nat_le b 90) || (b == 95)

abbrev pub is_digit : ℕ → Bool
is_digit b = nat_le 48 b && nat_le b 57

-- a letter, '_' or a digit
abbrev pub is_word_byte : ℕ → Bool
is_word_byte b = is_letter b || is_digit b

-- a blank, a tab or a line's end
abbrev pub is_blank : ℕ → Bool
is_blank b = (b == 32) || (b == 9) || (b == 10)

-- '=', '!', '<' or '>', which make one sign with '=' behind them
abbrev pub begins_comparison : ℕ → Bool
begins_comparison b = (b == 61) || (b == 33) || (b == 60) || (b == 62)

-- how each keyword and each sign is written
abbrev pub symbol_bytes : Symbol → List ℕ
symbol_bytes symbol.Method = codes "method"
symbol_bytes symbol.Read = codes "read"
symbol_bytes symbol.If = codes "if"
symbol_bytes symbol.Else = codes "else"
symbol_bytes symbol.While = codes "while"
symbol_bytes symbol.Call = codes "call"
symbol_bytes symbol.Fail = codes "fail"
symbol_bytes symbol.Return = codes "return"
symbol_bytes symbol.Own = codes "self"
symbol_bytes symbol.And = codes "and"
symbol_bytes symbol.Or = codes "or"
symbol_bytes symbol.Open = codes "("
symbol_bytes symbol.Close = codes ")"
symbol_bytes symbol.OpenBrace = codes "{"
symbol_bytes symbol.Comma = codes ","
symbol_bytes symbol.Semicolon = codes ";"
symbol_bytes symbol.Assign = codes "="
symbol_bytes symbol.Equal = codes "=="
symbol_bytes symbol.NotEqual = codes "!="
symbol_bytes symbol.Less = codes "<"
symbol_bytes symbol.LessOrEqual = codes "<="
symbol_bytes symbol.Greater = codes ">"
symbol_bytes symbol.GreaterOrEqual = codes ">="
symbol_bytes symbol.Plus = codes "+"
symbol_bytes symbol.Minus = codes "-"
symbol_bytes symbol.Times = codes "*"
symbol_bytes symbol.Over = codes "/"
symbol_bytes symbol.Remainder = codes "%"

-- but for `let`, which is a token of its own, as the closing brace is among the signs
abbrev pub keywords : List Symbol
keywords =
    symbol.Method ∷ symbol.Read ∷ symbol.If ∷ symbol.Else ∷ symbol.While ∷ symbol.Call ∷ symbol.Fail
    ∷ symbol.Return ∷ symbol.Own ∷ symbol.And ∷ symbol.Or ∷ []

abbrev pub signs : List Symbol
signs =
    symbol.Open ∷ symbol.Close ∷ symbol.OpenBrace ∷ symbol.Comma ∷ symbol.Semicolon ∷ symbol.Assign ∷ symbol.Equal ∷ symbol.NotEqual
    ∷ symbol.Less ∷ symbol.LessOrEqual ∷ symbol.Greater ∷ symbol.GreaterOrEqual ∷ symbol.Plus ∷ symbol.Minus ∷ symbol.Times
    ∷ symbol.Over ∷ symbol.Remainder ∷ []
