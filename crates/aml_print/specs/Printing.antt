-- Only private contracts cite this; the rule is `program_spelling` of aml_tree/specs/Grammar.antt.
-- What a writer holds once tokens are written behind what it held.
use Rattle.std.specs.Prelude.{◌≡◌, ℕ, ◌==◌, if◌then◌else◌, List, [], ◌∷◌}
use Rattle.std.specs.List.{flat_map}
use Rattle.aml_tokens.specs.declared.tokens.Word.{Word}
use Rattle.aml_tokens.specs.declared.tokens.Symbol.TheVariants as symbol
use Rattle.aml_tokens.specs.Token.{Token}
use Rattle.aml_tokens.specs.Token as token
use Rattle.aml_tokens.specs.Writing.{Written, with_tokens}
use Rattle.aml_tree.specs.declared.trees.Link.{Link}
use Rattle.aml_tree.specs.Tree.{Expr, Code, Onto}
use Rattle.aml_tree.specs.Grammar.{sign, spelling, block_spelling}

unfoldable pub after : Written → List Token → Written
after held ts = with_tokens held ts

-- further operands, each behind its operator
abbrev pub links_spelling : List (Link (Expr Word)) → List Token
links_spelling ls = flat_map (λ l. token.Sign (sign l.operator) ∷ spelling l.operand) ls

-- the comma before an element with so many before it
abbrev pub comma_before : ℕ → List Token
comma_before before = if before == 0 then [] else token.Sign symbol.Comma ∷ []

-- the tokens of a statement, whatever stands behind it in its block
abbrev pub WritesTokens : Written → Written → Onto Word Word → Type 0
WritesTokens old new statement = (rest : Code Word Word) → after old (block_spelling (statement rest)) ≡ after new (block_spelling rest)
