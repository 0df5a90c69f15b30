-- Which texts are programs.
use Rattle.std.specs.Prelude.{◌≡◌, ℕ, List, None}
use Rattle.std.specs.List.{AllByRecursion}
use Rattle.aml_tokens.specs.Lexing.{tokens, stop}
use Rattle.aml_tree.specs.Tree.{TextMethod, bare}
use Rattle.aml_tree.specs.Grammar.{program_spelling, IsGrammatical}
use Rattle.aml_tree.specs.Limits.{Mark, program_marks}

abbrev pub IsUnmarked : Mark → Type 0
IsUnmarked mark = mark ≡ None

-- a tree of the grammar that passes no limit
pub record IsProgram (p : List TextMethod) : Type 0 where
  pub grammar : IsGrammatical p
  pub limits : AllByRecursion IsUnmarked (program_marks p)

-- The text is the program's: each piece of it is a token, and the tokens are the program's spelling.
-- So are the lines of names, fields, `let` and closing braces, which the tokens have.
pub record IsProgramText (text : List ℕ) (p : List TextMethod) : Type 0 where
  pub whole : stop text ≡ None
  pub spelled : tokens text ≡ program_spelling p
  pub program : IsProgram p

-- the text is one of the same program, but for the lines
abbrev pub IsTextOfProgram : List ℕ → List TextMethod → Type 0
IsTextOfProgram text p = (q : List TextMethod) × IsProgramText text q × (bare q ≡ bare p)
