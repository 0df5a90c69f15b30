-- The lines in a program: those of its words and fields, of the statements that have one, and of the braces
-- that close its blocks.
use Rattle.std.specs.Prelude.{ℕ, ◌≤◌, List, ⊤}
use Rattle.std.specs.List.{AllByRecursion}
use Rattle.aml_tokens.specs.declared.tokens.Word.{Word}
use Rattle.aml_tree.specs.Tree.{Expr, Number, Variable, Field, Own, Group, Negative, Binary, Code, End, Let, Call, Set, SetField, If, IfElse, While, Fail, Return, TextMethod}

abbrev pub WordUpTo : ℕ → Word → Type 0
WordUpTo most w = w.line ≤ most

abbrev pub ExpressionUpTo : ℕ → Expr Word → Type 0
ExpressionUpTo most (Number n) = ⊤
ExpressionUpTo most (Variable w) = WordUpTo most w
ExpressionUpTo most (Field k line) = line ≤ most
ExpressionUpTo most Own = ⊤
ExpressionUpTo most (Group e) = ExpressionUpTo most e
ExpressionUpTo most (Negative e) = ExpressionUpTo most e
ExpressionUpTo most (Binary o a b) = ExpressionUpTo most a × ExpressionUpTo most b

abbrev pub BlockUpTo : ℕ → Code Word Word → Type 0
BlockUpTo most (End line) = line ≤ most
BlockUpTo most (Let line v value rest) = (line ≤ most) × WordUpTo most v × ExpressionUpTo most value × BlockUpTo most rest
BlockUpTo most (Call line v target m arguments rest) =
    (line ≤ most) × WordUpTo most v × ExpressionUpTo most target × WordUpTo most m × AllByRecursion (ExpressionUpTo most) arguments × BlockUpTo most rest
BlockUpTo most (Set v value rest) = WordUpTo most v × ExpressionUpTo most value × BlockUpTo most rest
BlockUpTo most (SetField line k value rest) = (line ≤ most) × ExpressionUpTo most value × BlockUpTo most rest
BlockUpTo most (If condition first rest) = ExpressionUpTo most condition × BlockUpTo most first × BlockUpTo most rest
BlockUpTo most (IfElse condition first other rest) = ExpressionUpTo most condition × BlockUpTo most first × BlockUpTo most other × BlockUpTo most rest
BlockUpTo most (While condition body rest) = ExpressionUpTo most condition × BlockUpTo most body × BlockUpTo most rest
BlockUpTo most (Fail code rest) = BlockUpTo most rest
BlockUpTo most (Return value rest) = ExpressionUpTo most value × BlockUpTo most rest

pub record MethodUpTo (most : ℕ) (m : TextMethod) : Type 0 where
  pub name : WordUpTo most m.name
  pub parameters : AllByRecursion (WordUpTo most) m.parameters
  pub body : BlockUpTo most m.body

-- no line in the program is above this one
abbrev pub LinesUpTo : ℕ → List TextMethod → Type 0
LinesUpTo most p = AllByRecursion (MethodUpTo most) p
