-- What names stand for: a variable for its place among those that are visible, a method for its place
-- in the program.
use Rattle.std.specs.Prelude.{ℕ, ◌+◌, if◌then◌else◌, List, [], ◌∷◌, ◌++◌, length, map, Option, Some, None, unwrap_or}
use Rattle.std.specs.Str.{bytes_eq}
use Rattle.aml_tokens.specs.declared.tokens.Word.{Word}
use Rattle.aml_tree.specs.Tree.{Expr, Code, End, Let, Call, Set, SetField, If, IfElse, While, Fail, Return, TextMethod, CheckedMethod, renamed_expression}
use Rattle.aml_check.specs.Names.{method_names, counted_from}

-- ---- names

abbrev pub names_of : List Word → List (List ℕ)
names_of ws = map (λ (w : Word). w.name) ws

-- the first place of a name, counted from a number on
abbrev pub place_from : ℕ → List (List ℕ) → List ℕ → Option ℕ
place_from k [] name = None
place_from k (n ∷ ns) name = if bytes_eq n name then Some k else place_from (k + 1) ns name

abbrev pub place_of : List (List ℕ) → List ℕ → Option ℕ
place_of names name = place_from 0 names name

-- ---- the program with places for names

-- methods, the names of the program's methods; names, the visible variables in their order
abbrev pub placed : List (List ℕ) → Word → ℕ
placed names w = unwrap_or (place_of names w.name) (length names)

abbrev pub checked_expression : List (List ℕ) → Expr Word → Expr ℕ
checked_expression names e = renamed_expression (placed names) e

-- a new variable comes behind those that are visible, and is visible up to the end of its block
abbrev pub checked_block : List (List ℕ) → List (List ℕ) → Code Word Word → Code ℕ ℕ
checked_block methods names (End line) = End line
checked_block methods names (Let line v value rest) = Let line (length names) (checked_expression names value) (checked_block methods (names ++ v.name ∷ []) rest)
checked_block methods names (Call line v target m arguments rest) =
    Call line (length names) (checked_expression names target) (placed methods m) (map (checked_expression names) arguments) (checked_block methods (names ++ v.name ∷ []) rest)
checked_block methods names (Set v value rest) = Set (placed names v) (checked_expression names value) (checked_block methods names rest)
checked_block methods names (SetField line k value rest) = SetField line k (checked_expression names value) (checked_block methods names rest)
checked_block methods names (If condition first rest) = If (checked_expression names condition) (checked_block methods names first) (checked_block methods names rest)
checked_block methods names (IfElse condition first other rest) =
    IfElse (checked_expression names condition) (checked_block methods names first) (checked_block methods names other) (checked_block methods names rest)
checked_block methods names (While condition body rest) = While (checked_expression names condition) (checked_block methods names body) (checked_block methods names rest)
checked_block methods names (Fail code rest) = Fail code (checked_block methods names rest)
checked_block methods names (Return value rest) = Return (checked_expression names value) (checked_block methods names rest)

abbrev pub checked_method : List (List ℕ) → TextMethod → CheckedMethod
checked_method methods m = record { is_read = m.is_read; name = m.name; parameters = counted_from 0 m.parameters; body = checked_block methods (names_of m.parameters) m.body }

abbrev pub checked_program : List TextMethod → List CheckedMethod
checked_program p = map (checked_method (method_names p)) p
