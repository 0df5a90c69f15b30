-- The limits of a program. Beside the spelling of a tree stands, token by token, which limit is passed
-- with the token, if any: the marks of a tree have the length of its spelling.
use Rattle.std.specs.Prelude.{ℕ, ◌+◌, nat_lt, nat_le, ◌&&◌, Bool, true, false, if◌then◌else◌, List, [], ◌∷◌, ◌++◌, length, map, Option, Some, None}
use Rattle.aml_tokens.specs.declared.tokens.TextCause.{TextCause}
use Rattle.aml_tokens.specs.declared.tokens.TextCause.TheVariants.{NumberRange, TooDeep, TooMany}
use Rattle.aml_tree.specs.declared.limits.TheConstants.{GREATEST_CODE, MOST_LEVELS, MOST_METHODS, MOST_NAMES, MOST_PARAMETERS}
use Rattle.aml_tree.specs.Tree.{Expr, Number, Variable, Field, Own, Group, Negative, Binary, Code, End, Let, Call, Set, SetField, If, IfElse, While, Fail, Return, TextMethod}

abbrev pub Mark : Type 0
Mark = Option TextCause

-- a token that opens a level where so many are open: blocks, parentheses and signs together
abbrev pub opened : ℕ → Mark
opened depth = if nat_lt depth MOST_LEVELS then None else Some TooDeep

-- a parameter behind so many
abbrev pub parameter : ℕ → Mark
parameter before = if nat_lt before MOST_PARAMETERS then None else Some TooMany

-- a name that a method declares, its parameters among them, behind so many
abbrev pub named : ℕ → Mark
named before = if nat_lt before MOST_NAMES then None else Some TooMany

-- a method behind so many
abbrev pub method : ℕ → Mark
method before = if nat_lt before MOST_METHODS then None else Some TooMany

-- the code behind `fail`
abbrev pub code_mark : ℕ → Mark
code_mark code = if nat_le 1 code && nat_le code GREATEST_CODE then None else Some NumberRange

-- where so many levels are open
abbrev pub marks : {V : Type 0} → ℕ → Expr V → List Mark
marks depth (Number n) = None ∷ []
marks depth (Variable v) = None ∷ []
marks depth (Field k line) = None ∷ []
marks depth Own = None ∷ []
marks depth (Group e) = opened depth ∷ (marks (depth + 1) e ++ None ∷ [])
marks depth (Negative e) = opened depth ∷ marks (depth + 1) e
marks depth (Binary o a b) = marks depth a ++ None ∷ marks depth b

abbrev pub listed_marks : List (List Mark) → List Mark
listed_marks [] = []
listed_marks (first ∷ []) = first
listed_marks (first ∷ next ∷ more) = first ++ None ∷ listed_marks (next ∷ more)

-- how many names a block declares, those of its inner blocks too
abbrev pub lets : {V M : Type 0} → Code V M → ℕ
lets (End line) = 0
lets (Let line v value rest) = 1 + lets rest
lets (Call line v target m arguments rest) = 1 + lets rest
lets (Set v value rest) = lets rest
lets (SetField line k value rest) = lets rest
lets (If condition first rest) = lets first + lets rest
lets (IfElse condition first other rest) = lets first + lets other + lets rest
lets (While condition body rest) = lets body + lets rest
lets (Fail code rest) = lets rest
lets (Return value rest) = lets rest

-- where so many levels are open in the block, and so many names of the method are declared before it
abbrev pub block_marks : {V M : Type 0} → ℕ → ℕ → Code V M → List Mark
block_marks depth names (End line) = None ∷ []
block_marks depth names (Let line v value rest) = None ∷ named names ∷ None ∷ (marks depth value ++ None ∷ block_marks depth (names + 1) rest)
block_marks depth names (Call line v target m arguments rest) =
    None ∷ named names ∷ None ∷ None ∷ (marks depth target ++ None ∷ opened depth
    ∷ (listed_marks (map (marks (depth + 1)) arguments) ++ None ∷ None ∷ block_marks depth (names + 1) rest))
block_marks depth names (Set v value rest) = None ∷ None ∷ (marks depth value ++ None ∷ block_marks depth names rest)
block_marks depth names (SetField line k value rest) = None ∷ None ∷ (marks depth value ++ None ∷ block_marks depth names rest)
block_marks depth names (If condition first rest) =
    None ∷ (marks depth condition ++ opened depth ∷ (block_marks (depth + 1) names first ++ block_marks depth (names + lets first) rest))
block_marks depth names (IfElse condition first other rest) =
    None ∷ (marks depth condition ++ opened depth ∷ (block_marks (depth + 1) names first
    ++ None ∷ opened depth ∷ (block_marks (depth + 1) (names + lets first) other ++ block_marks depth (names + lets first + lets other) rest)))
block_marks depth names (While condition body rest) =
    None ∷ (marks depth condition ++ opened depth ∷ (block_marks (depth + 1) names body ++ block_marks depth (names + lets body) rest))
block_marks depth names (Fail code rest) = None ∷ code_mark code ∷ None ∷ block_marks depth names rest
block_marks depth names (Return value rest) = None ∷ (marks depth value ++ None ∷ block_marks depth names rest)

-- the parameters behind so many, each as a list of one mark
abbrev pub parameter_marks : {V : Type 0} → ℕ → List V → List (List Mark)
parameter_marks before [] = []
parameter_marks before (v ∷ vs) = (parameter before ∷ []) ∷ parameter_marks (before + 1) vs

-- the words with which a method behind so many begins
abbrev pub head_marks : Bool → ℕ → List Mark
head_marks true before = method before ∷ None ∷ []
head_marks false before = method before ∷ []

-- a method behind so many
abbrev pub method_marks : ℕ → TextMethod → List Mark
method_marks before m =
    head_marks m.is_read before ++ None ∷ opened 0 ∷ (listed_marks (parameter_marks 0 m.parameters) ++ None ∷ opened 0 ∷ block_marks 1 (length m.parameters) m.body)

abbrev pub methods_marks : ℕ → List TextMethod → List Mark
methods_marks before [] = []
methods_marks before (m ∷ ms) = method_marks before m ++ methods_marks (before + 1) ms

abbrev pub program_marks : List TextMethod → List Mark
program_marks p = methods_marks 0 p
