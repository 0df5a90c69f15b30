-- The grammar of the method language, without its limits: how a tree is spelled in tokens, and which
-- trees a program may be. Groups are part of a tree, so a program has one spelling.
use Rattle.std.specs.Prelude.{ℕ, ◌-◌, ◌<◌, ◌≤◌, ◌^◌, ◌==◌, Bool, true, false, if◌then◌else◌, List, [], ◌∷◌, ◌++◌, length, map, ⊤}
use Rattle.std.specs.List.{AllByRecursion, flat_map}
use Rattle.snap_base.specs.declared.transactions.TheConstants.{FIELDS}
use Rattle.aml_tokens.specs.declared.tokens.Word.{Word}
use Rattle.aml_tokens.specs.declared.tokens.Symbol.{Symbol}
use Rattle.aml_tokens.specs.declared.tokens.Symbol.TheVariants as symbol
use Rattle.aml_tokens.specs.Token.{Token}
use Rattle.aml_tokens.specs.Token as token
use Rattle.aml_tokens.specs.Names.{IsName}
use Rattle.aml_tree.specs.declared.trees.Operator.{Operator}
use Rattle.aml_tree.specs.declared.trees.Operator.TheVariants as operator
use Rattle.aml_tree.specs.Tree.{Expr, Number, Variable, Field, Own, Group, Negative, Binary, Code, End, Let, Call, Set, SetField, If, IfElse, While, Fail, Return, TextMethod}

-- ---- spelling: the tokens of a tree

abbrev pub sign : Operator → Symbol
sign operator.Or = symbol.Or
sign operator.And = symbol.And
sign operator.Equal = symbol.Equal
sign operator.NotEqual = symbol.NotEqual
sign operator.Less = symbol.Less
sign operator.LessOrEqual = symbol.LessOrEqual
sign operator.Greater = symbol.Greater
sign operator.GreaterOrEqual = symbol.GreaterOrEqual
sign operator.Plus = symbol.Plus
sign operator.Minus = symbol.Minus
sign operator.Times = symbol.Times
sign operator.Over = symbol.Over
sign operator.Remainder = symbol.Remainder

abbrev pub spelling : Expr Word → List Token
spelling (Number n) = token.Number n ∷ []
spelling (Variable w) = token.Name w ∷ []
spelling (Field k line) = token.Field k line ∷ []
spelling Own = token.Sign symbol.Own ∷ []
spelling (Group e) = token.Sign symbol.Open ∷ (spelling e ++ token.Sign symbol.Close ∷ [])
spelling (Negative e) = token.Sign symbol.Minus ∷ spelling e
spelling (Binary o a b) = spelling a ++ token.Sign (sign o) ∷ spelling b

-- lists of tokens with commas between them
abbrev pub listed : List (List Token) → List Token
listed [] = []
listed (first ∷ []) = first
listed (first ∷ next ∷ more) = first ++ token.Sign symbol.Comma ∷ listed (next ∷ more)

-- the statements of a block and its closing brace
abbrev pub block_spelling : Code Word Word → List Token
block_spelling (End line) = token.CloseBrace line ∷ []
block_spelling (Let line v value rest) =
    token.Let line ∷ token.Name v ∷ token.Sign symbol.Assign ∷ (spelling value ++ token.Sign symbol.Semicolon ∷ block_spelling rest)
block_spelling (Call line v target m arguments rest) =
    token.Let line ∷ token.Name v ∷ token.Sign symbol.Assign ∷ token.Sign symbol.Call ∷ (spelling target ++ token.Name m ∷ token.Sign symbol.Open
    ∷ (listed (map spelling arguments) ++ token.Sign symbol.Close ∷ token.Sign symbol.Semicolon ∷ block_spelling rest))
block_spelling (Set v value rest) = token.Name v ∷ token.Sign symbol.Assign ∷ (spelling value ++ token.Sign symbol.Semicolon ∷ block_spelling rest)
block_spelling (SetField line k value rest) = token.Field k line ∷ token.Sign symbol.Assign ∷ (spelling value ++ token.Sign symbol.Semicolon ∷ block_spelling rest)
block_spelling (If condition first rest) = token.Sign symbol.If ∷ (spelling condition ++ token.Sign symbol.OpenBrace ∷ (block_spelling first ++ block_spelling rest))
block_spelling (IfElse condition first other rest) =
    token.Sign symbol.If ∷ (spelling condition ++ token.Sign symbol.OpenBrace ∷ (block_spelling first
    ++ token.Sign symbol.Else ∷ token.Sign symbol.OpenBrace ∷ (block_spelling other ++ block_spelling rest)))
block_spelling (While condition body rest) = token.Sign symbol.While ∷ (spelling condition ++ token.Sign symbol.OpenBrace ∷ (block_spelling body ++ block_spelling rest))
block_spelling (Fail code rest) = token.Sign symbol.Fail ∷ token.Number code ∷ token.Sign symbol.Semicolon ∷ block_spelling rest
block_spelling (Return value rest) = token.Sign symbol.Return ∷ (spelling value ++ token.Sign symbol.Semicolon ∷ block_spelling rest)

abbrev pub name_spelling : Word → List Token
name_spelling w = token.Name w ∷ []

-- the word before `method` where there is one
abbrev pub read_spelling : Bool → List Token
read_spelling true = token.Sign symbol.Read ∷ []
read_spelling false = []

abbrev pub method_spelling : TextMethod → List Token
method_spelling m =
    read_spelling m.is_read ++ token.Sign symbol.Method ∷ token.Name m.name ∷ token.Sign symbol.Open
    ∷ (listed (map name_spelling m.parameters) ++ token.Sign symbol.Close ∷ token.Sign symbol.OpenBrace ∷ block_spelling m.body)

abbrev pub program_spelling : List TextMethod → List Token
program_spelling p = flat_map method_spelling p

-- ---- words

abbrev pub IsWord : Word → Type 0
IsWord w = IsName w.name

-- ---- grammar

-- how loosely an operator binds: 1 products, 2 sums, 3 comparisons, 4 conjunctions, 5 disjunctions
abbrev pub level : Operator → ℕ
level operator.Or = 5
level operator.And = 4
level operator.Equal = 3
level operator.NotEqual = 3
level operator.Less = 3
level operator.LessOrEqual = 3
level operator.Greater = 3
level operator.GreaterOrEqual = 3
level operator.Plus = 2
level operator.Minus = 2
level operator.Times = 1
level operator.Over = 1
level operator.Remainder = 1

-- the level of the left operand: chains lean to the left, and comparisons make no chain
abbrev pub lean : ℕ → ℕ
lean k = if k == 3 then 2 else k

-- An expression of the grammar's rule for a level: 0 operands with signs, 1 products, 2 sums, 3
-- comparisons, 4 conjunctions, 5 disjunctions, which are all expressions.
abbrev pub IsAtLevel : ℕ → Expr Word → Type 0
IsAtLevel k (Number n) = n < 2 ^ 63
IsAtLevel k (Variable w) = IsWord w
IsAtLevel k (Field f line) = f < FIELDS
IsAtLevel k Own = ⊤
IsAtLevel k (Group e) = IsAtLevel 5 e
IsAtLevel k (Negative e) = IsAtLevel 0 e
IsAtLevel k (Binary o a b) = (level o ≤ k) × IsAtLevel (lean (level o)) a × IsAtLevel (level o - 1) b

abbrev pub IsExpression : Expr Word → Type 0
IsExpression e = IsAtLevel 5 e

-- an operand without a sign, as the actor of a call is one
abbrev pub IsPrimary : Expr Word → Type 0
IsPrimary (Number n) = n < 2 ^ 63
IsPrimary (Variable w) = IsWord w
IsPrimary (Field f line) = f < FIELDS
IsPrimary Own = ⊤
IsPrimary (Group e) = IsAtLevel 5 e
IsPrimary (Negative e) = ⊥
IsPrimary (Binary o a b) = ⊥

abbrev pub IsBlock : Code Word Word → Type 0
IsBlock (End line) = ⊤
IsBlock (Let line v value rest) = IsWord v × IsExpression value × IsBlock rest
IsBlock (Call line v target m arguments rest) = IsWord v × IsPrimary target × IsWord m × AllByRecursion IsExpression arguments × IsBlock rest
IsBlock (Set v value rest) = IsWord v × IsExpression value × IsBlock rest
IsBlock (SetField line k value rest) = (k < FIELDS) × IsExpression value × IsBlock rest
IsBlock (If condition first rest) = IsExpression condition × IsBlock first × IsBlock rest
IsBlock (IfElse condition first other rest) = IsExpression condition × IsBlock first × IsBlock other × IsBlock rest
IsBlock (While condition body rest) = IsExpression condition × IsBlock body × IsBlock rest
IsBlock (Fail code rest) = (code < 2 ^ 63) × IsBlock rest
IsBlock (Return value rest) = IsExpression value × IsBlock rest

pub record IsMethod (m : TextMethod) : Type 0 where
  pub name : IsWord m.name
  pub parameters : AllByRecursion IsWord m.parameters
  pub body : IsBlock m.body

-- a tree of the grammar
pub record IsGrammatical (p : List TextMethod) : Type 0 where
  pub some : 0 < length p
  pub methods : AllByRecursion IsMethod p
