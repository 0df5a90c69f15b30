-- A program as a tree, over what stands for a variable and for a called method, and the tree that a
-- value of the code is.
use Rattle.std.specs.Prelude.{ℕ, Bool, List, [], ◌∷◌, map}
use Rattle.aml_tokens.specs.declared.tokens.Word.{Word}
use Rattle.aml_tree.specs.declared.trees.Operator.{Operator}
use Rattle.aml_tree.specs.declared.trees.Expression.{Expression, fold-Expression}
use Rattle.aml_tree.specs.declared.trees.Expression.TheOpen.{Expression-F}
use Rattle.aml_tree.specs.declared.trees.Link.{Link}
use Rattle.aml_tree.specs.declared.trees.Block as block
use Rattle.aml_tree.specs.declared.trees.Statement.{Statement, fold-Statement}
use Rattle.aml_tree.specs.declared.trees.Statement.TheOpen.{Statement-F}
use Rattle.aml_tree.specs.declared.trees.Method as method
use Rattle.aml_tree.specs.declared.trees.Program as program

pub data Expr (V : Type 0) : Type 0 where
  Number : (n : ℕ) → Expr V
  Variable : (v : V) → Expr V
  Field : (k line : ℕ) → Expr V
  Own : Expr V
  Group : (e : Expr V) → Expr V
  Negative : (e : Expr V) → Expr V
  Binary : (o : Operator) → (a b : Expr V) → Expr V

-- A block is a statement and the rest of the block, up to the closing brace with its line. A statement that
-- begins with `let` or a field has the line in which it begins.
pub data Code (V M : Type 0) : Type 0 where
  End : (line : ℕ) → Code V M
  Let : (line : ℕ) → (v : V) → (value : Expr V) → (rest : Code V M) → Code V M
  Call : (line : ℕ) → (v : V) → (target : Expr V) → (m : M) → (arguments : List (Expr V)) → (rest : Code V M) → Code V M
  Set : (v : V) → (value : Expr V) → (rest : Code V M) → Code V M
  SetField : (line k : ℕ) → (value : Expr V) → (rest : Code V M) → Code V M
  If : (condition : Expr V) → (first rest : Code V M) → Code V M
  IfElse : (condition : Expr V) → (first other rest : Code V M) → Code V M
  While : (condition : Expr V) → (body rest : Code V M) → Code V M
  Fail : (code : ℕ) → (rest : Code V M) → Code V M
  Return : (value : Expr V) → (rest : Code V M) → Code V M

pub record MethodTree (V M : Type 0) : Type 0 where
  pub is_read : Bool
  pub name : Word
  pub parameters : List V
  pub body : Code V M

-- a program as its text has it
abbrev pub TextMethod : Type 0
TextMethod = MethodTree Word Word

-- and with its names resolved: a variable's place among those that are visible, a method's in the program
abbrev pub CheckedMethod : Type 0
CheckedMethod = MethodTree ℕ ℕ

-- ---- the trees of values

-- operators join operands from the left
abbrev pub chain_tree : {V : Type 0} → Expr V → List (Link (Expr V)) → Expr V
chain_tree first [] = first
chain_tree first (l ∷ ls) = chain_tree (Binary l.operator first l.operand) ls

abbrev pub expression_step : {V : Type 0} → Expression-F V (Expr V) → Expr V
expression_step (Expression-F.Number n) = Number n
expression_step (Expression-F.Variable v) = Variable v
expression_step (Expression-F.Field k line) = Field k line
expression_step Expression-F.Own = Own
expression_step (Expression-F.Group e) = Group e.value
expression_step (Expression-F.Negative e) = Negative e.value
expression_step (Expression-F.Chain first rest) = chain_tree first.value rest.items

abbrev pub expression_tree : {V : Type 0} → Expression V → Expr V
expression_tree {V} = fold-Expression V (Expr V) expression_step

-- the operators with the trees of their operands
abbrev pub link_trees : {V : Type 0} → List (Link (Expression V)) → List (Link (Expr V))
link_trees ls = map (λ l. record { operator = l.operator; operand = expression_tree l.operand }) ls

-- a statement before the rest of its block
abbrev pub Onto : (V M : Type 0) → Type 0
Onto V M = Code V M → Code V M

abbrev pub statements_onto : {V M : Type 0} → List (Onto V M) → Code V M → Code V M
statements_onto [] rest = rest
statements_onto (s ∷ ss) rest = s (statements_onto ss rest)

abbrev pub block_code : {V M : Type 0} → block.Block (Onto V M) → Code V M
block_code b = statements_onto b.statements.items (End b.last_line)

abbrev pub statement_step : {V M : Type 0} → Statement-F V M (Onto V M) → Onto V M
statement_step (Statement-F.Let line v value) rest = Let line v (expression_tree value) rest
statement_step (Statement-F.Call line v target m arguments) rest = Call line v (expression_tree target) m (map expression_tree arguments.items) rest
statement_step (Statement-F.Set v value) rest = Set v (expression_tree value) rest
statement_step (Statement-F.SetField line k value) rest = SetField line k (expression_tree value) rest
statement_step (Statement-F.If condition first) rest = If (expression_tree condition) (block_code first) rest
statement_step (Statement-F.IfElse condition first other) rest = IfElse (expression_tree condition) (block_code first) (block_code other) rest
statement_step (Statement-F.While condition body) rest = While (expression_tree condition) (block_code body) rest
statement_step (Statement-F.Fail code) rest = Fail code rest
statement_step (Statement-F.Return value) rest = Return (expression_tree value) rest

abbrev pub statement_tree : {V M : Type 0} → Statement V M → Onto V M
statement_tree {V} {M} = fold-Statement V M (Onto V M) statement_step

abbrev pub statements_tree : {V M : Type 0} → List (Statement V M) → Code V M → Code V M
statements_tree ss rest = statements_onto (map statement_tree ss) rest

abbrev pub block_tree : {V M : Type 0} → block.Block (Statement V M) → Code V M
block_tree b = statements_tree b.statements.items (End b.last_line)

abbrev pub method_tree : {V M : Type 0} → method.Method V M → MethodTree V M
method_tree m = record { is_read = m.is_read; name = m.name; parameters = m.parameters; body = block_tree m.body }

abbrev pub program_tree : {V M : Type 0} → program.Program V M → List (MethodTree V M)
program_tree p = map method_tree p.methods

-- ---- another view of the same tree

abbrev pub renamed_expression : {V W : Type 0} → (V → W) → Expr V → Expr W
renamed_expression f (Number n) = Number n
renamed_expression f (Variable v) = Variable (f v)
renamed_expression f (Field k line) = Field k line
renamed_expression f Own = Own
renamed_expression f (Group e) = Group (renamed_expression f e)
renamed_expression f (Negative e) = Negative (renamed_expression f e)
renamed_expression f (Binary o a b) = Binary o (renamed_expression f a) (renamed_expression f b)

abbrev pub bare_expression : Expr Word → Expr (List ℕ)
bare_expression (Number n) = Number n
bare_expression (Variable w) = Variable w.name
bare_expression (Field k line) = Field k 0
bare_expression Own = Own
bare_expression (Group e) = Group (bare_expression e)
bare_expression (Negative e) = Negative (bare_expression e)
bare_expression (Binary o a b) = Binary o (bare_expression a) (bare_expression b)

abbrev pub without_lines : Code Word Word → Code (List ℕ) (List ℕ)
without_lines (End line) = End 0
without_lines (Let line v value rest) = Let 0 v.name (bare_expression value) (without_lines rest)
without_lines (Call line v target m arguments rest) = Call 0 v.name (bare_expression target) m.name (map bare_expression arguments) (without_lines rest)
without_lines (Set v value rest) = Set v.name (bare_expression value) (without_lines rest)
without_lines (SetField line k value rest) = SetField 0 k (bare_expression value) (without_lines rest)
without_lines (If condition first rest) = If (bare_expression condition) (without_lines first) (without_lines rest)
without_lines (IfElse condition first other rest) = IfElse (bare_expression condition) (without_lines first) (without_lines other) (without_lines rest)
without_lines (While condition body rest) = While (bare_expression condition) (without_lines body) (without_lines rest)
without_lines (Fail code rest) = Fail code (without_lines rest)
without_lines (Return value rest) = Return (bare_expression value) (without_lines rest)

-- a method as its words alone say it
pub record BareMethod : Type 0 where
  pub is_read : Bool
  pub name : List ℕ
  pub parameters : List (List ℕ)
  pub body : Code (List ℕ) (List ℕ)

abbrev pub bare_method : TextMethod → BareMethod
bare_method m = record { is_read = m.is_read; name = m.name.name; parameters = map (λ (w : Word). w.name) m.parameters; body = without_lines m.body }

abbrev pub bare : List TextMethod → List BareMethod
bare p = map bare_method p
