-- What of a program's tree its flat code says.
use Rattle.std.specs.Prelude.{◌≡◌, ℕ, ◌+◌, Option, Some, List, [], ◌∷◌, ◌++◌, map, ⊤}
use Rattle.std.specs.List.{slice_get}
use Rattle.aml_tree.specs.declared.trees.Link.{Link}
use Rattle.aml_tree.specs.declared.trees.Operator.{Operator}
use Rattle.aml_tree.specs.Tree.{Expr, Number, Variable, Field, Own, Group, Negative, Binary, Code, End, Let, Call, Set, SetField, If, IfElse, While, Fail, Return, Onto, CheckedMethod, chain_tree}
use Rattle.aml_flat.specs.declared.operations.BlockPlace.{BlockPlace}
use Rattle.aml_flat.specs.declared.operations.Operand.{Operand}
use Rattle.aml_flat.specs.declared.operations.Operand.TheVariants as operand
use Rattle.aml_flat.specs.declared.operations.Part.{Part}
use Rattle.aml_flat.specs.declared.operations.Part.TheVariants as part
use Rattle.aml_flat.specs.declared.operations.FlatExpression.{FlatExpression}
use Rattle.aml_flat.specs.declared.operations.FlatExpression.TheVariants as flat
use Rattle.aml_flat.specs.declared.operations.Operation.{Operation}
use Rattle.aml_flat.specs.declared.operations.Operation.TheVariants as op

-- ---- expressions

abbrev pub operand_tree : Operand → Expr ℕ
operand_tree (operand.Number n) = Number n
operand_tree (operand.Variable place) = Variable place
operand_tree (operand.Field k line) = Field k line
operand_tree operand.Own = Own

-- left sides, with their operators, each of which waits for its right side, the innermost first
abbrev pub Waiting : Type 0
Waiting = List (Operator × Expr ℕ)

-- the value so far is the right side for which the innermost waits, and what comes of it the right side for the next one
abbrev pub ended : Expr ℕ → Waiting → Expr ℕ
ended x [] = x
ended x (w ∷ ws) = ended (Binary w.0 w.1 x) ws

-- What parts make of the value so far. A right side that is still open where they end is whole there, and a `Close` where none is
-- open says nothing.
abbrev pub row_tree : Expr ℕ → Waiting → List Part → Expr ℕ
row_tree x ws [] = ended x ws
row_tree x ws (part.Join o a ∷ ps) = row_tree (Binary o x (operand_tree a)) ws ps
row_tree x ws (part.Open o a ∷ ps) = row_tree (operand_tree a) ((o, x) ∷ ws) ps
row_tree x [] (part.Close ∷ ps) = row_tree x [] ps
row_tree x (w ∷ ws) (part.Close ∷ ps) = row_tree (Binary w.0 w.1 x) ws ps
row_tree x ws (part.Negate ∷ ps) = row_tree (Negative x) ws ps
row_tree x ws (part.Group ∷ ps) = row_tree (Group x) ws ps

abbrev pub flat_tree : FlatExpression → Expr ℕ
flat_tree (flat.One o) = operand_tree o
flat_tree (flat.Two o a b) = Binary o (operand_tree a) (operand_tree b)
flat_tree (flat.Row first parts) = row_tree (operand_tree first) [] parts.items

-- the operand with which an expression begins
abbrev pub leftmost : Expr ℕ → Expr ℕ
leftmost (Number n) = Number n
leftmost (Variable place) = Variable place
leftmost (Field k line) = Field k line
leftmost Own = Own
leftmost (Group e) = leftmost e
leftmost (Negative e) = leftmost e
leftmost (Binary o a b) = leftmost a

-- ---- blocks

-- how many statements a block has
abbrev pub count_of : Code ℕ ℕ → ℕ
count_of (End line) = 0
count_of (Let line v value rest) = 1 + count_of rest
count_of (Call line v target m arguments rest) = 1 + count_of rest
count_of (Set v value rest) = 1 + count_of rest
count_of (SetField line k value rest) = 1 + count_of rest
count_of (If condition first rest) = 1 + count_of rest
count_of (IfElse condition first other rest) = 1 + count_of rest
count_of (While condition body rest) = 1 + count_of rest
count_of (Fail code rest) = 1 + count_of rest
count_of (Return value rest) = 1 + count_of rest

-- The operation that stands at a position, and those that follow it, say a block from the statement at a place on: one operation for
-- each statement and one for the end, in order, and a block inside where the operation points to.
abbrev pub Says : List Operation → ℕ → ℕ → Code ℕ ℕ → Option Operation → Type 0
Says ops from at (End line) (Some op.End) = ⊤
Says ops from at (Let line v value rest) (Some (op.Let e)) = (flat_tree e ≡ value) × Says ops (from + 1) (at + 1) rest (slice_get ops (from + 1))
Says ops from at (Call line v target m arguments rest) (Some (op.Call place e method es)) =
    (place ≡ at) × (flat_tree e ≡ target) × (method ≡ m) × (map flat_tree es.items ≡ arguments) × Says ops (from + 1) (at + 1) rest (slice_get ops (from + 1))
Says ops from at (Set v value rest) (Some (op.Set variable e)) = (variable ≡ v) × (flat_tree e ≡ value) × Says ops (from + 1) (at + 1) rest (slice_get ops (from + 1))
Says ops from at (SetField line k value rest) (Some (op.SetField field e)) = (field ≡ k) × (flat_tree e ≡ value) × Says ops (from + 1) (at + 1) rest (slice_get ops (from + 1))
Says ops from at (If condition first rest) (Some (op.If place e to)) =
    (place ≡ at) × (flat_tree e ≡ condition) × ((to.count ≡ count_of first) × Says ops to.first 0 first (slice_get ops to.first)) × Says ops (from + 1) (at + 1) rest (slice_get ops (from + 1))
Says ops from at (IfElse condition first other rest) (Some (op.IfElse place e to otherwise)) =
    (place ≡ at) × (flat_tree e ≡ condition) × ((to.count ≡ count_of first) × Says ops to.first 0 first (slice_get ops to.first)) × ((otherwise.count ≡ count_of other) × Says ops otherwise.first 0 other (slice_get ops otherwise.first)) × Says ops (from + 1) (at + 1) rest (slice_get ops (from + 1))
Says ops from at (While condition body rest) (Some (op.While place e to)) =
    (place ≡ at) × (flat_tree e ≡ condition) × ((to.count ≡ count_of body) × Says ops to.first 0 body (slice_get ops to.first)) × Says ops (from + 1) (at + 1) rest (slice_get ops (from + 1))
Says ops from at (Fail code rest) (Some (op.Fail c)) = (c ≡ code) × Says ops (from + 1) (at + 1) rest (slice_get ops (from + 1))
Says ops from at (Return value rest) (Some (op.Return e)) = (flat_tree e ≡ value) × Says ops (from + 1) (at + 1) rest (slice_get ops (from + 1))
Says ops from at b _ = ⊥

-- a block lies at a position, from the statement at a place on
abbrev pub Lies : List Operation → ℕ → ℕ → Code ℕ ℕ → Type 0
Lies ops from at b = Says ops from at b (slice_get ops from)

-- a whole block lies at its place
abbrev pub LiesAt : List Operation → BlockPlace → Code ℕ ℕ → Type 0
LiesAt ops q b = (q.count ≡ count_of b) × Lies ops q.first 0 b

-- each method's body lies at its place
abbrev pub AllLie : List Operation → List BlockPlace → List CheckedMethod → Type 0
AllLie ops [] [] = ⊤
AllLie ops (q ∷ qs) (m ∷ ms) = LiesAt ops q m.body × AllLie ops qs ms
AllLie ops _ _ = ⊥

-- ---- while parts are made

-- the later parts are the earlier ones and further ones, which make this of a value so far, whatever waits and whatever follows
abbrev pub Makes : List Part → List Part → Expr ℕ → Expr ℕ → Type 0
Makes before after x y = (more : List Part) × (after ≡ before ++ more) × ((ws : Waiting) (rest : List Part) → row_tree x ws (more ++ rest) ≡ row_tree y ws rest)

-- they make an expression of the operand with which it begins
abbrev pub MakesWhole : List Part → List Part → Expr ℕ → Type 0
MakesWhole before after e = Makes before after (leftmost e) e

-- they join the operands of a chain to whatever stands before them
abbrev pub MakesChain : List Part → List Part → List (Link (Expr ℕ)) → Type 0
MakesChain before after links = (x : Expr ℕ) → Makes before after x (chain_tree x links)

-- ---- while operations are made

-- the later operations begin with the earlier ones
abbrev pub Extends : List Operation → List Operation → Type 0
Extends ops longer = (more : List Operation) × (longer ≡ ops ++ more)

-- An operation says a statement at a place of its block, wherever it will stand before the rest of the block, once no more
-- than further operations follow.
abbrev pub SaysStatement : List Operation → ℕ → Operation → Onto ℕ ℕ → Type 0
SaysStatement ops at o statement =
    (more : List Operation) (from : ℕ) (rest : Code ℕ ℕ) → Lies (ops ++ more) (from + 1) (at + 1) rest → Says (ops ++ more) from at (statement rest) (Some o)

-- each in turn, from a place on
abbrev pub SayStatements : List Operation → ℕ → List Operation → List (Onto ℕ ℕ) → Type 0
SayStatements ops at [] [] = ⊤
SayStatements ops at (o ∷ os) (s ∷ ss) = SaysStatement ops at o s × SayStatements ops (at + 1) os ss
SayStatements ops at _ _ = ⊥
