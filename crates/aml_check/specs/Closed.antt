-- What every checked program keeps.
use Rattle.std.specs.Prelude.{◌≡◌, ℕ, ◌+◌, ◌<◌, ◌≤◌, ◌^◌, max, ◌&&◌, Bool, true, false, IsTrue, List, [], length, slice_index_or, ⊤}
use Rattle.std.specs.List.{AllByRecursion}
use Rattle.snap_base.specs.declared.transactions.TheConstants.{FIELDS}
use Rattle.aml_tree.specs.Tree.{Expr, Number, Variable, Field, Own, Group, Negative, Binary, Code, End, Let, Call, Set, SetField, If, IfElse, While, Fail, Return, CheckedMethod}
use Rattle.aml_tree.specs.declared.limits.TheConstants.{GREATEST_CODE, MOST_LEVELS, MOST_METHODS, MOST_NAMES, MOST_PARAMETERS}
use Rattle.aml_tree.specs.Limits.{lets}
use Rattle.aml_check.specs.Names.{method_at, method_names, counted_from}

-- each variable is one of the first n, each number is of signed 64 bits, and each field is an actor's
abbrev pub IsClosedExpression : ℕ → Expr ℕ → Type 0
IsClosedExpression n (Number z) = z < 2 ^ 63
IsClosedExpression n (Variable place) = place < n
IsClosedExpression n (Field k line) = k < FIELDS
IsClosedExpression n Own = ⊤
IsClosedExpression n (Group e) = IsClosedExpression n e
IsClosedExpression n (Negative e) = IsClosedExpression n e
IsClosedExpression n (Binary o a b) = IsClosedExpression n a × IsClosedExpression n b

-- each call is of a method of the program with as many arguments as that has parameters
abbrev pub IsClosedCall : List CheckedMethod → ℕ → ℕ → Type 0
IsClosedCall p m arguments = (m < length p) × (arguments ≡ length (method_at p m).parameters)

-- where n variables are visible; a new one has the next place
abbrev pub IsClosedBlock : List CheckedMethod → ℕ → Code ℕ ℕ → Type 0
IsClosedBlock p n (End line) = ⊤
IsClosedBlock p n (Let line v value rest) = (v ≡ n) × IsClosedExpression n value × IsClosedBlock p (n + 1) rest
IsClosedBlock p n (Call line v target m arguments rest) =
    (v ≡ n) × IsClosedExpression n target × IsClosedCall p m (length arguments) × AllByRecursion (IsClosedExpression n) arguments × IsClosedBlock p (n + 1) rest
IsClosedBlock p n (Set v value rest) = (v < n) × IsClosedExpression n value × IsClosedBlock p n rest
IsClosedBlock p n (SetField line k value rest) = (k < FIELDS) × IsClosedExpression n value × IsClosedBlock p n rest
IsClosedBlock p n (If condition first rest) = IsClosedExpression n condition × IsClosedBlock p n first × IsClosedBlock p n rest
IsClosedBlock p n (IfElse condition first other rest) = IsClosedExpression n condition × IsClosedBlock p n first × IsClosedBlock p n other × IsClosedBlock p n rest
IsClosedBlock p n (While condition body rest) = IsClosedExpression n condition × IsClosedBlock p n body × IsClosedBlock p n rest
IsClosedBlock p n (Fail code rest) = ((1 ≤ code) × (code ≤ GREATEST_CODE)) × IsClosedBlock p n rest
IsClosedBlock p n (Return value rest) = IsClosedExpression n value × IsClosedBlock p n rest

-- it assigns no field, and each method that it calls promises only to read
abbrev pub OnlyReads : List CheckedMethod → Code ℕ ℕ → Type 0
OnlyReads p (End line) = ⊤
OnlyReads p (Let line v value rest) = OnlyReads p rest
OnlyReads p (Call line v target m arguments rest) = IsTrue (method_at p m).is_read × OnlyReads p rest
OnlyReads p (Set v value rest) = OnlyReads p rest
OnlyReads p (SetField line k value rest) = ⊥
OnlyReads p (If condition first rest) = OnlyReads p first × OnlyReads p rest
OnlyReads p (IfElse condition first other rest) = OnlyReads p first × OnlyReads p other × OnlyReads p rest
OnlyReads p (While condition body rest) = OnlyReads p body × OnlyReads p rest
OnlyReads p (Fail code rest) = OnlyReads p rest
OnlyReads p (Return value rest) = OnlyReads p rest

-- how many blocks are open at most, with this one
abbrev pub nesting : Code ℕ ℕ → ℕ
nesting (End line) = 1
nesting (Let line v value rest) = nesting rest
nesting (Call line v target m arguments rest) = nesting rest
nesting (Set v value rest) = nesting rest
nesting (SetField line k value rest) = nesting rest
nesting (If condition first rest) = max (1 + nesting first) (nesting rest)
nesting (IfElse condition first other rest) = max (max (1 + nesting first) (1 + nesting other)) (nesting rest)
nesting (While condition body rest) = max (1 + nesting body) (nesting rest)
nesting (Fail code rest) = nesting rest
nesting (Return value rest) = nesting rest

-- ---- how a block ends

-- what holds of a last statement, and else of the rest
abbrev pub if_last : {V M : Type 0} → Code V M → Bool → Bool → Bool
if_last (End line) here behind = here
if_last (Let line v value rest) here behind = behind
if_last (Call line v target m arguments rest) here behind = behind
if_last (Set v value rest) here behind = behind
if_last (SetField line k value rest) here behind = behind
if_last (If condition first rest) here behind = behind
if_last (IfElse condition first other rest) here behind = behind
if_last (While condition body rest) here behind = behind
if_last (Fail code rest) here behind = behind
if_last (Return value rest) here behind = behind

-- The last statement is a return, a fail, or a choice of two blocks that end so.
abbrev pub ends : {V M : Type 0} → Code V M → Bool
ends (End line) = false
ends (Let line v value rest) = ends rest
ends (Call line v target m arguments rest) = ends rest
ends (Set v value rest) = ends rest
ends (SetField line k value rest) = ends rest
ends (If condition first rest) = ends rest
ends (IfElse condition first other rest) = if_last rest (ends first && ends other) (ends rest)
ends (While condition body rest) = ends rest
ends (Fail code rest) = if_last rest true (ends rest)
ends (Return value rest) = if_last rest true (ends rest)

-- ---- methods and programs

pub record IsClosedMethod (p : List CheckedMethod) (m : CheckedMethod) : Type 0 where
  pub places : m.parameters ≡ counted_from 0 m.parameters
  pub parameters : length m.parameters ≤ MOST_PARAMETERS
  pub variables : length m.parameters + lets m.body ≤ MOST_NAMES
  pub deep : nesting m.body ≤ MOST_LEVELS
  pub body : IsClosedBlock p (length m.parameters) m.body
  pub ended : IsTrue (ends m.body)
  pub promise : IsTrue m.is_read → OnlyReads p m.body

-- no two are the same
abbrev pub AreDistinct : List (List ℕ) → Type 0
AreDistinct names = (i j : ℕ) → i < length names → j < length names → (slice_index_or names i [] ≡ slice_index_or names j []) → i ≡ j

pub record IsClosedProgram (p : List CheckedMethod) : Type 0 where
  pub few : length p ≤ MOST_METHODS
  pub distinct : AreDistinct (method_names p)
  pub methods : AllByRecursion (IsClosedMethod p) p
