-- The faults of a program's names, promises and ends, all of them, in the order of the text.
use Rattle.std.specs.Prelude.{◌≡◌, ℕ, ◌==◌, ◌&&◌, Bool, true, false, if◌then◌else◌, List, [], ◌∷◌, ◌++◌, length, Option, Some, None}
use Rattle.std.specs.List.{flat_map, list_any}
use Rattle.std.specs.Str.{bytes_eq}
use Rattle.aml_tokens.specs.declared.tokens.Word.{Word}
use Rattle.aml_tree.specs.Tree.{Expr, Number, Variable, Field, Own, Group, Negative, Binary, Code, End, Let, Call, Set, SetField, If, IfElse, While, Fail, Return, TextMethod, CheckedMethod}
use Rattle.aml_resolver.specs.declared.faults.CheckCause.{CheckCause}
use Rattle.aml_resolver.specs.declared.faults.CheckCause.TheVariants.{UnknownName, Duplicate, ArgCount, NoReturn, ReadWrites}
use Rattle.aml_resolver.specs.declared.faults.CheckFault.{CheckFault}
use Rattle.aml_resolver.specs.Names.{names_of, place_of, checked_program}
use Rattle.aml_check.specs.Names.{method_names, method_at}
use Rattle.aml_check.specs.Closed.{ends}

abbrev pub fault_at : Word → CheckCause → List CheckFault
fault_at w cause = record { line = w.line; cause = cause } ∷ []

abbrev pub is_name_among : List (List ℕ) → Word → Bool
is_name_among names w = list_any (λ (n : List ℕ). bytes_eq n w.name) names

-- a name that has to be known, and one that has to be new
abbrev pub unknown : List (List ℕ) → Word → List CheckFault
unknown names w = if is_name_among names w then [] else fault_at w UnknownName

abbrev pub duplicate : List (List ℕ) → Word → List CheckFault
duplicate names w = if is_name_among names w then fault_at w Duplicate else []

-- names, the visible variables
abbrev pub faults : List (List ℕ) → Expr Word → List CheckFault
faults names (Number n) = []
faults names (Variable w) = unknown names w
faults names (Field k line) = []
faults names Own = []
faults names (Group e) = faults names e
faults names (Negative e) = faults names e
faults names (Binary o a b) = faults names a ++ faults names b

-- a call, with so many arguments, of the method at a place, if there is one
abbrev pub call_faults_at : List TextMethod → Word → ℕ → Option ℕ → List CheckFault
call_faults_at p w arguments None = fault_at w UnknownName
call_faults_at p w arguments (Some place) = if length (method_at p place).parameters == arguments then [] else fault_at w ArgCount

-- a call of a method by its name; the first method of the name counts
abbrev pub call_faults : List TextMethod → Word → ℕ → List CheckFault
call_faults p w arguments = call_faults_at p w arguments (place_of (method_names p) w.name)

-- whether a name is that of a method, the first one of the name, that makes no promise only to read
abbrev pub is_writer_at : List TextMethod → Option ℕ → Bool
is_writer_at p None = false
is_writer_at p (Some place) = if (method_at p place).is_read then false else true

abbrev pub is_writer : List TextMethod → Word → Bool
is_writer p w = is_writer_at p (place_of (method_names p) w.name)

-- a statement that begins in a line and breaks the promise only to read, or does not
abbrev pub promise_faults : Bool → ℕ → List CheckFault
promise_faults true line = record { line = line; cause = ReadWrites } ∷ []
promise_faults false line = []

-- Of a method that promises only to read, or does not. A statement begins before all that is in it, a name stands
-- before the value that it takes, and the called method before its arguments. A variable is visible from behind
-- its statement up to the end of its block.
abbrev pub block_faults : List TextMethod → Bool → List (List ℕ) → Code Word Word → List CheckFault
block_faults p is_read names (End line) = []
block_faults p is_read names (Let line v value rest) = duplicate names v ++ (faults names value ++ block_faults p is_read (names ++ v.name ∷ []) rest)
block_faults p is_read names (Call line v target m arguments rest) =
    promise_faults (is_read && is_writer p m) line
    ++ (duplicate names v ++ (faults names target ++ (call_faults p m (length arguments) ++ (flat_map (faults names) arguments ++ block_faults p is_read (names ++ v.name ∷ []) rest))))
block_faults p is_read names (Set v value rest) = unknown names v ++ (faults names value ++ block_faults p is_read names rest)
block_faults p is_read names (SetField line k value rest) = promise_faults is_read line ++ (faults names value ++ block_faults p is_read names rest)
block_faults p is_read names (If condition first rest) = faults names condition ++ (block_faults p is_read names first ++ block_faults p is_read names rest)
block_faults p is_read names (IfElse condition first other rest) =
    faults names condition ++ (block_faults p is_read names first ++ (block_faults p is_read names other ++ block_faults p is_read names rest))
block_faults p is_read names (While condition body rest) = faults names condition ++ (block_faults p is_read names body ++ block_faults p is_read names rest)
block_faults p is_read names (Fail code rest) = block_faults p is_read names rest
block_faults p is_read names (Return value rest) = faults names value ++ block_faults p is_read names rest

-- each word whose name one before it has, behind those in front
abbrev pub repeated : List (List ℕ) → List Word → List CheckFault
repeated front [] = []
repeated front (w ∷ ws) = duplicate front w ++ repeated (front ++ w.name ∷ []) ws

-- ---- ends of blocks

abbrev pub last_line : {V M : Type 0} → Code V M → ℕ
last_line (End line) = line
last_line (Let line v value rest) = last_line rest
last_line (Call line v target m arguments rest) = last_line rest
last_line (Set v value rest) = last_line rest
last_line (SetField line k value rest) = last_line rest
last_line (If condition first rest) = last_line rest
last_line (IfElse condition first other rest) = last_line rest
last_line (While condition body rest) = last_line rest
last_line (Fail code rest) = last_line rest
last_line (Return value rest) = last_line rest

abbrev pub end_faults : Code Word Word → List CheckFault
end_faults body = if ends body then [] else record { line = last_line body; cause = NoReturn } ∷ []

-- ---- programs

-- a method of the program p behind others that have the names
abbrev pub method_faults : List TextMethod → List (List ℕ) → TextMethod → List CheckFault
method_faults p names m =
    duplicate names m.name ++ (repeated [] m.parameters ++ (block_faults p m.is_read (names_of m.parameters) m.body ++ end_faults m.body))

abbrev pub faults_behind : List TextMethod → List (List ℕ) → List TextMethod → List CheckFault
faults_behind p names [] = []
faults_behind p names (m ∷ ms) = method_faults p names m ++ faults_behind p (names ++ m.name.name ∷ []) ms

abbrev pub program_faults : List TextMethod → List CheckFault
program_faults p = faults_behind p [] p

abbrev pub IsFirstCheckFault : List TextMethod → CheckFault → Type 0
IsFirstCheckFault p fault = (more : List CheckFault) × (program_faults p ≡ fault ∷ more)

-- c is the program p, which has no fault, with its names resolved
pub record IsCheckedProgram (p : List TextMethod) (c : List CheckedMethod) : Type 0 where
  pub faultless : program_faults p ≡ []
  pub resolved : c ≡ checked_program p
