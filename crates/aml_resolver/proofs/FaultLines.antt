-- Lines of faults: each is that of a word of the program, of a statement, or of a brace that closes a block.
use Rattle.std.proofs.Common.{ℕ, ◌≤◌, ◌==◌, ◌&&◌, Bool, true, false, if◌then◌else◌, Option, Some, None, List, [], ◌∷◌, ◌++◌, length, subst}
use Rattle.std.specs.List.{AllByRecursion, flat_map}
use Rattle.aml_tokens.specs.declared.tokens.Word.{Word}
use Rattle.aml_tree.specs.Lines.{WordUpTo, ExpressionUpTo, BlockUpTo, MethodUpTo, LinesUpTo}
use Rattle.aml_tree.specs.Tree.{Expr, Number, Variable, Field, Own, Group, Negative, Binary, Code, End, Let, Call, Set, SetField, If, IfElse, While, Fail, Return, TextMethod}
use Rattle.aml_resolver.specs.declared.faults.CheckCause.TheVariants.{UnknownName, Duplicate, ArgCount, NoReturn}
use Rattle.aml_resolver.specs.declared.faults.CheckFault.{CheckFault}
use Rattle.aml_resolver.specs.Names.{names_of, place_of}
use Rattle.aml_check.specs.Names.{method_names, method_at}
use Rattle.aml_resolver.specs.Faults.{fault_at, is_name_among, unknown, duplicate, faults, call_faults_at, call_faults, is_writer, promise_faults, block_faults, repeated, last_line, end_faults, method_faults, faults_behind, IsFirstCheckFault}
use Rattle.aml_check.specs.Closed.{ends}

abbrev FaultsUpTo : ℕ → List CheckFault → Type 0
FaultsUpTo most fs = AllByRecursion (λ (f : CheckFault). f.line ≤ most) fs

both_up_to : (most : ℕ) (fs gs : List CheckFault) → FaultsUpTo most fs → FaultsUpTo most gs → FaultsUpTo most (fs ++ gs)
both_up_to most [] gs a b = b
both_up_to most (f ∷ fs) gs a b = (a.0, both_up_to most fs gs a.1 b)

-- ---- names

unknown_up_to : (most : ℕ) (names : List (List ℕ)) (w : Word) → WordUpTo most w → FaultsUpTo most (unknown names w)
unknown_up_to most names w h = by (is_name_among names w)
  where
    by : (b : Bool) → FaultsUpTo most (if b then [] else fault_at w UnknownName)
    by true = tt
    by false = (h, tt)

duplicate_up_to : (most : ℕ) (names : List (List ℕ)) (w : Word) → WordUpTo most w → FaultsUpTo most (duplicate names w)
duplicate_up_to most names w h = by (is_name_among names w)
  where
    by : (b : Bool) → FaultsUpTo most (if b then fault_at w Duplicate else [])
    by true = (h, tt)
    by false = tt

called_up_to : (most : ℕ) (p : List TextMethod) (w : Word) (arguments : ℕ) (place : Option ℕ) → WordUpTo most w → FaultsUpTo most (call_faults_at p w arguments place)
called_up_to most p w arguments None h = (h, tt)
called_up_to most p w arguments (Some place) h = by (length (method_at p place).parameters == arguments)
  where
    by : (b : Bool) → FaultsUpTo most (if b then [] else fault_at w ArgCount)
    by true = tt
    by false = (h, tt)

repeated_up_to : (most : ℕ) (front : List (List ℕ)) (ws : List Word) → AllByRecursion (WordUpTo most) ws → FaultsUpTo most (repeated front ws)
repeated_up_to most front [] h = tt
repeated_up_to most front (w ∷ ws) h =
    both_up_to most (duplicate front w) (repeated (front ++ w.name ∷ []) ws) (duplicate_up_to most front w h.0) (repeated_up_to most (front ++ w.name ∷ []) ws h.1)

promise_up_to : (most : ℕ) (breaks : Bool) (line : ℕ) → line ≤ most → FaultsUpTo most (promise_faults breaks line)
promise_up_to most true line h = (h, tt)
promise_up_to most false line h = tt

-- ---- expressions

expression_up_to : (most : ℕ) (names : List (List ℕ)) (e : Expr Word) → ExpressionUpTo most e → FaultsUpTo most (faults names e)
expression_up_to most names (Number n) h = tt
expression_up_to most names (Variable w) h = unknown_up_to most names w h
expression_up_to most names (Field k line) h = tt
expression_up_to most names Own h = tt
expression_up_to most names (Group e) h = expression_up_to most names e h
expression_up_to most names (Negative e) h = expression_up_to most names e h
expression_up_to most names (Binary o a b) h =
    both_up_to most (faults names a) (faults names b) (expression_up_to most names a h.0) (expression_up_to most names b h.1)

arguments_up_to : (most : ℕ) (names : List (List ℕ)) (es : List (Expr Word)) → AllByRecursion (ExpressionUpTo most) es → FaultsUpTo most (flat_map (faults names) es)
arguments_up_to most names [] h = tt
arguments_up_to most names (e ∷ es) h =
    both_up_to most (faults names e) (flat_map (faults names) es) (expression_up_to most names e h.0) (arguments_up_to most names es h.1)

-- ---- blocks

block_up_to : (most : ℕ) (p : List TextMethod) (r : Bool) (names : List (List ℕ)) (b : Code Word Word) → BlockUpTo most b → FaultsUpTo most (block_faults p r names b)
block_up_to most p r names (End line) h = tt
block_up_to most p r names (Let line v value rest) h =
    both_up_to most (duplicate names v) _ (duplicate_up_to most names v h.1)
    (both_up_to most (faults names value) _ (expression_up_to most names value h.2) (block_up_to most p r (names ++ v.name ∷ []) rest h.3))
block_up_to most p r names (Call line v target m arguments rest) h =
    both_up_to most (promise_faults (r && is_writer p m) line) _ (promise_up_to most (r && is_writer p m) line h.0)
    (both_up_to most (duplicate names v) _ (duplicate_up_to most names v h.1)
    (both_up_to most (faults names target) _ (expression_up_to most names target h.2)
    (both_up_to most (call_faults p m (length arguments)) _ (called_up_to most p m (length arguments) (place_of (method_names p) m.name) h.3)
    (both_up_to most (flat_map (faults names) arguments) _ (arguments_up_to most names arguments h.4) (block_up_to most p r (names ++ v.name ∷ []) rest h.5)))))
block_up_to most p r names (Set v value rest) h =
    both_up_to most (unknown names v) _ (unknown_up_to most names v h.0)
    (both_up_to most (faults names value) _ (expression_up_to most names value h.1) (block_up_to most p r names rest h.2))
block_up_to most p r names (SetField line k value rest) h =
    both_up_to most (promise_faults r line) _ (promise_up_to most r line h.0)
    (both_up_to most (faults names value) _ (expression_up_to most names value h.1) (block_up_to most p r names rest h.2))
block_up_to most p r names (If condition first rest) h =
    both_up_to most (faults names condition) _ (expression_up_to most names condition h.0)
    (both_up_to most (block_faults p r names first) _ (block_up_to most p r names first h.1) (block_up_to most p r names rest h.2))
block_up_to most p r names (IfElse condition first other rest) h =
    both_up_to most (faults names condition) _ (expression_up_to most names condition h.0)
    (both_up_to most (block_faults p r names first) _ (block_up_to most p r names first h.1)
    (both_up_to most (block_faults p r names other) _ (block_up_to most p r names other h.2) (block_up_to most p r names rest h.3)))
block_up_to most p r names (While condition body rest) h =
    both_up_to most (faults names condition) _ (expression_up_to most names condition h.0)
    (both_up_to most (block_faults p r names body) _ (block_up_to most p r names body h.1) (block_up_to most p r names rest h.2))
block_up_to most p r names (Fail code rest) h = block_up_to most p r names rest h
block_up_to most p r names (Return value rest) h =
    both_up_to most (faults names value) _ (expression_up_to most names value h.0) (block_up_to most p r names rest h.1)

last_up_to : (most : ℕ) (b : Code Word Word) → BlockUpTo most b → last_line b ≤ most
last_up_to most (End line) h = h
last_up_to most (Let line v value rest) h = last_up_to most rest h.3
last_up_to most (Call line v target m arguments rest) h = last_up_to most rest h.5
last_up_to most (Set v value rest) h = last_up_to most rest h.2
last_up_to most (SetField line k value rest) h = last_up_to most rest h.2
last_up_to most (If condition first rest) h = last_up_to most rest h.2
last_up_to most (IfElse condition first other rest) h = last_up_to most rest h.3
last_up_to most (While condition body rest) h = last_up_to most rest h.2
last_up_to most (Fail code rest) h = last_up_to most rest h
last_up_to most (Return value rest) h = last_up_to most rest h.1

end_up_to : (most : ℕ) (b : Code Word Word) → BlockUpTo most b → FaultsUpTo most (end_faults b)
end_up_to most b h = by (ends b)
  where
    by : (t : Bool) → FaultsUpTo most (if t then [] else record { line = last_line b; cause = NoReturn } ∷ [])
    by true = tt
    by false = (last_up_to most b h, tt)

-- ---- programs

method_up_to : (most : ℕ) (p : List TextMethod) (names : List (List ℕ)) (m : TextMethod) → MethodUpTo most m → FaultsUpTo most (method_faults p names m)
method_up_to most p names m h =
    both_up_to most (duplicate names m.name) _ (duplicate_up_to most names m.name h.name)
    (both_up_to most (repeated [] m.parameters) _ (repeated_up_to most [] m.parameters h.parameters)
    (both_up_to most (block_faults p m.is_read (names_of m.parameters) m.body) (end_faults m.body) (block_up_to most p m.is_read (names_of m.parameters) m.body h.body) (end_up_to most m.body h.body)))

behind_up_to : (most : ℕ) (p : List TextMethod) (names : List (List ℕ)) (ms : List TextMethod) → LinesUpTo most ms → FaultsUpTo most (faults_behind p names ms)
behind_up_to most p names [] h = tt
behind_up_to most p names (m ∷ ms) h =
    both_up_to most (method_faults p names m) _ (method_up_to most p names m h.0) (behind_up_to most p (names ++ m.name.name ∷ []) ms h.1)

pub first_stands : (most : ℕ) (p : List TextMethod) (f : CheckFault) → LinesUpTo most p → IsFirstCheckFault p f → f.line ≤ most
first_stands most p f lines first = (subst (FaultsUpTo most) first.1 (behind_up_to most p [] p lines)).0
