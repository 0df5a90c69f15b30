-- How a method goes on from where it stands, up to its next call or to its end: its pause, as a function of the
-- actor's state and of the count of statements, by cases on the method's tree.
use Rattle.std.specs.Prelude.{ℕ, zero, suc, ◌+◌, ◌-◌, min, nat_lt, Bool, true, false, if◌then◌else◌, ℤ, pos, Result, Ok, Err, List, [], ◌∷◌, ◌++◌, length, take, slice_set}
use Rattle.snap_base.specs.declared.transactions.State.{State}
use Rattle.aml_tree.specs.Tree.{Expr, Code, End, Let, Call, Set, SetField, If, IfElse, While, Fail, Return}
use Rattle.aml_check.specs.declared.limits.TheConstants.{MOST_STATEMENTS}
use Rattle.aml_check.specs.Meaning.{◌>>=◌, too_many_statements, with_field, is_nonzero, value_of, values_of}
use Rattle.aml_resume.specs.declared.exits.Exit.{Exit}
use Rattle.aml_resume.specs.declared.exits.Exit.TheVariants as exit
use Rattle.aml_resume.specs.declared.places.Spot.{Spot}
use Rattle.aml_resume.specs.Places.{Standing, behind_some, inner_of, after_inner, place_behind}

-- How a method, or a block of it, is left, each time with the actor's state and the count of statements: behind
-- its last statement with its variables, by the value that it returns, at a call that passes values, where it
-- stands and waits, or by the code of a failure.
pub data Pause : Type 0 where
  Through : (variables : List ℤ) → (s : State) → (count : ℕ) → Pause
  Returned : (value : ℤ) → (s : State) → (count : ℕ) → Pause
  Calling : (target : ℤ) → (m : ℕ) → (arguments : List ℤ) → (standing : Standing) → (s : State) → (count : ℕ) → Pause
  Failed : (code : ℕ) → (s : State) → (count : ℕ) → Pause

-- what goes on with a value, unless it was not had
abbrev pub unless_failed : {A : Type 0} → State → ℕ → Result A ℕ → (A → Pause) → Pause
unless_failed s count (Ok x) next = next x
unless_failed s count (Err code) next = Failed code s count

-- ---- a statement counts, and then computes the expression that it begins with

abbrev pub one_more : ℕ → Result ℕ ℕ
one_more count = if nat_lt count MOST_STATEMENTS then Ok (count + 1) else Err too_many_statements

-- the value, and the count behind it
abbrev pub counted_value : ℕ → List ℤ → State → ℕ → Expr ℕ → Result (ℤ × ℕ) ℕ
counted_value own variables s count e = one_more count >>= λ k. value_of own variables s e >>= λ v. Ok (v, k)

-- what goes on with them
abbrev pub counting : ℕ → List ℤ → State → ℕ → Expr ℕ → (ℤ × ℕ → Pause) → Pause
counting own variables s count e next = unless_failed s (min (count + 1) MOST_STATEMENTS) (counted_value own variables s count e) next

-- ---- inner blocks

-- the statement at a place whose inner block is entered
abbrev pub spot : ℕ → Bool → List ℤ → Spot
spot at other variables = record { at = at; other = other; keep = length variables }

-- What goes on behind an inner block, whose variables are gone. A call in it waits with the inner block open.
abbrev pub around : Spot → Pause → (List ℤ → State → ℕ → Pause) → Pause
around q (Through inner s count) next = next (take q.keep inner) s count
around q (Returned v s count) next = Returned v s count
around q (Calling target m arguments standing s count) next = Calling target m arguments (record standing { path = q ∷ standing.path }) s count
around q (Failed code s count) next = Failed code s count

-- A loop at a place of its block makes at most so many turns. Each turn counts as a statement, so those are never
-- wanting.
abbrev pub loop_pause : ℕ → ℕ → ℕ → Expr ℕ → (List ℤ → State → ℕ → Pause) → (List ℤ → State → ℕ → Pause) → List ℤ → State → ℕ → Pause
loop_pause zero at own condition body next variables s count = Failed too_many_statements s count
loop_pause (suc more) at own condition body next variables s count =
    counting own variables s count condition (λ x.
    if is_nonzero x.0 then around (spot at false variables) (body variables s x.1) (loop_pause more at own condition body next) else next variables s x.1)

-- ---- a block, from the statement at a place on

abbrev pub block_pause : ℕ → ℕ → Code ℕ ℕ → List ℤ → State → ℕ → Pause
block_pause own at (End line) variables s count = Through variables s count
block_pause own at (Let line v value rest) variables s count =
    counting own variables s count value (λ x. block_pause own (at + 1) rest (variables ++ x.0 ∷ []) s x.1)
block_pause own at (Call line v target m arguments rest) variables s count =
    counting own variables s count target (λ x. unless_failed s x.1 (values_of own variables s arguments) (λ xs.
    Calling x.0 m xs (record { path = []; next = at + 1; variables = variables }) s x.1))
block_pause own at (Set v value rest) variables s count =
    counting own variables s count value (λ x. block_pause own (at + 1) rest (slice_set variables v x.0) s x.1)
block_pause own at (SetField line k value rest) variables s count =
    counting own variables s count value (λ x. block_pause own (at + 1) rest variables (with_field s k x.0) x.1)
block_pause own at (If condition first rest) variables s count =
    counting own variables s count condition (λ x.
    if is_nonzero x.0 then around (spot at false variables) (block_pause own 0 first variables s x.1) (block_pause own (at + 1) rest) else block_pause own (at + 1) rest variables s x.1)
block_pause own at (IfElse condition first other rest) variables s count =
    counting own variables s count condition (λ x.
    if is_nonzero x.0
    then around (spot at false variables) (block_pause own 0 first variables s x.1) (block_pause own (at + 1) rest)
    else around (spot at true variables) (block_pause own 0 other variables s x.1) (block_pause own (at + 1) rest))
block_pause own at (While condition body rest) variables s count =
    loop_pause (1 + MOST_STATEMENTS - count) at own condition (block_pause own 0 body) (block_pause own (at + 1) rest) variables s count
block_pause own at (Fail code rest) variables s count = unless_failed s count (one_more count) (Failed code s)
block_pause own at (Return value rest) variables s count = counting own variables s count value (λ x. Returned x.0 s x.1)

-- ---- a method, from where it stands on

-- a block, from a place in the blocks that are open in it on
abbrev pub pause_from : ℕ → Code ℕ ℕ → List Spot → ℕ → List ℤ → State → ℕ → Pause
pause_from own b [] next variables s count = block_pause own next (behind_some next b) variables s count
pause_from own b (q ∷ qs) next variables s count =
    around q (pause_from own (inner_of q.other (behind_some q.at b)) qs next variables s count) (block_pause own (place_behind q.at (behind_some q.at b)) (after_inner (behind_some q.at b)))

-- behind its last statement a method gives 0
abbrev pub given_at_end : Pause → Pause
given_at_end (Through variables s count) = Returned (pos 0) s count
given_at_end (Returned v s count) = Returned v s count
given_at_end (Calling target m arguments standing s count) = Calling target m arguments standing s count
given_at_end (Failed code s count) = Failed code s count

-- the pause of a method with this body
abbrev pub method_pause : ℕ → Code ℕ ℕ → Standing → State → ℕ → Pause
method_pause own body standing s count = given_at_end (pause_from own body standing.path standing.next standing.variables s count)

-- ---- how the code tells it

abbrev pub pause_of : Result Exit ℕ → Standing → List ℤ → State → ℕ → Pause
pause_of (Ok (exit.Gives v)) standing arguments s count = Returned v s count
pause_of (Ok (exit.Asks target m)) standing arguments s count = Calling target m arguments standing s count
pause_of (Err code) standing arguments s count = Failed code s count
