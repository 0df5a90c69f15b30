-- What a transaction means: big-step, by cases on the method's tree, over the whole world. No batch,
-- token, lock or log occurs here.
use Rattle.std.specs.Prelude.{ℕ, zero, suc, ◌+◌, ◌-◌, ◌^◌, nat_lt, ◌==◌, ◌||◌, Bool, true, false, if◌then◌else◌, ℤ, pos, negsuc, ◌+ℤ◌, ◌-ℤ◌, ◌*ℤ◌, int_lt, int_div, int_rem, Result, Ok, Err, Option, Some, None, List, [], ◌∷◌, ◌++◌, length, take, slice_set, slice_index_or, replicate}
use Rattle.std.specs.List.{list_any}
use Rattle.std.specs.Ordering.{int_eq}
use Rattle.snap_base.specs.declared.ids.ActorId.{ActorId}
use Rattle.snap_base.specs.declared.transactions.State.{State}
use Rattle.snap_base.specs.declared.transactions.Kind.{Kind}
use Rattle.snap_base.specs.declared.transactions.Kind.TheVariants.{Pact, Act}
use Rattle.snap_base.specs.declared.transactions.Tx.{Tx}
use Rattle.snap_base.specs.declared.transactions.TxResult.TheVariants as result
use Rattle.aml_tree.specs.declared.trees.Operator.{Operator}
use Rattle.aml_tree.specs.declared.trees.Operator.TheVariants as operator
use Rattle.aml_tree.specs.Tree.{Expr, Number, Variable, Field, Own, Group, Negative, Binary, Code, End, Let, Call, Set, SetField, If, IfElse, While, Fail, Return, CheckedMethod}
use Rattle.aml_check.specs.declared.limits.TheConstants.{MOST_CALLED_ACTORS, MOST_CALLS, MOST_OPEN_CALLS, MOST_STATEMENTS}
use Rattle.aml_check.specs.Names.{method_at}
use Rattle.snap_base.specs.Outcomes.{Alone, Serial}

-- ---- the codes of failures

-- a PACT calls an actor that it did not declare, or more often than it declared
abbrev pub undeclared : ℕ
undeclared = 1001

-- a result is outside signed 64 bits
abbrev pub overflow : ℕ
overflow = 1002

-- a divisor is 0
abbrev pub zero_divisor : ℕ
zero_divisor = 1003

-- the target is no actor
abbrev pub no_actor : ℕ
no_actor = 1004

-- a call more than `MOST_CALLS`, the root counted
abbrev pub too_many_calls : ℕ
too_many_calls = 1005

-- an actor more than `MOST_CALLED_ACTORS`
abbrev pub too_many_actors : ℕ
too_many_actors = 1006

-- a call where `MOST_OPEN_CALLS` are open
abbrev pub too_deep : ℕ
too_deep = 1007

-- a statement more than `MOST_STATEMENTS`
abbrev pub too_many_statements : ℕ
too_many_statements = 1008

-- a failure ends what goes on
infixl 10 ◌>>=◌
abbrev pub ◌>>=◌ : {A B : Type 0} → Result A ℕ → (A → Result B ℕ) → Result B ℕ
(Ok x) >>= f = f x
(Err code) >>= f = Err code

-- ---- the world: each actor's state

abbrev pub zero_state : State
zero_state = record { 0 = replicate 16 (pos 0) }

abbrev pub state_at : List State → ℕ → State
state_at world actor = slice_index_or world actor zero_state

abbrev pub field_at : State → ℕ → ℤ
field_at s k = slice_index_or s.0 k (pos 0)

abbrev pub with_field : State → ℕ → ℤ → State
with_field s k v = record { 0 = slice_set s.0 k v }

-- ---- values

-- a number of signed 64 bits
abbrev pub in_range : ℤ → Result ℤ ℕ
in_range z = if int_lt z (negsuc (2 ^ 63 - 1)) || int_lt (pos (2 ^ 63 - 1)) z then Err overflow else Ok z

-- 1 or 0
abbrev pub truth : Bool → ℤ
truth true = pos 1
truth false = pos 0

-- what is not 0 holds
abbrev pub is_nonzero : ℤ → Bool
is_nonzero z = if int_eq z (pos 0) then false else true

-- by a divisor: the quotient is cut towards 0, the remainder has the sign of the dividend, and neither is had where the quotient is out of range
abbrev pub divided : ℤ → ℤ → Result ℤ ℕ
divided a b = if int_eq b (pos 0) then Err zero_divisor else in_range (int_div a b)

abbrev pub joined : Operator → ℤ → ℤ → Result ℤ ℕ
joined operator.Or a b = Ok (truth (is_nonzero a || is_nonzero b))
joined operator.And a b = Ok (truth (if is_nonzero a then is_nonzero b else false))
joined operator.Equal a b = Ok (truth (int_eq a b))
joined operator.NotEqual a b = Ok (truth (if int_eq a b then false else true))
joined operator.Less a b = Ok (truth (int_lt a b))
joined operator.LessOrEqual a b = Ok (truth (if int_lt b a then false else true))
joined operator.Greater a b = Ok (truth (int_lt b a))
joined operator.GreaterOrEqual a b = Ok (truth (if int_lt a b then false else true))
joined operator.Plus a b = in_range (a +ℤ b)
joined operator.Minus a b = in_range (a -ℤ b)
joined operator.Times a b = in_range (a *ℤ b)
joined operator.Over a b = divided a b
joined operator.Remainder a b = divided a b >>= λ _. Ok (int_rem a b)

-- where the left side decides, its truth; `or` is decided by what holds, `and` by what does not
abbrev pub decided : Operator → ℤ → Option ℤ
decided operator.Or a = if is_nonzero a then Some (pos 1) else None
decided operator.And a = if is_nonzero a then None else Some (pos 0)
decided operator.Equal a = None
decided operator.NotEqual a = None
decided operator.Less a = None
decided operator.LessOrEqual a = None
decided operator.Greater a = None
decided operator.GreaterOrEqual a = None
decided operator.Plus a = None
decided operator.Minus a = None
decided operator.Times a = None
decided operator.Over a = None
decided operator.Remainder a = None

-- the value that is decided, or else the other
abbrev pub unless_decided : Option ℤ → Result ℤ ℕ → Result ℤ ℕ
unless_decided (Some v) other = Ok v
unless_decided None other = other

-- what an expression gives on an actor, with the variables' values and the actor's state
abbrev pub value_of : ℕ → List ℤ → State → Expr ℕ → Result ℤ ℕ
value_of own variables s (Number n) = Ok (pos n)
value_of own variables s (Variable place) = Ok (slice_index_or variables place (pos 0))
value_of own variables s (Field k line) = Ok (field_at s k)
value_of own variables s Own = Ok (pos own)
value_of own variables s (Group e) = value_of own variables s e
value_of own variables s (Negative e) = value_of own variables s e >>= λ x. in_range (pos 0 -ℤ x)
value_of own variables s (Binary o a b) =
    value_of own variables s a >>= λ x. unless_decided (decided o x) (value_of own variables s b >>= λ y. joined o x y)

-- from the left
abbrev pub values_of : ℕ → List ℤ → State → List (Expr ℕ) → Result (List ℤ) ℕ
values_of own variables s [] = Ok []
values_of own variables s (e ∷ es) = value_of own variables s e >>= λ v. values_of own variables s es >>= λ vs. Ok (v ∷ vs)

-- ---- a transaction under way

-- the world, the statements and the calls that were begun, the actors that were called, and of a PACT
-- the calls that it declared and has left
pub record Progress : Type 0 where
  pub world : List State
  pub statements : ℕ
  pub calls : ℕ
  pub actors : List ℕ
  pub left : Option (List (ActorId × ℕ))

-- each statement counts before it runs
abbrev pub statement_begun : Progress → Result Progress ℕ
statement_begun r = if nat_lt r.statements MOST_STATEMENTS then Ok (record r { statements = r.statements + 1 }) else Err too_many_statements

-- the actor that a value is the number of
abbrev pub actor_of : ℕ → ℤ → Result ℕ ℕ
actor_of count (pos n) = if nat_lt n count then Ok n else Err no_actor
actor_of count (negsuc n) = Err no_actor

abbrev pub one_call : Progress → Result Progress ℕ
one_call r = if nat_lt r.calls MOST_CALLS then Ok (record r { calls = r.calls + 1 }) else Err too_many_calls

-- an actor joins those that were called, if it is not among them
abbrev pub with_actor : ℕ → Progress → Result Progress ℕ
with_actor a r =
    if list_any (λ b. b == a) r.actors
    then Ok r
    else (if nat_lt (length r.actors) MOST_CALLED_ACTORS then Ok (record r { actors = r.actors ++ a ∷ [] }) else Err too_many_actors)

-- an entry before others, where there are any
abbrev pub before : ActorId × ℕ → Option (List (ActorId × ℕ)) → Option (List (ActorId × ℕ))
before u None = None
before u (Some us) = Some (u ∷ us)

-- one call of the actor less, where one is left
abbrev pub one_less : ActorId → ℕ → List (ActorId × ℕ) → Option (List (ActorId × ℕ))
one_less a zero us = None
one_less a (suc n) us = Some ((a, n) ∷ us)

-- the declaration without one call of an actor; None where none is left
abbrev pub used : ℕ → List (ActorId × ℕ) → Option (List (ActorId × ℕ))
used a [] = None
used a (u ∷ us) = if u.0.0 == a then one_less u.0 u.1 us else before u (used a us)

abbrev pub with_left : Progress → Option (List (ActorId × ℕ)) → Result Progress ℕ
with_left r None = Err undeclared
with_left r (Some us) = Ok (record r { left = Some us })

abbrev pub by_declaration : ℕ → Progress → Option (List (ActorId × ℕ)) → Result Progress ℕ
by_declaration a r None = Ok r
by_declaration a r (Some us) = with_left r (used a us)

abbrev pub declared : ℕ → Progress → Result Progress ℕ
declared a r = by_declaration a r r.left

-- What a call asks in this order, behind the target and the depth: one of the calls, one of the actors,
-- and of a PACT one call that it declared.
abbrev pub admitted : ℕ → Progress → Result Progress ℕ
admitted a r = one_call r >>= λ r. with_actor a r >>= λ r. declared a r

-- ---- statements

-- how a block is left: behind its last statement, with its variables, or by a value that is returned
pub data Exit : Type 0 where
  Goes : (variables : List ℤ) → Exit
  Gives : (value : ℤ) → Exit

-- what goes on behind an inner block, whose variables are gone, unless a value was returned
abbrev pub behind : List ℤ → Result (Exit × Progress) ℕ → (List ℤ → Progress → Result (Exit × Progress) ℕ) → Result (Exit × Progress) ℕ
behind variables (Ok (Goes inner, r)) next = next (take (length variables) inner) r
behind variables (Ok (Gives v, r)) next = Ok (Gives v, r)
behind variables (Err code) next = Err code

-- what calls a method on an actor with arguments
abbrev pub Caller : Type 0
Caller = ℤ → ℕ → List ℤ → Progress → Result (ℤ × Progress) ℕ

-- A loop makes at most so many turns. Each turn counts as a statement, so those are never wanting.
abbrev pub turns : ℕ → ℕ → Expr ℕ → (List ℤ → Progress → Result (Exit × Progress) ℕ) → List ℤ → Progress → Result (Exit × Progress) ℕ
turns zero own condition body variables r = Err too_many_statements
turns (suc n) own condition body variables r =
    statement_begun r >>= λ r. value_of own variables (state_at r.world own) condition >>= λ v.
    if is_nonzero v then behind variables (body variables r) (turns n own condition body) else Ok (Goes variables, r)

abbrev pub block : Caller → ℕ → Code ℕ ℕ → List ℤ → Progress → Result (Exit × Progress) ℕ
block call own (End line) variables r = Ok (Goes variables, r)
block call own (Let line v value rest) variables r =
    statement_begun r >>= λ r. value_of own variables (state_at r.world own) value >>= λ x. block call own rest (variables ++ x ∷ []) r
block call own (Call line v target m arguments rest) variables r =
    statement_begun r >>= λ r. value_of own variables (state_at r.world own) target >>= λ a. values_of own variables (state_at r.world own) arguments >>= λ xs.
    call a m xs r >>= λ given. block call own rest (variables ++ given.0 ∷ []) given.1
block call own (Set v value rest) variables r =
    statement_begun r >>= λ r. value_of own variables (state_at r.world own) value >>= λ x. block call own rest (slice_set variables v x) r
block call own (SetField line k value rest) variables r =
    statement_begun r >>= λ r. value_of own variables (state_at r.world own) value >>= λ x.
    block call own rest variables (record r { world = slice_set r.world own (with_field (state_at r.world own) k x) })
block call own (If condition first rest) variables r =
    statement_begun r >>= λ r. value_of own variables (state_at r.world own) condition >>= λ x.
    behind variables (if is_nonzero x then block call own first variables r else Ok (Goes variables, r)) (block call own rest)
block call own (IfElse condition first other rest) variables r =
    statement_begun r >>= λ r. value_of own variables (state_at r.world own) condition >>= λ x.
    behind variables (if is_nonzero x then block call own first variables r else block call own other variables r) (block call own rest)
block call own (While condition body rest) variables r =
    behind variables (turns (1 + MOST_STATEMENTS - r.statements) own condition (block call own body) variables r) (block call own rest)
block call own (Fail code rest) variables r = statement_begun r >>= λ r. Err code
block call own (Return value rest) variables r =
    statement_begun r >>= λ r. value_of own variables (state_at r.world own) value >>= λ x. Ok (Gives x, r)

-- ---- calls

-- what a method gives; a checked one is never left behind its last statement
abbrev pub given : Result (Exit × Progress) ℕ → Result (ℤ × Progress) ℕ
given (Ok (Goes variables, r)) = Ok (pos 0, r)
given (Ok (Gives v, r)) = Ok (v, r)
given (Err code) = Err code

-- a call where so many more may be open
abbrev pub called : List CheckedMethod → ℕ → Caller
called p zero target m arguments r = actor_of (length r.world) target >>= λ a. Err too_deep
called p (suc more) target m arguments r =
    actor_of (length r.world) target >>= λ a. admitted a r >>= λ r. given (block (called p more) a (method_at p m).body arguments r)

-- ---- transactions

abbrev pub ended_alone : List State → Result (ℤ × Progress) ℕ → Alone
ended_alone world (Ok (v, r)) = record { result = result.Value v; world = r.world }
ended_alone world (Err code) = record { result = result.Fail code; world = world }

-- a PACT has its declaration to use, an ACT needs none
abbrev pub declaration : Kind → List (ActorId × ℕ) → Option (List (ActorId × ℕ))
declaration Pact uses = Some uses
declaration Act uses = None

abbrev pub beginning : List State → Tx → Progress
beginning world tx = record { world = world; statements = 0; calls = 0; actors = []; left = declaration tx.kind tx.uses }

-- A transaction alone: a value and the new world, or a failure and the world as it was. Its root is the
-- first of the calls that are open at a time.
abbrev pub alone : List CheckedMethod → List State → Tx → Alone
alone p world tx = ended_alone world (called p MOST_OPEN_CALLS (pos tx.actor.0) tx.method tx.args (beginning world tx))

-- A serial execution: one transaction alone after the other.
abbrev pub serial : List CheckedMethod → List State → List Tx → Serial
serial p world [] = record { results = []; world = world }
serial p world (tx ∷ txs) =
    let first = alone p world tx in
    let rest = serial p first.world txs in
    record { results = first.result ∷ rest.results; world = rest.world }
