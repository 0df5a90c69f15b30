-- A tiny method language, for worked runs: put, move, bad and peek, on the first field of the actors.
use Rattle.std.specs.Prelude.{◌≡◌, ◌≢◌, ℕ, zero, suc, ◌<◌, ◌==◌, nat_le, Bool, true, false, not, ◌&&◌, ℤ, pos, ◌+ℤ◌, ◌-ℤ◌, int_lt, nat_abs, if◌then◌else◌, Option, Some, None, List, [], ◌∷◌, filter, replicate, slice_index_or, slice_set, ⊤}
use Rattle.snap_base.specs.declared.transactions.Kind.TheVariants as kinds
use Rattle.snap_base.specs.declared.transactions.State.{State}
use Rattle.snap_base.specs.declared.transactions.Tx.{Tx}
use Rattle.snap_base.specs.declared.transactions.TxResult.{TxResult}
use Rattle.snap_base.specs.declared.transactions.TxResult.TheVariants.{Value, Fail}
use Rattle.snap_base.specs.declared.ids.ActorId.{ActorId}
use Rattle.protocol.specs.Fixed.{Go, Ended, Sliced, Code, is_pact, root, declared}
use Rattle.protocol.specs.Facts.{Alone, rest_of, state_in}
use Rattle.protocol.specs.Words.{is_among}

pub data Task : Type 0 where
  -- adds n to the field and gives it
  Put : (actor : ℕ) (n : ℤ) → Task
  -- fails with 7 where the field is below n; else takes n from it and puts it on the other actor
  Move : (actor : ℕ) (to : ℕ) (n : ℤ) → Task
  -- adds 1 and fails with 9
  Bad : (actor : ℕ) → Task
  -- gives the field, and only reads
  Peek : (actor : ℕ) → Task
  -- the second part of a move, on the other actor
  Paying : (actor : ℕ) (to : ℕ) (n : ℤ) → Task
  -- its last part, back on the first actor
  Paid : (actor : ℕ) (to : ℕ) (v : ℤ) → Task

pub record Script : Type 0 where
  pub task : Task
  -- whether only declared actors may be called, and the actors that it rests on
  pub limited : Bool
  pub rests : List ℕ

abbrev pub field : State → ℤ
field s = slice_index_or s.0 0 (pos 0)

abbrev pub with_field : ℤ → State → State
with_field v s = record { 0 = slice_set s.0 0 v }

abbrev pub argument : ℕ → Tx → ℤ
argument i tx = slice_index_or tx.args i (pos 0)

abbrev pub task_of : ℕ → Tx → Task
task_of method tx = if method == 0 then Put (root tx) (argument 0 tx) else (if method == 1 then Move (root tx) (nat_abs (argument 0 tx)) (argument 1 tx) else (if method == 3 then Peek (root tx) else Bad (root tx)))

abbrev pub stands_at : Task → ℕ
stands_at (Put a n) = a
stands_at (Move a to n) = a
stands_at (Bad a) = a
stands_at (Peek a) = a
stands_at (Paying a to n) = to
stands_at (Paid a to v) = a

abbrev pub left : Task → ℕ
left (Put a n) = 1
left (Move a to n) = 3
left (Bad a) = 1
left (Peek a) = 1
left (Paying a to n) = 2
left (Paid a to v) = 1

abbrev pub stood_at : Task → List ℕ
stood_at (Put a n) = a ∷ []
stood_at (Move a to n) = a ∷ []
stood_at (Bad a) = a ∷ []
stood_at (Peek a) = a ∷ []
stood_at (Paying a to n) = a ∷ to ∷ []
stood_at (Paid a to v) = a ∷ to ∷ []

-- a call of an actor that does not exist fails with 1004, of one that is not declared with 1001
abbrev pub call_fails : ℕ → Script → ℕ → Option ℕ
call_fails actors c to = if nat_le actors to then Some 1004 else (if c.limited && not (is_among to c.rests) then Some 1001 else None)

abbrev pub with_task : Task → List ℕ → Script → Script
with_task task rests c = record { task = task; limited = c.limited; rests = rests }

abbrev pub ends : State → TxResult → Sliced Script
ends s r = record { state = s; next = Ended r }

abbrev pub goes : State → ℕ → Script → Sliced Script
goes s b c = record { state = s; next = Go b c }

-- a move that may call: the own actor is called in the same slice
abbrev pub calls : Option ℕ → Bool → Script → ℕ → ℕ → ℤ → State → Sliced Script
calls (Some code) own c a to n s = ends s (Fail code)
calls None true c a to n s = ends s (Value (field s))
calls None false c a to n s = goes (with_field (field s -ℤ n) s) to (with_task (Paying a to n) c.rests c)

abbrev pub moves : Bool → ℕ → Script → ℕ → ℕ → ℤ → State → Sliced Script
moves true actors c a to n s = ends s (Fail 7)
moves false actors c a to n s = calls (call_fails actors c to) (to == a) c a to n s

abbrev pub step : ℕ → Script → Task → State → Sliced Script
step actors c (Put a n) s = ends (with_field (field s +ℤ n) s) (Value (field s +ℤ n))
step actors c (Move a to n) s = moves (int_lt (field s) n) actors c a to n s
step actors c (Bad a) s = ends (with_field (field s +ℤ pos 1) s) (Fail 9)
step actors c (Peek a) s = ends s (Value (field s))
step actors c (Paying a to n) s = goes (with_field (field s +ℤ n) s) a (with_task (Paid a to (field s +ℤ n)) (filter (λ x. not (x == to)) c.rests) c)
step actors c (Paid a to v) s = ends s (Value v)

-- over so many actors
abbrev pub scripts : ℕ → Code Script
scripts actors = record {
  start = λ t tx. record { task = task_of tx.method tx; limited = is_pact tx; rests = declared tx };
  at = λ c. stands_at c.task;
  rests_on = λ c a. is_among a c.rests;
  visited = λ c. stood_at c.task;
  visits_left = λ c. left c.task;
  slice = λ c s. step actors c c.task s;
  only_reads = λ tx. tx.method == 3;
}

-- ---- what it means

-- the actor on which it began
abbrev pub begun_at : Task → ℕ
begun_at (Put a n) = a
begun_at (Move a to n) = a
begun_at (Bad a) = a
begun_at (Peek a) = a
begun_at (Paying a to n) = a
begun_at (Paid a to v) = a

-- the second part of a move is on another actor
abbrev pub IsElsewhere : Task → Type 0
IsElsewhere (Put a n) = ⊤
IsElsewhere (Move a to n) = ⊤
IsElsewhere (Bad a) = ⊤
IsElsewhere (Peek a) = ⊤
IsElsewhere (Paying a to n) = a ≢ to
IsElsewhere (Paid a to v) = ⊤

-- it only reads
abbrev pub is_peek : Task → Bool
is_peek (Put a n) = false
is_peek (Move a to n) = false
is_peek (Bad a) = false
is_peek (Peek a) = true
is_peek (Paying a to n) = false
is_peek (Paid a to v) = false

-- a script is a rest of a transaction
pub record IsRestOf (actors : ℕ) (tx : Tx) (c : Script) : Type 0 where
  pub kind : c.limited ≡ is_pact tx
  pub began : begun_at c.task < actors
  pub here : stands_at c.task < actors
  pub elsewhere : IsElsewhere c.task
  pub reads : (tx.method == 3) ≡ true → is_peek c.task ≡ true
  pub rests_here : c.limited ≡ true → is_among (stands_at c.task) c.rests ≡ true
  pub rests_there : c.limited ≡ true → is_among (begun_at c.task) c.rests ≡ true

-- slice after slice, at most so many
abbrev pub finish_in : ℕ → ℕ → Script → List State → Alone
finish_in actors zero c world = record { result = Fail 0; world = world }
finish_in actors (suc k) c world = rest_of (finish_in actors k) (step actors c c.task (state_in world (stands_at c.task))).next (slice_set world (stands_at c.task) (step actors c c.task (state_in world (stands_at c.task))).state)

abbrev pub finish : ℕ → Script → List State → Alone
finish actors c world = finish_in actors (left c.task) c world

-- ---- texts

abbrev pub holding : ℤ → State
holding v = record { 0 = v ∷ replicate 15 (pos 0) }

abbrev pub once : List ℕ → List (ActorId × ℕ)
once [] = []
once (a ∷ actors) = (record { 0 = a }, 1) ∷ once actors

-- a PACT that declares a call to each of these actors
abbrev pub pact : ℕ → ℕ → List ℤ → List ℕ → Tx
pact actor method args actors = record { kind = kinds.Pact; actor = record { 0 = actor }; method = method; args = args; uses = once actors }

abbrev pub act : ℕ → ℕ → List ℤ → Tx
act actor method args = record { kind = kinds.Act; actor = record { 0 = actor }; method = method; args = args; uses = [] }
