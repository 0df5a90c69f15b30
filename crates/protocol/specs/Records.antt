-- The records of a run, in the order in which they are added to a log, and what each is about.
use Rattle.std.specs.Prelude.{ℕ, ℤ, ◌==◌, Bool, false, ◌&&◌, List}
use Rattle.snap_base.specs.declared.transactions.State.{State}

pub data LogRecord : Type 0 where
  -- a batch was formed: its actors and its tids, both ascending
  BatchInfo : (bid : ℕ) (actors : List ℕ) (tids : List ℕ) → LogRecord
  -- a batch is complete on an actor, and left this state
  BatchComplete : (bid : ℕ) (actor : ℕ) (state : State) → LogRecord
  -- a batch commits, with the values of its PACTs, by their tids
  BatchDone : (bid : ℕ) (values : List ℤ) → LogRecord
  -- an ACT ended with a value, and left this state on an actor
  ActPrepare : (tid : ℕ) (actor : ℕ) (state : State) → LogRecord
  -- an ACT commits with this value, at (m, 1, c), on these actors, ascending
  ActDone : (tid : ℕ) (m : ℕ) (c : ℕ) (value : ℤ) (actors : List ℕ) → LogRecord

abbrev pub is_info : ℕ → LogRecord → Bool
is_info k (BatchInfo bid actors tids) = bid == k
is_info k _ = false

abbrev pub is_complete : ℕ → ℕ → LogRecord → Bool
is_complete k a (BatchComplete bid actor state) = (bid == k) && (actor == a)
is_complete k a _ = false

abbrev pub is_commit : ℕ → LogRecord → Bool
is_commit k (BatchDone bid values) = bid == k
is_commit k _ = false

abbrev pub is_prepare : ℕ → ℕ → LogRecord → Bool
is_prepare t a (ActPrepare tid actor state) = (tid == t) && (actor == a)
is_prepare t a _ = false

abbrev pub is_act_commit : ℕ → LogRecord → Bool
is_act_commit t (ActDone tid m c value actors) = tid == t
is_act_commit t _ = false
