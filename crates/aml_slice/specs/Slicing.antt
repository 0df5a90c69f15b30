-- What a control does: how it begins, its moves from call to call, and its slices, as functions of the control and
-- of the state of the actor where it stands.
use Rattle.std.specs.Prelude.{ℕ, zero, suc, ◌+◌, nat_lt, ◌==◌, if◌then◌else◌, ℤ, pos, Result, Ok, Err, Option, Some, None, unwrap_or, List, [], ◌∷◌, length}
use Rattle.snap_base.specs.declared.ids.ActorId.{ActorId}
use Rattle.snap_base.specs.declared.ids.Tid.{Tid}
use Rattle.snap_base.specs.declared.transactions.State.{State}
use Rattle.snap_base.specs.declared.transactions.Tx.{Tx}
use Rattle.snap_base.specs.declared.transactions.TxResult.{TxResult}
use Rattle.snap_base.specs.declared.transactions.TxResult.TheVariants as result
use Rattle.aml_tree.specs.Tree.{CheckedMethod}
use Rattle.aml_check.specs.Names.{method_at}
use Rattle.aml_check.specs.Meaning.{Progress, actor_of, admitted, too_deep, too_many_statements, used, declaration}
use Rattle.aml_resume.specs.Places.{Standing}
use Rattle.aml_resume.specs.Pausing.{Pause, Through, Returned, Calling, Failed, method_pause}
use Rattle.snap_base.specs.declared.next.Next.{Next}
use Rattle.snap_base.specs.declared.next.Next.TheVariants.{Go, Ended}
use Rattle.aml_slice.specs.Controls.{Frame, Rest, fresh, progress_in, with_given, most_waiting, moves_left}

-- ---- the beginning

-- of a declaration, what the root's own call leaves
abbrev pub root_used : ℕ → Option (List (ActorId × ℕ)) → Option (List (ActorId × ℕ))
root_used a None = None
root_used a (Some us) = Some (unwrap_or (used a us) us)

-- a transaction whose root is called
abbrev pub started : Tid → Tx → Rest
started tid tx = record {
  tid = tid;
  top = fresh tx.actor.0 tx.method tx.args;
  waiting = [];
  statements = 0;
  calls = 1;
  actors = tx.actor.0 ∷ [];
  left = root_used tx.actor.0 (declaration tx.kind tx.uses);
}

-- ---- one move

-- what is left of the transaction then, or what became of it; and the actor's state
pub data Move : Type 0 where
  To : (d : Rest) → (t : State) → Move
  Out : (r : TxResult) → (t : State) → Move

-- the innermost frame that waits takes the value; where none waits, it is the transaction's
abbrev pub returned : Rest → List Frame → ℤ → State → ℕ → Move
returned c [] v t n = Out (result.Value v) t
returned c (f ∷ fs) v t n = To (record c { top = with_given f v; waiting = fs; statements = n }) t

-- the frame that runs waits at a place, and one for the method runs
abbrev pub entered : Rest → Standing → ℕ → ℕ → List ℤ → Progress → Rest
entered c g a m arguments q = record {
  tid = c.tid;
  top = fresh a m arguments;
  waiting = record c.top { standing = g } ∷ c.waiting;
  statements = q.statements;
  calls = q.calls;
  actors = q.actors;
  left = q.left;
}

-- what goes on, unless the call is refused
abbrev pub unless_refused : {A : Type 0} → State → Result A ℕ → (A → Move) → Move
unless_refused t (Ok x) next = next x
unless_refused t (Err code) next = Out (result.Fail code) t

-- a call, with the codes in their order: no actor, too deep, and what the transaction may not call
abbrev pub called_on : ℕ → Rest → ℤ → ℕ → List ℤ → Standing → State → ℕ → Move
called_on count c target m arguments g t n =
    unless_refused t (actor_of count target) (λ a.
    if nat_lt (length c.waiting) most_waiting
    then unless_refused t (admitted a (record (progress_in c []) { statements = n })) (λ q. To (entered c g a m arguments q) t)
    else Out (result.Fail too_deep) t)

-- what a pause of the frame that runs makes of the control
abbrev pub moved_by : ℕ → Rest → Pause → Move
moved_by count c (Through vs t n) = returned c c.waiting (pos 0) t n
moved_by count c (Returned v t n) = returned c c.waiting v t n
moved_by count c (Calling target m arguments g t n) = called_on count c target m arguments g t n
moved_by count c (Failed code t n) = Out (result.Fail code) t

abbrev pub move : List CheckedMethod → ℕ → Rest → State → Move
move p count c s = moved_by count c (method_pause c.top.actor (method_at p c.top.method).body c.top.standing s c.statements)

-- ---- a slice

-- how a slice leaves its actor, and its transaction: on another actor, or at its end
pub record SliceEnd : Type 0 where
  pub state : State
  pub next : Next Rest

abbrev pub actor_id : ℕ → ActorId
actor_id a = record { 0 = a }

-- moves go on while the control stands on the actor
abbrev pub after_move : ℕ → (Rest → State → SliceEnd) → Move → SliceEnd
after_move own more (To d t) = if d.top.actor == own then more d t else record { state = t; next = Go (actor_id d.top.actor) d }
after_move own more (Out r t) = record { state = t; next = Ended r }

-- so many moves at most, all on one actor; each takes one of the moves that are left, so they are never wanting
abbrev pub slice_end_in : ℕ → List CheckedMethod → ℕ → ℕ → Rest → State → SliceEnd
slice_end_in zero p count own c s = record { state = s; next = Ended (result.Fail too_many_statements) }
slice_end_in (suc more) p count own c s = after_move own (slice_end_in more p count own) (move p count c s)

abbrev pub slice_end : List CheckedMethod → ℕ → Rest → State → SliceEnd
slice_end p count c s = slice_end_in (moves_left c + 1) p count c.top.actor c s
