-- What a body does that assigns no field and calls only methods that promise only to read.
use Rattle.std.specs.Prelude.{◌≡◌, ℕ, IsTrue, List}
use Rattle.snap_base.specs.declared.transactions.State.{State}
use Rattle.aml_tree.specs.Tree.{Code, CheckedMethod}
use Rattle.aml_check.specs.Closed.{OnlyReads}
use Rattle.aml_check.specs.Names.{method_at}
use Rattle.aml_resume.specs.Places.{Standing}
use Rattle.aml_resume.specs.Pausing.{Pause, Through, Returned, Calling, Failed, method_pause}

-- the actor's state is this one, and a call is of a method that promises only to read
abbrev pub LeavesState : List CheckedMethod → State → Pause → Type 0
LeavesState p s (Through variables t count) = t ≡ s
LeavesState p s (Returned v t count) = t ≡ s
LeavesState p s (Calling target m arguments standing t count) = (t ≡ s) × IsTrue (method_at p m).is_read
LeavesState p s (Failed code t count) = t ≡ s

-- from wherever the method stands it goes on so
abbrev pub ReadingLeaves : Type 0
ReadingLeaves = (p : List CheckedMethod) (own : ℕ) (body : Code ℕ ℕ) (f : Standing) (s : State) (n : ℕ) → OnlyReads p body → LeavesState p s (method_pause own body f s n)
