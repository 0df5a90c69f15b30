-- What one thread does, as a strategy over the outside: its next call, and how it goes on by what that call answers. So it sees nothing of
-- what will be answered later.
use Rattle.std.specs.Prelude.{ℕ, List}
use Rattle.core_events.specs.declared.events.Event.{Event}
use Rattle.snap_outside.specs.declared.devices.DevOp.{DevOp}
use Rattle.snap_report.specs.declared.statuses.Status.{Status}

-- a call to the outside
pub data Call : Type 0 where
  -- asks device d how many bytes it has, or for so many of them at most, from a place on
  Length : (d : ℕ) → Call
  Read : (d : ℕ) (at : ℕ) (room : ℕ) → Call
  -- has device d write, or sync
  Change : (d : ℕ) → DevOp → Call
  -- offers bytes to the output, or to the trace
  Print : List ℕ → Call
  Trace : List ℕ → Call
  -- asks the input for so many bytes at most
  Take : (room : ℕ) → Call
  -- asks for memory of so many bytes
  Room : (bytes : ℕ) → Call

-- what a call answers
pub data Answer : Type 0 where
  Failed : Answer
  Done : Answer
  Count : ℕ → Answer
  Bytes : List ℕ → Answer

-- It ends with a status and the events that it took, or it makes a call, and whatever that answers it goes on so. It ends, whatever is
-- answered.
pub data Body : Type 0 where
  Ends : Status → List Event → Body
  Calls : Call → (Answer → Body) → Body
