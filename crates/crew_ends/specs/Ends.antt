-- What stands beside the shares that a crew begins with and ends with, and which Syncs are still to come.
use Rattle.std.specs.Prelude.{◌≡◌, ℕ, ◌<◌, true, Some, List, length, slice_get}
use Rattle.aml_slice.specs.Controls.{Rest}
use Rattle.crew_parts.specs.Crews.{AreFirstShares, HasCome}
use Rattle.crew_parts.specs.Shares.{OutputState, ShareState}
pub use Rattle.gate_log.specs.State.{log_at}
use Rattle.gate_log.specs.State.{LogState}
use Rattle.protocol.specs.Conditions.{IsAllowed}
use Rattle.protocol.specs.Events.{Event, Sync, desk, log}
use Rattle.protocol.specs.Fixed.{Fixed}
use Rattle.protocol.specs.Runs.{reached}

-- ---- beside the shares

-- These journals stand beside the logs, in the order of their numbers, and this output beside the desk.
pub record AreBeside (journals : List LogState) (out : OutputState) (xs : List ShareState) : Type 0 where
  pub logs : (l : ℕ) (x : ShareState) → l < length journals → slice_get xs (log l) ≡ Some x → x.beside.journal ≡ slice_get journals l
  pub desk : (x : ShareState) → slice_get xs desk ≡ Some x → x.beside.output ≡ Some out

-- Some crew has come from a beginning to these shares.
pub record IsSomeEnd (w : Fixed Rest) (now : List ShareState) : Type 0 where
  pub start : List ShareState
  pub events : List Event
  pub begun : AreFirstShares w start
  pub come : HasCome w start events now

-- ---- what became of the journals

-- Where a log's journal is shut, the next Sync of the log is still to come.
abbrev pub AreDue : Fixed Rest → List Event → List LogState → Type 0
AreDue w es new = (l : ℕ) → l < length new → (log_at new l).shut ≡ true → IsAllowed w (Sync l) (reached w es)
