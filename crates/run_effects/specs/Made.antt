-- What the device of a log has had at a moment of a run.
use Rattle.std.specs.Prelude.{◌≡◌, ℕ, false, List, [], ◌++◌}
use Rattle.record_log.specs.gate_log.Opened.{beginning_ops}
use Rattle.protocol.specs.Events.{Event}
use Rattle.protocol.specs.Fixed.{Fixed}
use Rattle.protocol.specs.Moments.{Moment}
use Rattle.record_log.specs.Growth.{end_behind_groups, groups_ops, IsNextBegun}
use Rattle.run_effects.specs.Groups.{groups_of}
use Rattle.snap_outside.specs.declared.devices.DevOp.{DevOp}
use Rattle.record_log.specs.txn_records.declared.records.Record.{Record}

-- Of the operations of log l's device these are made at the moment: those of opening, and of an upgrade where the log was of
-- format 1; one append for each group that the log had got by then; and some or all of the next append, only where that has begun.
-- The device held these bytes as it was opened, with its gate at `end`. `all` are the groups whose appends were begun in the whole
-- run, `first` those of before it.
pub record IsMade {C : Type 0} {w : Fixed C} {es : List Event} (m : Moment w es) (l : ℕ) (bytes : List ℕ) (end : ℕ) (first all : List (List Record)) (made : List DevOp) : Type 0 where
  pub later : List (List Record)
  pub begun : List DevOp
  pub splits : all ≡ (first ++ groups_of w l m.events) ++ later
  pub so_far : made ≡ beginning_ops bytes ++ (groups_ops end (first ++ groups_of w l m.events) ++ begun)
  pub next : IsNextBegun (end_behind_groups end (first ++ groups_of w l m.events)) later begun
  pub waits : m.has_begun l ≡ false → begun ≡ []
