-- A run of a work: what it begins with, how far it goes, and what it leaves on its logs.
use Rattle.std.specs.Prelude.{◌≡◌, ℕ, ◌+◌, ◌<◌, ◌≤◌, Bool, true, false, Option, List, [], ◌∷◌, ◌++◌, length, map}
use Rattle.run_effects.specs.core_events.declared.events.Event.{Event}
use Rattle.run_effects.specs.core_events.Meant.{event_meant}
use Rattle.record_log.specs.gate_log.declared.limits.TheConstants.{FARTHEST_END}
use Rattle.record_log.specs.gate_log.declared.logs.LogItem.{LogItem}
use Rattle.record_log.specs.gate_log.Opened.{Opened}
use Rattle.run_effects.specs.Driven.{tried_on}
use Rattle.run_opening.specs.log_opening.Devices.{Device, device_at, AreAside, HoldNoOld}
use Rattle.run_opening.specs.log_opening.Kept.{AreUsed, DeviceHolds}
pub use Rattle.machine_text.specs.Texts.{text_of, machine_of}
use Rattle.machine_recovery.specs.compact_laws.log_compact.declared.folds.Folded.{Folded}
use Rattle.machine_recovery.specs.compact_laws.log_compact.Sets.{IsFolded}
use Rattle.protocol.specs.Conditions.{IsAllowed}
use Rattle.protocol.specs.Events as machine
use Rattle.protocol.specs.Runs.{IsQuiet, reached}
use Rattle.protocol_schedule.specs.Draw.{IsFrontOfSeed}
use Rattle.record_log.specs.Growth.{GrewBy}
use Rattle.run_opening.specs.Opens.{HasRoomToBegin, first_groups, records_at, with_first}
use Rattle.run_opening.specs.Starts.{IsStart}
use Rattle.run_effects.specs.Groups.{groups_of, group_behind}
use Rattle.run_recovery.specs.Schedules.{Schedule, seeded, free, IsTakenBy}
use Rattle.record_log.specs.snap_outside.Disk.{DeviceHistory}
use Rattle.snap_recover.specs.declared.openings.Opening.{Opening}
use Rattle.snap_work.specs.Works.{Work}
use Rattle.record_log.specs.txn_records.declared.records.Record.{Record}

-- the events, as the machine's definitions speak of them
abbrev pub meant : List Event → List machine.Event
meant es = map event_meant es

-- ---- which log failed first

-- This one did, and none of a lower number.
pub record IsLeastOf (failed : ℕ → Bool) (log : ℕ) : Type 0 where
  pub is : failed log ≡ true
  pub least : (l : ℕ) → l < log → failed l ≡ false

-- ---- what a run leaves on its logs

-- The device held these records and was opened, and its log upgraded where it was of format 1; since then it got these groups, one
-- append for each, and a front of the append of one more that met a fault, where one did, and nothing else.
pub record IsRunDevice (before after : Device) (records : List Record) (groups : List (List Record)) (tried : Option (List Record)) : Type 0 where
  pub held : DeviceHolds before records
  pub end : ℕ
  pub opened : (mid : Option DeviceHistory) × (found : List LogItem) × Opened before.told mid end found
  pub low : end ≤ FARTHEST_END
  pub grew : GrewBy before.told after.told end groups tried
  pub later : before.faults ≤ after.faults

-- The logs in use, so many as the text says, lie on the devices from the head on. They held records on which a run of the text begins
-- with the opening, none of them in format 1. Each got what is written before a run, then a group for each of its Syncs; each that failed
-- got a front of one more, of what still waits there. The other devices are opened, and those that are to be cleared are cleared.
pub record AreRunDevices (w : Work) (o : Opening) (es : List machine.Event) (failed : ℕ → Bool) (before after : List Device) : Type 0 where
  -- the device of log 0, and the generation that the set tells
  pub head : ℕ
  pub generation : ℕ
  pub records : List (List Record)
  pub added : List Record
  pub as_many : length records ≡ w.logs
  pub used : AreUsed w.logs before head w.logs generation
  pub start : IsStart records w.states o added
  -- what the logs fold to as the run begins
  pub fold : Folded
  pub folds : IsFolded (with_first records added) fold
  pub opens : fold.opening ≡ o
  pub recent : HoldNoOld head w.logs before
  pub each : (l : ℕ) → l < w.logs → IsRunDevice (device_at before (head + l)) (device_at after (head + l)) (records_at records l)
      (first_groups l added ++ groups_of (machine_of w o) l es) (tried_on failed l (group_behind (machine_of w o) l es))
  pub aside : AreAside head w.logs generation before after

-- A run of the work began with the opening and took these events, by the schedule.
pub record HasRunWork (w : Work) (schedule : Schedule) (o : Opening) (es : List machine.Event) (failed : ℕ → Bool) (before after : List Device) : Type 0 where
  pub room : HasRoomToBegin o
  pub front : IsTakenBy (machine_of w o) schedule es
  pub devices : AreRunDevices w o es failed before after

-- The seed's schedule goes on with this event. With several workers, it is allowed after all of the events.
abbrev pub GoesOnWith : Work → Schedule → Opening → List machine.Event → machine.Event → Type 0
GoesOnWith w (seeded seed) o es e = IsFrontOfSeed (machine_of w o) seed (es ++ e ∷ [])
GoesOnWith w free o es e = IsAllowed (machine_of w o) e (reached (machine_of w o) es)

-- no event is allowed any more
abbrev pub HasEnded : Work → Opening → List machine.Event → Type 0
HasEnded w o es = IsQuiet (machine_of w o) (reached (machine_of w o) es)
