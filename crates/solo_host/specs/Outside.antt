-- Only private contracts cite this; the rule is Drives.antt.
-- What one turn of the host does to the outside, before its event.
use Rattle.std.specs.Prelude.{◌≡◌, ℕ, ◌+◌, ◌≤◌, ◌<◌, Option, None, List, [], ◌++◌, length, slice_get, Some}
use Rattle.std.specs.Io.KnownBytes.{Appends}
use Rattle.aml_slice.specs.Controls.{Rest}
use Rattle.gate_log.specs.State.{LogState}
use Rattle.gate_log.specs.declared.logs.AppendNo.{AppendNo}
use Rattle.gate_log.specs.declared.logs.AppendNo.TheVariants as append
use Rattle.protocol.specs.Events.{Event, Sync, Reply}
use Rattle.protocol.specs.Fixed.{Fixed}
use Rattle.protocol.specs.Parts.{Machine}
use Rattle.protocol.specs.Runs.{IsQuiet, reached}
use Rattle.protocol.specs.Schedule.{IsEnabled, pick}
use Rattle.protocol_schedule.specs.Draw.{draw_of}
use Rattle.run_effects.specs.Sizes.{most_bytes}
use Rattle.run_effects.specs.record_log.declared.limits.TheConstants.{FARTHEST_APPEND}
use Rattle.run_effects.specs.Driven.{IsDriven, only_failed, tried_on}
use Rattle.run_effects.specs.Groups.{group_by, group_behind}
use Rattle.run_effects.specs.Laws.{line_by}
use Rattle.run_effects.specs.Lines.{line_in}
use Rattle.snap_outside.specs.Causes.{Rose}
use Rattle.solo_host.specs.Drives.{log_at, failed_by}
use Rattle.run_effects.specs.declared.stops.Stop.{Stop}
use Rattle.run_effects.specs.declared.stops.Stop.TheVariants as stop
use Rattle.snap_core.specs.txn_records.declared.records.Record.{Record}

-- ---- the outside: the logs, what the output took, and how often it failed

pub record Outside : Type 0 where
  pub logs : List LogState
  pub taken : Option (List ℕ)
  pub faults : ℕ

abbrev pub outside : List LogState → Option (List ℕ) → ℕ → Outside
outside logs taken faults = record { logs = logs; taken = taken; faults = faults }

-- each is of format 2, which takes appends
abbrev pub AreOfFormat2 : List LogState → Type 0
AreOfFormat2 logs = (l : ℕ) → l < length logs → (log_at logs l).format ≡ 2

-- the gate of each is so low that what waits may be appended
abbrev pub AreLow : List LogState → Type 0
AreLow logs = (l : ℕ) → l < length logs → (log_at logs l).end ≤ FARTHEST_APPEND + most_bytes

-- each log got these groups, and then the one that met a fault, where one did
pub record Got (old new : List LogState) (groups : ℕ → List (List Record)) (tried : ℕ → Option (List Record)) : Type 0 where
  pub many : length new ≡ length old
  pub each : (l : ℕ) → l < length old → IsDriven (log_at old l) (log_at new l) (groups l) (tried l)

abbrev pub no_group : ℕ → List (List Record)
no_group l = []

abbrev pub no_fault : ℕ → Option (List Record)
no_fault l = None

-- ---- before a Sync

-- an append to log l that is refused
abbrev pub stop_of : AppendNo → ℕ → Stop
stop_of append.Device l = stop.LogFault l
stop_of append.Shut l = stop.LogFault l
stop_of append.Memory l = stop.Memory

-- log l got its group
abbrev pub IsSynced : Fixed Rest → List Event → ℕ → List LogState → List LogState → Type 0
IsSynced w es l old new = Got old new (λ k. group_by k (Sync l) (reached w es)) no_fault

-- its device failed in the append of its group, or there was no memory
abbrev pub IsNotSynced : Fixed Rest → List Event → ℕ → Stop → List LogState → List LogState → Type 0
IsNotSynced w es l (stop.LogFault k) old new = (k ≡ l) × Rose (log_at old k).faults (log_at new k).faults × Got old new no_group (λ i. tried_on (only_failed k) i (group_behind w i es))
IsNotSynced w es l stop.Memory old new = Got old new no_group no_fault
IsNotSynced w es l _ old new = ⊥

-- ---- before a reply

-- the output took the line of transaction n
abbrev pub IsReplied : Machine Rest → ℕ → Option (List ℕ) → Option (List ℕ) → Type 0
IsReplied s n old new = Appends old new (line_in s n)

-- the output took a front of the line and failed
pub record IsBroken (line : List ℕ) (old new : Option (List ℕ)) (faults_before faults_after : ℕ) : Type 0 where
  pub front : List ℕ
  pub rest : List ℕ
  pub parts : line ≡ front ++ rest
  pub took : Appends old new front
  pub rose : Rose faults_before faults_after

-- it did not: the output failed, or there was no memory for the line
abbrev pub IsNotReplied : Machine Rest → ℕ → Stop → Option (List ℕ) → Option (List ℕ) → ℕ → ℕ → Type 0
IsNotReplied s n stop.OutFault old new before now = IsBroken (line_in s n) old new before now
IsNotReplied s n stop.Memory old new before now = new ≡ old
IsNotReplied s n _ old new before now = ⊥

-- ---- before an event

-- what the event asks for was done
pub record IsPrepared (w : Fixed Rest) (es : List Event) (e : Event) (old new : Outside) : Type 0 where
  pub logs : Got old.logs new.logs (λ l. group_by l e (reached w es)) no_fault
  pub printed : Appends old.taken new.taken (line_by w es e)
  pub later : old.faults ≤ new.faults

-- it was not, since this log's device or the output failed at it, or there was no memory
abbrev pub IsFailure : Fixed Rest → List Event → Event → Stop → Outside → Outside → Type 0
IsFailure w es e (stop.LogFault l) old new = (e ≡ Sync l) × (l < length old.logs) × Rose (log_at old.logs l).faults (log_at new.logs l).faults × Appends old.taken new.taken []
IsFailure w es e stop.OutFault old new = (n : ℕ) × (e ≡ Reply n) × IsBroken (line_in (reached w es) n) old.taken new.taken old.faults new.faults
IsFailure w es e stop.Memory old new = Appends old.taken new.taken []
IsFailure w es e stop.Quiet old new = ⊥

pub record IsGivenUp (w : Fixed Rest) (es : List Event) (e : Event) (why : Stop) (old new : Outside) : Type 0 where
  pub logs : Got old.logs new.logs no_group (λ l. tried_on (failed_by why) l (group_behind w l es))
  pub failure : IsFailure w es e why old new
  pub later : old.faults ≤ new.faults

-- ---- a turn

-- the seed picks this event of those that are allowed behind the others
pub record IsPicked (w : Fixed Rest) (seed : ℕ) (es : List Event) (e : Event) : Type 0 where
  pub all : List Event
  pub enabled : IsEnabled w (reached w es) all
  pub place : slice_get all (pick (draw_of seed) (length es) (length all)) ≡ Some e

-- why none was
abbrev pub IsEnd : Fixed Rest → ℕ → List Event → Stop → Outside → Outside → Type 0
IsEnd w seed es stop.Quiet old new = IsQuiet w (reached w es) × Appends old.taken new.taken []
IsEnd w seed es stop.Memory old new = Appends old.taken new.taken []
IsEnd w seed es (stop.LogFault l) old new = IsPicked w seed es (Sync l) × (l < length old.logs) × Rose (log_at old.logs l).faults (log_at new.logs l).faults × Appends old.taken new.taken []
IsEnd w seed es stop.OutFault old new = (n : ℕ) × IsPicked w seed es (Reply n) × IsBroken (line_in (reached w es) n) old.taken new.taken old.faults new.faults
