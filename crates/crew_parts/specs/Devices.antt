-- What the devices of a crew's logs tell while its workers append, and the moment of the run at which they stand.
use Rattle.std.specs.Prelude.{◌≡◌, ℕ, suc, ◌<◌, if◌then◌else◌, ◌⊎◌, Bool, true, Option, None, Some, List, ◌∷◌, ◌++◌, slice_get, slice_index}
use Rattle.aml_slice.specs.Controls.{Rest}
use Rattle.crew_parts.specs.Acts.{MayDo, touched}
use Rattle.crew_parts.specs.Besides.{is_shut_there}
use Rattle.crew_parts.specs.Crews.{kept}
use Rattle.crew_parts.specs.Shares.{ShareState}
use Rattle.crew_parts.specs.Steps.{CrewTable}
use Rattle.crew_parts.specs.declared.acts.Act.{Act}
use Rattle.gate_log.specs.State.{LogState}
use Rattle.protocol.specs.Events.{Event, log}
use Rattle.protocol.specs.Fixed.{Fixed}
use Rattle.protocol.specs.Moments.{Moment}
use Rattle.protocol.specs.Words.{holds}
use Rattle.run_effects.specs.record_log.Growth.{GrewBy, begun_groups, end_behind_groups}
use Rattle.run_effects.specs.Groups.{group_behind, groups_of}
use Rattle.run_effects.specs.Made.{IsMade}
use Rattle.snap_hand.specs.Tables.{fixed_of}
use Rattle.snap_hand.specs.declared.tables.Tables.{Tables}
use Rattle.snap_outside.specs.Disk.{DeviceHistory, AddsAll, content, with_ops}
use Rattle.snap_outside.specs.declared.devices.DevOp.{DevOp}
use Rattle.turn_table.specs.Rule.{HoldsOn, IsEntry, IsLater, Kept}
use Rattle.snap_hand.specs.txn_records.declared.records.Record.{Record}

-- ---- what shares tell of a log

abbrev pub told_by : Option LogState → Option DeviceHistory
told_by None = None
told_by (Some j) = j.told

abbrev pub journal_in : Option ShareState → Option LogState
journal_in None = None
journal_in (Some x) = x.beside.journal

-- what the device of log l tells, as its share shows it
abbrev pub told_at : List ShareState → ℕ → Option DeviceHistory
told_at xs l = told_by (journal_in (slice_get xs (log l)))

abbrev pub is_shut : ShareState → Bool
is_shut x = is_shut_there x.beside.journal

-- the journal of log l is shut
abbrev pub is_shut_at : List ShareState → ℕ → Bool
is_shut_at xs l = holds is_shut (slice_get xs (log l))

-- ---- what a device tells between two steps

-- The device's history grew from the first to the second, and from there to the third.
pub record GrowsThrough (before now after : Option DeviceHistory) : Type 0 where
  pub made : List DevOp
  pub left : List DevOp
  pub so_far : AddsAll before now made
  pub behind : AddsAll now after left

-- A worker holds log l at the first step, and goes on to hold it up to the last one before its next act is recorded, which it is before
-- the second.
pub record HoldsForAct (t : Tables) (start : List ShareState) (s u : CrewTable) (l : ℕ) : Type 0 where
  pub place : ℕ
  pub last : CrewTable
  pub next : CrewTable
  pub before : Kept (touched t) (MayDo t) start last
  pub after : Kept (touched t) (MayDo t) start next
  pub on : HoldsOn s last (log l) place
  pub act : Act
  pub recorded : IsEntry next (slice_index last.words 0, act)
  -- nothing else is recorded with it
  pub alone : slice_index next.words 0 ≡ suc (slice_index last.words 0)
  pub order : IsLater s last × IsLater last next × IsLater next u

-- Log l's device tells what its share tells at the first step; or, while a worker holds the log, something between that and what the
-- share tells once the worker's next act is recorded.
abbrev pub MayTell : (t : Tables) (start : List ShareState) (s u : CrewTable) → Kept (touched t) (MayDo t) start s → ℕ → Option DeviceHistory → Type 0
MayTell t start s u now l told = (told ≡ told_at now.parts l) ⊎ ((h : HoldsForAct t start s u l) × GrowsThrough (told_at now.parts l) told (told_at h.after.parts l))

-- ---- where it stands

-- The operations of log l's device are those of the moment, and where its next append has begun, that is the append of what waits.
pub record StandsAt {w : Fixed Rest} {es : List Event} (m : Moment w es) (l : ℕ) (bytes : List ℕ) (end : ℕ) (first all : List (List Record)) (made : List DevOp) : Type 0 where
  pub is_made : IsMade m l bytes end first all made
  pub waits : m.has_begun l ≡ true → (more : List (List Record)) × (is_made.later ≡ group_behind w l m.events ∷ more)

-- the groups whose appends to log l were begun: those of before the run, one for each of its Syncs, and what waits where its journal is shut
abbrev pub begun_on : Fixed Rest → ℕ → List (List Record) → List Event → List ShareState → List (List Record)
begun_on w l first es xs = begun_groups (first ++ groups_of w l es) (if is_shut_at xs l then Some (group_behind w l es) else None)

-- The devices of all logs, as far as they told their histories as they were opened, stand at one moment of the run that is recorded at
-- the second step, behind what is recorded at the first.
pub record AreAtMoment (t : Tables) (start : List ShareState) (s u : CrewTable) (now : Kept (touched t) (MayDo t) start s) (end : Kept (touched t) (MayDo t) start u) (told : ℕ → Option DeviceHistory) : Type 0 where
  pub moment : Moment (fixed_of t) (kept end.history)
  pub so_far : moment.events ≡ kept now.history
  pub each : (l : ℕ) (x : ShareState) (j : LogState) (h : DeviceHistory) (gate : ℕ) (first : List (List Record)) → l < (fixed_of t).text.logs → slice_get start (log l) ≡ Some x → x.beside.journal ≡ Some j
      → GrewBy (Some h) j.told gate first None → j.end ≡ end_behind_groups gate first
      → (made : List DevOp) × (told l ≡ Some (with_ops h made)) × StandsAt moment l (content h) gate first (begun_on (fixed_of t) l first (kept end.history) end.parts) made
