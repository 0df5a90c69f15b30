-- What a crash leaves at a moment of a run, and what that recovers to.
use Rattle.std.specs.Prelude.{◌≡◌, ℕ, ◌+◌, ◌<◌, List, ◌++◌}
use Rattle.aml_slice.specs.aml_tree.Tree.{CheckedMethod}
use Rattle.run_effects.specs.Driven.{tried_on}
use Rattle.run_opening.specs.log_opening.Devices.{device_at}
use Rattle.machine_recovery.specs.OnLogs.{RecoversAsMeant}
use Rattle.protocol.specs.Moments.{IsLeft, left_in}
use Rattle.machine_laws.specs.protocol_records.Crash.{CrashStands}
use Rattle.record_log.specs.Growth.{begun_groups}
use Rattle.machine_recovery.specs.compact_laws.log_compact.Compacting.{IsOnSide}
use Rattle.machine_recovery.specs.compact_laws.log_compact.Finding.{IsLeftByRuns, IsUsed}
use Rattle.machine_recovery.specs.compact_laws.log_compact.Sets.{IsSet, logs_from}
use Rattle.machine_recovery.specs.recovery_laws.Grown.{grown}
use Rattle.machine_recovery.specs.compact_laws.Members.{FoldsToMembers}
use Rattle.run_opening.specs.Opens.{first_groups, with_first}
use Rattle.run_effects.specs.Groups.{groups_of, group_behind}
use Rattle.run_effects.specs.Made.{IsMade}
use Rattle.run_opening.specs.log_opening.Cuts.{AreRecent, HoldFour, IsCutCall, IsFrontOfCall}
use Rattle.run_recovery.specs.OneRun.{TheRun, MomentOf, alone_in, history_at, machine_in, reached_at}
use Rattle.record_log.specs.snap_outside.declared.devices.DevOp.{DevOp}
use Rattle.record_log.specs.snap_outside.Disk.{DeviceHistory, content}
use Rattle.record_log.specs.txn_records.declared.records.Record.{Record}

-- the run found logs as runs and compactions leave them
abbrev pub FindsRunsLogs : TheRun → Type 0
FindsRunsLogs r = IsLeftByRuns r.devices.used.fronts r.devices.head r.work.logs

-- ---- a moment, on the devices

-- the groups whose appends to log l were begun
abbrev pub begun_on : TheRun → ℕ → List (List Record)
begun_on r l =
    begun_groups (first_groups l r.devices.added ++ groups_of (machine_in r) l r.events) (tried_on r.failed l (group_behind (machine_in r) l r.events))

-- At the moment these operations are made on a device: where it is log l's those of the moment; and where it is not in use a front of
-- those that it got.
pub record IsMadeAt (r : TheRun) (m : MomentOf r) (d : ℕ) (h : DeviceHistory) (made : List DevOp) : Type 0 where
  pub in_use : (l : ℕ) (lt : l < r.work.logs) → d ≡ r.devices.head + l
      → IsMade m l (content h) (r.devices.each l lt).end (first_groups l r.devices.added) (begun_on r l) made
  pub aside : ¬ IsOnSide r.devices.head r.work.logs d → IsFrontOfCall (device_at r.after d) h made

-- A crash at a moment of the run: on each device some operations were made, and these bytes are left. The devices told what they held
-- before, each a log of these records, and it was durable.
pub record CrashOn (r : TheRun) (m : MomentOf r) (images : ℕ → List ℕ) : Type 0 where
  pub held : ℕ → List Record
  pub made : ℕ → List DevOp
  pub each : (d : ℕ) → d < 4 → (cut : IsCutCall (device_at r.before d) (held d) (made d) (images d)) × IsMadeAt r m d cut.history (made d)

-- ---- what it recovers to

-- the records of the logs as the run began
abbrev pub earlier : TheRun → List (List Record)
earlier r = with_first r.devices.records r.devices.added

-- Each log is left with the records of before the run and, of the run's, those that are synced, or these with all that wait. They
-- fold to the states that the members leave, one after the other in the order of their places, as the language means each;
-- the members are closed under what comes before them, and hold everyone who was told that it committed.
pub record Recovers (p : List CheckedMethod) (r : TheRun) (m : MomentOf r) (images : ℕ → List ℕ) : Type 0 where
  pub kept : ℕ → ℕ
  pub left : IsLeft (machine_in r) r.events m kept
  -- what the four devices hold then
  pub now : ℕ → List Record
  pub holds : HoldFour images now
  -- none of the logs in use is of format 1 with an item
  pub recent : AreRecent images r.devices.head r.work.logs
  pub lists : logs_from now r.devices.head r.work.logs ≡ grown (earlier r) (left_in (reached_at r m) kept)
  -- the logs in use are the same; and they are the set, where the run found logs as runs leave them
  pub used : IsUsed now r.work.logs r.devices.head r.work.logs r.devices.generation
  pub set : FindsRunsLogs r → IsSet now r.devices.head r.work.logs r.devices.generation
  pub members : FoldsToMembers (machine_in r) (alone_in p r) (earlier r) r.devices.fold (reached_at r m) (history_at r m) (left_in (reached_at r m) kept)
  pub meant : RecoversAsMeant p (machine_in r) (alone_in p r) (earlier r) r.devices.fold (reached_at r m) (history_at r m) (left_in (reached_at r m) kept)
  pub stands : CrashStands (machine_in r) (alone_in p r) r.events (reached_at r m) (history_at r m) (left_in (reached_at r m) kept)
