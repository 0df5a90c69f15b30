-- Calls between runs. In some no run began: the logs were refused, a device failed, or there was no memory; or the call printed what the logs
-- recover to, or made them ones of format 2. The others compact the logs.
use Rattle.std.specs.Prelude.{◌≡◌, ℕ, ◌<◌, ◌≤◌, ◌⊎◌, List, [], ◌∷◌, length, ⊤}
use Rattle.log_compaction.specs.Crashes.{CompactsSafely, CrashInCompaction}
use Rattle.machine_recovery.specs.compact_laws.log_compact.declared.folds.Folded.{Folded}
use Rattle.machine_recovery.specs.compact_laws.log_compact.Compacting.{IsBefore, other_side}
use Rattle.machine_recovery.specs.compact_laws.log_compact.Finding.{HasNoSet, IsLeftByRuns, IsUsed}
use Rattle.machine_recovery.specs.compact_laws.log_compact.Folds.{fresh_fold}
use Rattle.machine_recovery.specs.compact_laws.log_compact.Sets.{IsFolded, IsSameFold, IsSet, logs_from}
use Rattle.run_opening.specs.log_opening.Devices.{Device, device_at}
use Rattle.run_opening.specs.log_opening.Kept.{AreFolded}
use Rattle.run_opening.specs.Begins.{AreEmpty, BeganWith, Begins}
use Rattle.run_opening.specs.Opens.{AreSafe}
use Rattle.run_opening.specs.Starts.{first_record}
use Rattle.run_opening.specs.log_opening.Cuts.{AreRecent, HoldFour, IsCutCall, IsFrontOfCall, TellBytes}
use Rattle.snap_base.specs.declared.transactions.State.{State}
use Rattle.snap_recover.specs.declared.openings.Opening.{Opening}
use Rattle.record_log.specs.snap_outside.declared.devices.DevOp.{DevOp}
use Rattle.record_log.specs.txn_records.declared.records.Record.{Record}

-- ---- the calls

-- a call, with the bytes that it left: one in which no run began, or a compaction
pub data Call : Type 0 where
  Unbegun : (left : ℕ → List ℕ) → Call
  Compaction : (left : ℕ → List ℕ) → Call

abbrev pub bytes_of : Call → ℕ → List ℕ
bytes_of (Unbegun left) = left
bytes_of (Compaction left) = left

-- One in which no run began, of a text of so many logs and of these states. It was made to its end or cut off by a crash: on each device
-- some of its operations were made, from the first on, and these bytes are left. The devices told that they held these records, and it was
-- durable. A call whose logs were refused, that lacked memory, or that prints what the logs recover to keeps all records, so it is one of
-- every text; and so does one that would compact logs that do not fold.
pub record IsUnbegun (logs : ℕ) (states : List State) (held : ℕ → List Record) (found left : ℕ → List ℕ) : Type 0 where
  pub before : List Device
  pub after : List Device
  pub safe : AreSafe logs states before after
  pub told : TellBytes before found
  pub made : ℕ → List DevOp
  pub each : (d : ℕ) → d < 4 → (cut : IsCutCall (device_at before d) (held d) (made d) (left d)) × IsFrontOfCall (device_at after d) cut.history (made d)

-- A compaction of the logs in use, which fold. It was made to its end or cut off by a crash, and these bytes are left. The devices told that
-- they held these records, and it was durable.
pub record IsCompaction (held : ℕ → List Record) (found left : ℕ → List ℕ) : Type 0 where
  pub before : List Device
  pub after : List Device
  pub logs : AreFolded before
  pub safe : CompactsSafely before after
  pub told : TellBytes before found
  pub crash : CrashInCompaction before after logs.head (length logs.lists) logs.fold held left

abbrev pub IsCall : (logs : ℕ) (states : List State) (held : ℕ → List Record) (found : ℕ → List ℕ) → Call → Type 0
IsCall logs states held found (Unbegun left) = IsUnbegun logs states held found left
IsCall logs states held found (Compaction left) = IsCompaction held found left

-- one behind the other: each found the bytes that the one before it left
abbrev pub AreBetween : ℕ → List State → (ℕ → List ℕ) → List Call → Type 0
AreBetween logs states found [] = ⊤
AreBetween logs states found (c ∷ calls) = ((held : ℕ → List Record) × IsCall logs states held found c) × AreBetween logs states (bytes_of c) calls

-- what the last of them left
abbrev pub left_last : (ℕ → List ℕ) → List Call → ℕ → List ℕ
left_last found [] = found
left_last found (c ∷ calls) = left_last (bytes_of c) calls

-- a compaction is among them
abbrev pub HasCompaction : List Call → Type 0
HasCompaction [] = ⊥
HasCompaction (Unbegun left ∷ calls) = HasCompaction calls
HasCompaction (Compaction left ∷ calls) = ⊤

-- ---- records that are left where no compaction is among them

-- the other side of a set with a checkpoint is cleared, or a part of it
pub record IsPartlyCleared (logs : ℕ) (now kept : ℕ → List Record) : Type 0 where
  pub head : ℕ
  pub generation : ℕ
  pub set : IsSet now head logs generation
  pub checkpoint : 1 ≤ generation
  pub few : logs ≤ 2
  pub cleared : IsBefore now kept (other_side head logs) logs

-- there is no set, no log in use held a record, and Genesis is on device 0
pub record IsJustBegun (logs : ℕ) (states : List State) (now kept : ℕ → List Record) : Type 0 where
  pub none : HasNoSet now
  pub empty : (l : ℕ) → l < logs → now l ≡ []
  pub first : kept 0 ≡ first_record logs states ∷ []
  pub same : (d : ℕ) → 0 < d → kept d ≡ now d

-- The four devices hold what they held; or the other side of a set with a checkpoint is cleared, or a part of it; or Genesis is there where
-- no log in use held a record.
abbrev pub KeepFour : ℕ → List State → (ℕ → List Record) → (ℕ → List Record) → Type 0
KeepFour logs states now kept = ((d : ℕ) → kept d ≡ now d) ⊎ (IsPartlyCleared logs now kept ⊎ IsJustBegun logs states now kept)

-- ---- what a run begins with, before them and behind them

-- no log has a record, or the first run on them began with these states
abbrev pub AreOfStates : List (List Record) → List State → Type 0
AreOfStates lists states = AreEmpty lists ⊎ BeganWith lists states

-- The logs lead a run of these states to this, unless a number is spent: the first run on them began with the states, and they fold to it; or
-- no log has a record, and it is what the first run begins with.
abbrev pub LeadTo : List (List Record) → List State → Folded → Type 0
LeadTo lists states f = (AreEmpty lists × (f ≡ fresh_fold states)) ⊎ (BeganWith lists states × IsFolded lists f)

-- To what the logs led before the calls, and to what they lead behind them: it is the same; or a compaction took effect. Then a later run
-- prints the same, the generation is a later one, and since the checkpoint nothing is committed.
pub data IsFoldBehind (calls : List Call) (f g : Folded) : Type 0 where
  still : (same : g ≡ f) → IsFoldBehind calls f g
  compacted : (among : HasCompaction calls) (same : IsSameFold f g) (later : f.generation < g.generation) (since : g.opening.committed ≡ []) → IsFoldBehind calls f g

-- the same states and next numbers
pub record IsSameOpening (o q : Opening) : Type 0 where
  pub states : q.states ≡ o.states
  pub next_tid : q.next_tid ≡ o.next_tid
  pub next_bid : q.next_bid ≡ o.next_bid
  pub next_c : q.next_c ≡ o.next_c

-- Where a run of these states began with that opening before the calls, one begins on these logs behind them, with an opening of the same
-- states and next numbers, and with no other. It is the same opening; or since a checkpoint nothing is committed.
pub record BeginsBehind (calls : List Call) (lists : List (List Record)) (states : List State) (o : Opening) : Type 0 where
  pub opening : Opening
  pub begins : Begins lists states opening
  pub same : IsSameOpening o opening
  pub which : (opening ≡ o) ⊎ (HasCompaction calls × (opening.committed ≡ []))
  pub alone : (q : Opening) → Begins lists states q → q ≡ opening

-- ---- what they leave

-- What they leave of four devices that held these records, in these bytes, with so many logs in use from the head on: as many are in use, and
-- they are as runs leave them, where they were found so. Where no compaction is among the calls they are the same.
pub record AreKept (logs : ℕ) (states : List State) (head generation : ℕ) (now : ℕ → List Record) (found : ℕ → List ℕ) (calls : List Call) (images : ℕ → List ℕ) : Type 0 where
  pub kept : ℕ → List Record
  pub holds : HoldFour images kept
  pub kept_head : ℕ
  pub kept_generation : ℕ
  -- none of the logs in use is of format 1 with an item, where none was
  pub recent : AreRecent found head logs → AreRecent images kept_head logs
  pub used : IsUsed kept logs kept_head logs kept_generation
  pub set : IsLeftByRuns now head logs → IsLeftByRuns kept kept_head logs
  pub unbegun : ¬ HasCompaction calls → (kept_head ≡ head) × (kept_generation ≡ generation) × KeepFour logs states now kept
  pub folds : (f : Folded) → LeadTo (logs_from now head logs) states f → (g : Folded) × LeadTo (logs_from kept kept_head logs) states g × IsFoldBehind calls f g
  pub begins : (o : Opening) → Begins (logs_from now head logs) states o → BeginsBehind calls (logs_from kept kept_head logs) states o
