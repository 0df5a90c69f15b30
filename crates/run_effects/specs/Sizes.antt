-- How many records a run adds, how many bytes each of them takes, and that each group of them may be appended.
use Rattle.std.specs.Prelude.{ℕ, ◌+◌, ◌*◌, ◌^◌, ◌≤◌, ◌≡◌, List, [], ◌∷◌, ◌++◌, length}
use Rattle.std.specs.List.{AllByRecursion}
use Rattle.snap_base.specs.declared.transactions.State.{State}
use Rattle.protocol.specs.Events.{Event}
use Rattle.protocol.specs.Facts.{Alone}
use Rattle.protocol.specs.Fixed.{Fixed}
use Rattle.protocol.specs.History.{History}
use Rattle.protocol.specs.Parts.{Log, Machine}
use Rattle.protocol.specs.Records.{LogRecord}
use Rattle.protocol.specs.Runs.{IsRun}
use Rattle.protocol.specs.Left.{total}
use Rattle.protocol_records.specs.RecordLaws.{most_records}
use Rattle.record_log.specs.txn_records.declared.records.Record.{Record}
use Rattle.record_log.specs.txn_records.Records.{record_bytes, IsRecord}
use Rattle.snap_hand.specs.log_set.Told.{told}
use Rattle.record_log.specs.declared.limits.TheConstants.{FARTHEST_APPEND}
use Rattle.record_log.specs.Growth.{end_behind_groups, MayAppendGroup, MayAppendGroups}
use Rattle.run_effects.specs.Groups.{groups_of, group_behind}

-- ---- how many

-- the records of all logs together are at most so many for each transaction of the text
abbrev pub LogsAreFew : {C : Type 0} → Fixed C → (C → List State → Alone) → Machine C → History → Type 0
LogsAreFew w finish s h = total (λ (g : Log). length g.records) s.logs ≤ most_records * length w.text.txs

-- ---- how long each is

-- the most bytes of a record of the machine: those of the info of a batch of 256 PACTs on 256 actors
abbrev pub longest_told : ℕ
longest_told = 2573

abbrev pub ToldAreShort : Type 0
ToldAreShort = (r : LogRecord) → IsRecord (told r) → length (record_bytes (told r)) ≤ longest_told

-- ---- what a run gives a log

-- by so many bytes at most the gate of a log goes on in a run
abbrev pub most_bytes : ℕ
most_bytes = 2 ^ 30

-- the groups that log l got, and what waits there
abbrev pub groups_and_waiting : {C : Type 0} → Fixed C → ℕ → List Event → List (List Record)
groups_and_waiting w l es = groups_of w l es ++ group_behind w l es ∷ []

-- P holds of what waits on log l at each moment of the run
abbrev pub AlwaysWaits : {C : Type 0} → Fixed C → ℕ → List Event → (List Record → Type 0) → Type 0
AlwaysWaits w l es P = (ds rest : List Event) → es ≡ ds ++ rest → IsRun w ds → P (group_behind w l ds)

-- On a log whose gate stood here as the run began.
pub record GroupsFit {C : Type 0} (w : Fixed C) (l : ℕ) (es : List Event) (end : ℕ) : Type 0 where
  -- each group may be appended behind those before it, and what waits behind all of them
  pub got : MayAppendGroups end (groups_of w l es)
  pub next : MayAppendGroup (end_behind_groups end (groups_of w l es)) (group_behind w l es)
  -- the gate has not gone far, nor has it then
  pub gone : end_behind_groups end (groups_of w l es) ≤ end + most_bytes
  pub goes : end_behind_groups end (groups_and_waiting w l es) ≤ end + most_bytes

-- where each record has a spelling as it waits, and the gate stood no farther than an append may
abbrev pub AllGroupsFit : {C : Type 0} → Fixed C → (C → List State → Alone) → List Event → Type 0
AllGroupsFit w finish es = (l end : ℕ) → AlwaysWaits w l es (AllByRecursion IsRecord) → end ≤ FARTHEST_APPEND → GroupsFit w l es end

-- What waits on a log may be appended at any such gate, whatever the log got before.
abbrev pub WaitingFits : {C : Type 0} → Fixed C → (C → List State → Alone) → List Event → Type 0
WaitingFits w finish es = (l end : ℕ) → AllByRecursion IsRecord (group_behind w l es) → end ≤ FARTHEST_APPEND + most_bytes → MayAppendGroup end (group_behind w l es)
