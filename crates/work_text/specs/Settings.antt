-- Lines that set a number.
use Rattle.std.specs.Prelude.{◌≡◌, ℕ, ◌<◌, ◌≤◌, ◌^◌, ◌⊎◌, List, ◌++◌, codes, Ok, Err}
use Rattle.std.specs.Fmt.{decimal}
use Rattle.snap_work.specs.declared.faults.Limit.{Limit}
use Rattle.snap_work.specs.declared.faults.Limit.TheVariants as limit
use Rattle.snap_work.specs.declared.faults.WorkCause.{WorkCause}
use Rattle.snap_work.specs.declared.faults.WorkCause.TheVariants as cause
use Rattle.snap_work.specs.declared.limits.TheConstants.{MOST_ACTORS, MOST_ACTS, MOST_BATCHES, MOST_COORDINATORS, MOST_IN_A_BATCH, MOST_LOGS}
use Rattle.work_text.specs.Lines.{Line}
use Rattle.work_text.specs.Readings.{ReadingOf}

-- the word of a setting with the blank behind it, the greatest number, and which limit it is
pub record Setting : Type 0 where
  pub word : List ℕ
  pub most : ℕ
  pub which : Limit

abbrev pub coordinators : Setting
coordinators = record { word = codes "coordinators "; most = MOST_COORDINATORS; which = limit.Coordinators }

abbrev pub logs : Setting
logs = record { word = codes "logs "; most = MOST_LOGS; which = limit.Logs }

abbrev pub batch : Setting
batch = record { word = codes "batch "; most = MOST_IN_A_BATCH; which = limit.Batch }

abbrev pub batches : Setting
batches = record { word = codes "batches "; most = MOST_BATCHES; which = limit.Batches }

abbrev pub acts : Setting
acts = record { word = codes "acts "; most = MOST_ACTS; which = limit.Acts }

abbrev pub actors : Setting
actors = record { word = codes "actors "; most = MOST_ACTORS; which = limit.Actors }

-- the line sets a number of 64 bits
abbrev pub Sets : Setting → List ℕ → ℕ → Type 0
Sets s line n = (line ≡ s.word ++ decimal n) × (n < 2 ^ 64)

abbrev pub SettingFault : Setting → List ℕ → WorkCause → Type 0
SettingFault s line cause.BadHeader = (n : ℕ) → ¬ Sets s line n
SettingFault s line (cause.Limit which found) = (which ≡ s.which) × Sets s line found × ((found < 1) ⊎ (s.most < found))
SettingFault s line cause.NotUtf8 = ⊥
SettingFault s line (cause.Program p) = ⊥
SettingFault s line cause.BadActor = ⊥
SettingFault s line cause.BadTx = ⊥
SettingFault s line cause.RootNotDeclared = ⊥

-- the number that a line sets, from 1 on
abbrev pub setting : Setting → Line → ReadingOf ℕ
setting s line (Ok n) = Sets s line.bytes n × (1 ≤ n) × (n ≤ s.most)
setting s line (Err f) = (f.line ≡ line.number) × SettingFault s line.bytes f.cause
