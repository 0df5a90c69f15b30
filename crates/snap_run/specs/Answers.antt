-- Why the top call answers what it answers: for each form of the words, one table of the answers that exist.
use Rattle.std.specs.Prelude.{◌≡◌, ◌+◌, ◌⊎◌, ⊤, ℕ, zero, suc, List, [], length, Some, IfSome}
use Rattle.std.specs.Io.KnownBytes.{Keeps, Consumes, IsAtEnd}
use Rattle.snap_outside.specs.Causes.{Rose}
use Rattle.record_log.specs.txn_records.declared.records.Record.{Record}
use Rattle.run_work.specs.run_opening.snap_recover.declared.openings.Opening.{Opening}
use Rattle.snap_report.specs.declared.statuses.Status.{Status}
use Rattle.snap_report.specs.declared.statuses.Status.TheVariants as status
use Rattle.snap_work.specs.declared.faults.WorkCause.{WorkCause}
use Rattle.snap_work.specs.Works.{Work}
use Rattle.work_gen.specs.work_text.Reads.{IsWork, IsFirstWorkFault}
use Rattle.run_work.specs.run_opening.Opens.{MayOpen}
use Rattle.run_work.specs.run_recovery.Schedules.{Schedule, seeded, free}
use Rattle.command_words.specs.Words.{IsRunCommand, IsRecover, IsMigrate, IsCompact, IsFollow, IsAudit, IsGen, IsBench, IsUsageFault}
use Rattle.snap_run.specs.Uses.{Reading, Use}
use Rattle.run_work.specs.Writings.{Writing, WritesNothing, Writes, WritesFront}
use Rattle.run_work.specs.Runs.{RunUse, IsWorkAnswer, IsBenchAnswer}
use Rattle.work_gen.specs.Generated.{generated_text}
use Rattle.snap_run.specs.Audits.{IsAuditAnswer}
use Rattle.snap_run.specs.Compactions.{IsCompactAnswer}
use Rattle.snap_run.specs.Followings.{IsFollowAnswer}
use Rattle.snap_run.specs.Migrations.{IsMigrateAnswer}
use Rattle.snap_run.specs.Recoveries.{IsRecoverAnswer}
use Rattle.snap_work.specs.declared.limits.TheConstants.{LONGEST_WORK}

-- The input was read to its end, or one byte more of it than an input may have; and P holds of what was read, whether or not the source
-- tells what it had.
abbrev pub ReadsEnough : Reading → (List ℕ → Type 0) → Type 0
ReadsEnough r P = (bytes : List ℕ) × Consumes r.left_before r.left_after bytes × (IsAtEnd r.left_after ⊎ (length bytes ≡ LONGEST_WORK + 1)) × P bytes

-- The input was read to its end, and what was read stands for a work of which this holds.
abbrev pub OfText : Reading → (Work → Type 0) → Type 0
OfText r P = (bytes : List ℕ) × Consumes r.left_before r.left_after bytes × IsAtEnd r.left_after × (w : Work) × IsWork bytes w × P w

-- the schedule of a run with so many workers: where there are none it is that of the seed
abbrev pub schedule_asked : ℕ → ℕ → Schedule
schedule_asked zero seed = seeded seed
schedule_asked (suc n) seed = free

-- a run of this work, by what the call was given and left
abbrev pub ran_of : Use → Work → Schedule → RunUse
ran_of u w schedule = record { work = w; schedule = schedule; kept = u.kept; devices_before = u.devices_before; devices_after = u.devices_after; out = u.writing; trace = u.tracing }

abbrev pub OfWork : Use → Schedule → Status → Type 0
OfWork u schedule s = OfText u.reading (λ w. IsWorkAnswer (ran_of u w schedule) s)

-- what reading and parsing may answer in place of a work
pub data IsInputAnswer (r : Reading) : Status → Type 0 where
  -- the text is refused, and told with its first fault
  input_refused : (line : ℕ) (cause : WorkCause) → ReadsEnough r (λ bytes. IsFirstWorkFault bytes (record { line = line; cause = cause }))
      → IfSome r.left_before (λ input. IsFirstWorkFault input (record { line = line; cause = cause }))
      → IsInputAnswer r (status.Input line cause)
  -- there was no memory for the text or for its work
  input_memory : IsInputAnswer r status.Memory
  -- the source failed
  input_read_fault : Rose r.faults_before r.faults_after → IsInputAnswer r status.ReadFault

-- no event was taken, nothing traced, and no log called
pub record TakesNoEvent (u : Use) : Type 0 where
  pub kept : u.kept ≡ []
  pub trace : WritesNothing u.tracing
  pub devices : u.devices_after ≡ u.devices_before

-- nothing but the input was touched: no event was taken, nothing written, and no log called
abbrev pub TouchesNothing : Use → Type 0
TouchesNothing u = TakesNoEvent u × WritesNothing u.writing

-- The answers of the command that runs the input: there is no work, and nothing but the input was touched; or it is one of
-- a run of the work.
abbrev pub IsRunAnswer : Use → Schedule → Status → Type 0
IsRunAnswer u schedule s = (IsInputAnswer u.reading s × TouchesNothing u) ⊎ OfWork u schedule s

-- nothing was read
abbrev pub ReadsNothing : Reading → Type 0
ReadsNothing r = Keeps r.left_before r.left_after

-- the answers of the command that prints a generated text
pub data IsGenAnswer (text : List ℕ) (out : Writing) : Status → Type 0 where
  gen_done : Writes out text → IsGenAnswer text out status.Done
  -- for want of memory nothing of it is printed
  gen_memory : WritesNothing out → IsGenAnswer text out status.Memory
  -- the output failed, and has taken a front of it
  gen_out_fault : WritesFront out text → Rose out.faults_before out.faults_after → IsGenAnswer text out status.OutFault

-- the text of so many transactions that the seed draws stands for a work of as many, of which this holds
abbrev pub OfGenerated : ℕ → ℕ → (Work → Type 0) → Type 0
OfGenerated count seed P = (w : Work) × IsWork (generated_text count seed) w × (length w.txs ≡ count) × P w

-- The answers of the command that runs a generated text: there was no memory for a work, and nothing was touched; or it is
-- one of a run of the work by this schedule.
abbrev pub IsMeasured : Use → Schedule → ℕ → ℕ → Status → Type 0
IsMeasured u schedule count seed s = ((s ≡ status.Memory) × TouchesNothing u) ⊎ OfGenerated count seed (λ w. IsBenchAnswer (ran_of u w schedule) s)

-- What the call answers, for each command that the words may ask for.
pub data IsAnswer (u : Use) (s : Status) : Type 0 where
  -- the input is run
  ran : (workers seed : ℕ) → IsRunCommand u.words workers seed → IsRunAnswer u (schedule_asked workers seed) s → IsAnswer u s
  -- what the logs recover to is printed
  recovered : IsRecover u.words → ReadsNothing u.reading → u.kept ≡ [] → WritesNothing u.tracing → IsRecoverAnswer u.devices_before u.devices_after u.writing s → IsAnswer u s
  -- a generated text is printed
  generated : (count seed : ℕ) → IsGen u.words count seed → ReadsNothing u.reading → TakesNoEvent u → IsGenAnswer (generated_text count seed) u.writing s → IsAnswer u s
  -- a generated text is run, by the schedule of seed 0 where there are no workers
  measured : (count seed workers : ℕ) → IsBench u.words count seed workers → ReadsNothing u.reading → IsMeasured u (schedule_asked workers 0) count seed s → IsAnswer u s
  -- those logs in use that are of format 1 are made ones of format 2
  migrated : IsMigrate u.words → ReadsNothing u.reading → u.kept ≡ [] → WritesNothing u.tracing → IsMigrateAnswer u.devices_before u.devices_after u.writing s → IsAnswer u s
  -- a checkpoint is written in place of old records
  compacted : IsCompact u.words → ReadsNothing u.reading → u.kept ≡ [] → WritesNothing u.tracing → IsCompactAnswer u.devices_before u.devices_after u.writing s → IsAnswer u s
  -- the logs are followed
  followed : (rounds : ℕ) → IsFollow u.words rounds → ReadsNothing u.reading → u.kept ≡ [] → WritesNothing u.tracing
      → IsFollowAnswer rounds u.devices_before u.devices_after u.writing s → IsAnswer u s
  -- the input is audited
  audited : IsAudit u.words → TakesNoEvent u → IsAuditAnswer u.reading u.writing s → IsAnswer u s
  -- the words are no form
  refused : (place : ℕ) → s ≡ status.Usage place → IsUsageFault u.words place → ReadsNothing u.reading → TouchesNothing u → IsAnswer u s

-- the call ended before a log was needed
abbrev pub GetsNoCall : Status → Type 0
GetsNoCall status.Done = ⊥
GetsNoCall (status.Usage place) = ⊤
GetsNoCall (status.Input line cause) = ⊤
GetsNoCall (status.Logs log offset cause) = ⊥
GetsNoCall status.Memory = ⊥
GetsNoCall status.ReadFault = ⊤
GetsNoCall (status.LogFault log) = ⊥
GetsNoCall status.OutFault = ⊥
GetsNoCall status.TraceFault = ⊥
GetsNoCall (status.Audit fault) = ⊤
GetsNoCall (status.Compact logs) = ⊥

-- The words run the input; it stands for a work; its logs hold records on which a run of it begins, if any; and no count
-- rises.
pub record IsUntroubled (u : Use) (input : List ℕ) (w : Work) (records : List (List Record)) (o : Opening) : Type 0 where
  pub run : (workers seed : ℕ) × IsRunCommand u.words workers seed
  pub known : u.reading.left_before ≡ Some input
  pub work : IsWork input w
  pub opens : MayOpen w.logs w.states u.devices_before u.devices_after records o
  pub source : ¬ Rose u.reading.faults_before u.reading.faults_after
  pub sink : ¬ Rose u.writing.faults_before u.writing.faults_after
  pub trace : ¬ Rose u.tracing.faults_before u.tracing.faults_after

-- The words print a generated text, and the output does not fail.
pub record IsPrintable (u : Use) : Type 0 where
  pub gen : (count seed : ℕ) × IsGen u.words count seed
  pub sink : ¬ Rose u.writing.faults_before u.writing.faults_after

-- The generated text stands for a work; its logs hold records on which a run of it begins, if any; and no count rises.
pub record MayBeMeasured (u : Use) (count seed : ℕ) (w : Work) (records : List (List Record)) (o : Opening) : Type 0 where
  pub work : IsWork (generated_text count seed) w
  pub opens : MayOpen w.logs w.states u.devices_before u.devices_after records o
  pub sink : ¬ Rose u.writing.faults_before u.writing.faults_after
  pub trace : ¬ Rose u.tracing.faults_before u.tracing.faults_after
