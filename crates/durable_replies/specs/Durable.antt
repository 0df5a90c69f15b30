-- Told only when durable: at each point of each play, of whoever is told by then that it committed a crash leaves the records.
use Rattle.std.specs.Prelude.{◌≡◌, ℕ, ◌<◌, ◌≤◌, ◌⊎◌, ℤ, List, [], ◌∷◌, ◌++◌}
use Rattle.audit_words.specs.Papers.{AreWhole, IsWellFormedLine, Reply}
use Rattle.command_words.specs.Words.{IsRunCommand}
use Rattle.protocol_laws.specs.Told.{IsAmongDone}
use Rattle.record_log.specs.Records.{HoldsRecords, IsKeptImage}
use Rattle.record_log.specs.txn_records.declared.records.Record.{Record}
use Rattle.run_opening.specs.Opens.{AreHeldEmpty, IsKeptOrAdded}
use Rattle.run_opening.specs.Starts.{first_record}
use Rattle.run_opening.specs.log_opening.Devices.{IsToBeCleared}
use Rattle.run_opening.specs.log_opening.Kept.{AreUsed}
use Rattle.run_recovery.specs.Crashes.{CrashOn, Recovers}
use Rattle.run_recovery.specs.Next.{GoesOnFrom}
use Rattle.run_recovery.specs.OneRun.{TheRun, MomentOf}
use Rattle.run_recovery.specs.Several.{members_left}
use Rattle.aml_slice.specs.aml_tree.Tree.{CheckedMethod}
use Rattle.snap_base.specs.declared.transactions.TxResult.TheVariants.{Value}
use Rattle.snap_base.specs.declared.verdicts.Place.{Place}
use Rattle.snap_base.specs.declared.verdicts.Verdict.TheVariants.{Committed}
use Rattle.snap_outside.specs.Disk.{content, disk, disk_after, settled, IsImage}
use Rattle.snap_report.specs.Lines.{reply_text}
use Rattle.snap_work.specs.Works.{Work}
use Rattle.work_text.specs.Reads.{IsWork}
use Rattle.durable_replies.specs.Bodies.{Body, Calls, Change}
use Rattle.durable_replies.specs.Meets.{MeetsContract, devices_before}
use Rattle.durable_replies.specs.Plays.{Outside, Happening, Made, Play, ops_on, printed_in}

-- ---- a crash

-- What may be made already of the call that the body makes next: nothing, or the operation that it is. What a crash leaves once a write is
-- made is any mixture of what was and what is written.
abbrev pub MayBeMade : Body → List Happening → Type 0
MayBeMade (Calls (Change d op) next) under = (under ≡ []) ⊎ (under ≡ Made d op ∷ [])
MayBeMade b under = under ≡ []

-- A crash at the point of a play where all this has happened and the body goes on so: each device got what it got, and perhaps the
-- operation that is under way; and these bytes are left. Bytes that the output took before an answer came make a point further on.
pub record CrashAt (o : Outside) (hs : List Happening) (rest : Body) (images : ℕ → List ℕ) : Type 0 where
  pub under : List Happening
  pub may : MayBeMade rest under
  pub left : (d : ℕ) → d < 4 → IsImage (disk_after (ops_on d (hs ++ under)) (disk (o.devices d))) (images d)

-- The devices hold logs of these records as the body begins, and they are durable.
pub record HoldDurably (o : Outside) (held : ℕ → List Record) : Type 0 where
  pub durable : (d : ℕ) → d < 4 → disk (o.devices d) ≡ settled (content (o.devices d))
  pub holds : (d : ℕ) → d < 4 → HoldsRecords (content (o.devices d)) (held d)

-- ---- what is told

-- the line of a reply that tells that a transaction committed
abbrev pub TellsCommit : List ℕ → Type 0
TellsCommit line = (n : ℕ) × (p : Place) × (v : ℤ) × (line ≡ reply_text n (Committed p v))

-- the line stands whole in the bytes: where they begin, or behind a line feed
abbrev pub HasLine : List ℕ → List ℕ → Type 0
HasLine bytes line = (front rest : List ℕ) × AreWhole front × (bytes ≡ front ++ (line ++ rest))

-- the line is that of a transaction that is recovered, at its place and with its value
abbrev pub IsMembersLine : {p : List CheckedMethod} {r : TheRun} {m : MomentOf r} {images : ℕ → List ℕ} → Recovers p r m images → List ℕ → Type 0
IsMembersLine left line = (n : ℕ) × (p : Place) × (v : ℤ) × (line ≡ reply_text n (Committed p v)) × IsAmongDone n p (Value v) (members_left left)

-- ---- what stands at the point

-- what is left of device d holds what it held; and is no log of format 1 with an item, where that was none
abbrev pub IsKept : Outside → (ℕ → List Record) → (ℕ → List ℕ) → ℕ → Type 0
IsKept o held images d = IsKeptImage (content (o.devices d)) (held d) (images d)

-- No record is lost; only, of the other side of a set with a checkpoint, which is to be cleared, a log may hold none; and only where no
-- log in use held one, log 0 may hold Genesis too.
pub data LosesNothing (o : Outside) (held : ℕ → List Record) (images : ℕ → List ℕ) : Type 0 where
  keeps : ((d : ℕ) → d < 4 → IsKept o held images d) → LosesNothing o held images
  clears : (w : Work) (head generation : ℕ) → IsWork o.input w → AreUsed w.logs (devices_before o) head w.logs generation → 1 ≤ generation
      → ((d : ℕ) → d < 4 → IsToBeCleared head w.logs generation d → HoldsRecords (images d) (held d) ⊎ HoldsRecords (images d) [])
      → ((d : ℕ) → d < 4 → ¬ IsToBeCleared head w.logs generation d → IsKept o held images d) → LosesNothing o held images
  begins : (w : Work) → IsWork o.input w → AreHeldEmpty w.logs (devices_before o)
      → IsKeptOrAdded (content (o.devices 0)) (held 0) (first_record w.logs w.states ∷ []) (images 0)
      → ((d : ℕ) → 0 < d → d < 4 → IsKept o held images d) → LosesNothing o held images

-- No run has begun: nobody is told that it committed, and no record is lost.
pub record StandsUnbegun (o : Outside) (held : ℕ → List Record) (hs : List Happening) (images : ℕ → List ℕ) : Type 0 where
  pub none : (line : List ℕ) → TellsCommit line → ¬ HasLine (printed_in hs) line
  pub kept : LosesNothing o held images

-- It is a crash at a moment of a run of the input's work on these devices. What is left recovers, and a run goes on from it. Who is told
-- by then that it committed, in a whole line of numbers of their types, is recovered, at the place that it is told and with the value; and
-- whatever the numbers, a line that tells of a commit is that of one that is recovered.
pub record StandsInRun (o : Outside) (hs : List Happening) (images : ℕ → List ℕ) : Type 0 where
  pub run : TheRun
  pub work : IsWork o.input run.work
  pub devices : run.before ≡ devices_before o
  pub moment : MomentOf run
  pub crash : CrashOn run moment images
  pub left : Recovers run.work.program run moment images
  pub goes_on : GoesOnFrom left
  pub told : (n : ℕ) (p : Place) (v : ℤ) → IsWellFormedLine (Reply n (Committed p v)) → HasLine (printed_in hs) (reply_text n (Committed p v))
      → IsAmongDone n p (Value v) (members_left left)
  pub lines : (line : List ℕ) → TellsCommit line → HasLine (printed_in hs) line → IsMembersLine left line

-- A body that meets the contract of the top call where it is given words to run the input, one thread that does not see what will be
-- answered, has told nobody that it committed at any point of any play, be it cut off anywhere, whom a crash there does not leave.
abbrev pub ToldOnlyWhenDurable : Type 0
ToldOnlyWhenDurable =
    (o : Outside) (b : Body) (workers seed : ℕ) → IsRunCommand o.words workers seed → MeetsContract o b → (held : ℕ → List Record) → HoldDurably o held
    → (rest : Body) (hs : List Happening) → Play o b [] rest hs → (images : ℕ → List ℕ) → CrashAt o hs rest images
    → StandsUnbegun o held hs images ⊎ StandsInRun o hs images
