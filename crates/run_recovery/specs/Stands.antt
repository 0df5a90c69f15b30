-- What the laws of the machine say of a run of a work, in one.
use Rattle.std.specs.Prelude.{ℕ, List}
use Rattle.machine_laws.specs.Meant.{CommittedAsMeant, VerdictsAsMeant}
use Rattle.machine_laws.specs.protocol_records.AsTold.{ToldStands}
use Rattle.machine_laws.specs.protocol_theorems.Left.{RunsEnd}
use Rattle.machine_laws.specs.protocol_theorems.Order.{OrderHolds}
use Rattle.machine_laws.specs.protocol_theorems.Quiet.{AnsweredWhenQuiet}
use Rattle.machine_laws.specs.protocol_theorems.Sets.{NumbersStand}
use Rattle.machine_laws.specs.protocol_verdicts.Evidence.{VerdictsStand}
use Rattle.machine_laws.specs.protocol_verdicts.EvidenceSerial.{VerdictsTell}
use Rattle.run_recovery.specs.Beginnings.{BeginsAgain, CrashBefore}
use Rattle.run_recovery.specs.Crashes.{CrashOn, Recovers}
use Rattle.run_recovery.specs.Next.{GoesOnFrom}
use Rattle.run_recovery.specs.OneRun.{TheRun, MomentOf, alone_in, history_in, machine_in, reached_in}
use Rattle.told_codes.specs.Meant.{CodesAsMeant}

pub record RunStands (r : TheRun) : Type 0 where
  -- Its committed transactions, one by one in the order of their places as the language means each, give the results that they had;
  -- each of them did what the language means of it alone, on the states that it found; those that are told that they committed give
  -- theirs with nobody else, also where it stopped early; and where it has ended the actors' states are those that this leaves.
  pub committed : CommittedAsMeant r.work.program (machine_in r) (alone_in r.work.program r) (reached_in r) (history_in r)
  -- No two of their places are equal; on each actor, in the order in which they were placed there, places rise and states link, from
  -- the state that it began with; and where it has ended each of them is told its place and its result.
  pub order : OrderHolds (machine_in r) (alone_in r.work.program r) (reached_in r) (history_in r)
  -- Those that are told that they committed, and nobody else: with each of them all that committed and was placed before it, and one by
  -- one in the order of their places they give their results. It holds also where the run stopped early.
  pub sure : ToldStands (machine_in r) (alone_in r.work.program r) (reached_in r) (history_in r)
  -- Who is told a place is told what it means there, behind those before it. Who failed with its batch does so in the language's own
  -- words: behind the settled batches below it and the ACTs with a value and a number below the one told, its batch's PACTs by tid
  -- give a value each up to it, and it fails with the code told.
  pub told : VerdictsAsMeant r.work.program (machine_in r) (alone_in r.work.program r) r.events
  -- Who is told a code, and nobody else than those that are told so. Those that are told a place, with a value or with a code of their
  -- own, mean it one by one in the order of their places. Who is told a code of its own means it behind those alone that are told that
  -- they committed at a place below its own; who failed with its batch did so behind those of them alone that count for it. It holds
  -- also where the run stopped early.
  pub stopped_codes : CodesAsMeant r.work.program (machine_in r) (alone_in r.work.program r) r.events
  -- Each verdict has its evidence in the events of the run, and stays. Who was given up between two batches was so by an event behind
  -- which the first is the greatest of those before it, and the second the least of those behind it.
  pub evidence : VerdictsStand (machine_in r) (alone_in r.work.program r) r.events
  -- who was taken along is told who failed with that batch; and what each verdict tells of the serial runs of the machine's code
  pub codes : VerdictsTell (machine_in r) (alone_in r.work.program r) r.events
  -- the two numbers of an ACT are the ends of its sets: the greatest of the batches before it, and the least of those behind it
  pub numbers : NumbersStand (machine_in r) (alone_in r.work.program r) (reached_in r) (history_in r)
  -- it has at most 1,024 events for each transaction: a number that opens so falls at each of them
  pub ends : RunsEnd (machine_in r) (alone_in r.work.program r) r.events
  -- where it has ended all is answered: each transaction was submitted and replied to, and nothing is under way any more
  pub answered : AnsweredWhenQuiet (machine_in r) (alone_in r.work.program r) (reached_in r) (history_in r)
  -- a crash while it begins loses no record of the logs in use, and a run of the same states begins on what is left
  pub begins : (images : ℕ → List ℕ) → CrashBefore r images → BeginsAgain r images
  -- whatever a crash leaves at any moment of it recovers
  pub recovers : (m : MomentOf r) (images : ℕ → List ℕ) → CrashOn r m images → Recovers r.work.program r m images
  -- and what it leaves is what the next run goes on from
  pub goes_on : (m : MomentOf r) (images : ℕ → List ℕ) → (left : Recovers r.work.program r m images) → GoesOnFrom left
