-- What a run on its logs is to the laws of the machine, and what a crash at a moment of it recovers to.
use Rattle.std.specs.Prelude.{◌≡◌, refl, ℕ, ◌+◌, ◌<◌, ◌≤◌, nat_lt, Bool, true, false, List, length}
use Rattle.std.proofs.Common.{arith, sym, subst, ◌∙◌}
use Rattle.std.proofs.lemmas.Bool.{ltb-true, lt-ltb, true≢false}
use Rattle.aml_slice.specs.Controls.{Rest}
use Rattle.aml_slice.specs.aml_tree.Tree.{CheckedMethod}
use Rattle.run_opening.specs.log_opening.Devices.{Device}
use Rattle.machine_laws.specs.Programs.{AfterEveryRunOf, AtEveryMomentOf, IsTextOf, OfEveryRunOf, finish_of}
use Rattle.machine_recovery.specs.OnLogs.{AtEveryMomentOnLogsOf, RecoversAsMeant}
use Rattle.protocol.specs.Effects as effects
use Rattle.protocol.specs.Events as machine
use Rattle.protocol.specs.Fixed.{Fixed}
use Rattle.protocol.specs.Facts.{Alone}
use Rattle.protocol.specs.History.{History, history}
use Rattle.protocol.specs.Moments.{IsLeft, left_in}
use Rattle.protocol.specs.Parts.{Machine}
use Rattle.protocol.specs.Runs.{IsRun, opening, reached}
use Rattle.machine_laws.specs.protocol_records.Crash.{CrashHolds}
use Rattle.record_log.specs.GrowthLaws.{MomentIsRecent, MomentKeeps}
use Rattle.machine_recovery.specs.compact_laws.Members.{FoldsToMembers}
use Rattle.machine_recovery.specs.compact_laws.Stays.{UsedStays}
use Rattle.machine_recovery.specs.recovery_laws.Grown.{BeginsWith}
use Rattle.machine_recovery.proofs.recovery_laws.MomentsJoined.{front_allowed}
use Rattle.run_opening.specs.Opens.{records_at}
use Rattle.run_effects.specs.Laws.{GroupsAreDurable}
use Rattle.snap_base.specs.declared.transactions.State.{State}
use Rattle.snap_recover.specs.declared.openings.Opening.{Opening}
use Rattle.snap_work.specs.Kept.{KeepsLimits}
use Rattle.snap_work.specs.Works.{Work}
use Rattle.run_recovery.specs.Crashes.{CrashOn, Recovers, earlier}
use Rattle.run_recovery.specs.EachRun.{AfterEachRun, OfEachRun}
use Rattle.run_recovery.specs.OneRun.{TheRun, MomentOf, machine_in, reached_at, the_run}
use Rattle.run_recovery.specs.Runs.{AreRunDevices, HasRunWork, machine_of, text_of}
use Rattle.run_recovery.specs.Schedules.{Schedule}
use Rattle.run_recovery.proofs.BegunTexts.{begins_with, starts_with_as_many, text_begins}
use Rattle.run_recovery.proofs.FourDevices.{within_four}
use Rattle.run_recovery.proofs.FoundFour.{FourLaws}
use Rattle.run_recovery.proofs.LogsLeft.{HoldsCut, IsCutTo, cut_at, cut_synced, first_long, recent_at}
use Rattle.run_recovery.proofs.RunFour.{RunFour, moment_asides, run_four}
use Rattle.run_recovery.proofs.RunsFollowed.{taken_run}

-- ---- a run of the machine

is_run : (w : Work) (schedule : Schedule) (o : Opening) (es : List machine.Event) (failed : ℕ → Bool) (before after : List Device) → HasRunWork w schedule o es failed before after → IsRun (machine_of w o) es
is_run w schedule o es failed before after run = taken_run (machine_of w o) schedule es run.front

is_text : (w : Work) (schedule : Schedule) (o : Opening) (es : List machine.Event) (failed : ℕ → Bool) (before after : List Device) → KeepsLimits w → HasRunWork w schedule o es failed before after → IsTextOf w.program (text_of w o)
is_text w schedule o es failed before after kept run = text_begins w o kept run.room (starts_with_as_many run.devices.records w.states o run.devices.added run.devices.start)

-- what holds of every run of the program's texts holds of each run of a work of it
pub of_run : (P : Fixed Rest → (Rest → List State → Alone) → List machine.Event → Type 0) (p : List CheckedMethod) → OfEveryRunOf p P → OfEachRun p P
of_run P p law w schedule o es failed before after e kept run =
    subst (λ q. P (machine_of w o) (finish_of q (text_of w o)) es) e
    (subst (λ q. OfEveryRunOf q P) (sym e) law (text_of w o) es (is_text w schedule o es failed before after kept run) (is_run w schedule o es failed before after run))

pub after_run : (P : Fixed Rest → (Rest → List State → Alone) → Machine Rest → History → Type 0) (p : List CheckedMethod) → AfterEveryRunOf p P → AfterEachRun p P
after_run P p law = of_run (λ w finish es. P w finish (reached w es) (history w es)) p law

-- ---- a crash

-- what the laws say, of the program
pub record Laws (p : List CheckedMethod) : Type 0 where
  pub members : AtEveryMomentOnLogsOf p FoldsToMembers
  pub meant : AtEveryMomentOnLogsOf p (RecoversAsMeant p)
  pub in_order : AtEveryMomentOf p CrashHolds
  pub moment : MomentKeeps
  pub recent : MomentIsRecent
  pub durable : (v : Fixed Rest) → GroupsAreDurable v
  pub four : FourLaws
  pub stays : UsedStays

-- a log is left with so many, where it is one of the run
record IsPicked (r : TheRun) (m : MomentOf r) (images : ℕ → List ℕ) (l k : ℕ) : Type 0 where
  cut : IsCutTo (machine_in r) r.events m l k
  holds : l < r.work.logs → HoldsCut (machine_in r) r.events m l (records_at (earlier r) l) (images (r.devices.head + l)) k

picked : (r : TheRun) (m : MomentOf r) (images : ℕ → List ℕ) → MomentKeeps → GroupsAreDurable (machine_in r) → IsRun (machine_in r) m.events → CrashOn r m images → r.devices.head + r.work.logs ≤ 4
    → (l : ℕ) → (k : ℕ) × IsPicked r m images l k
picked r m images keeps synced run crash within l = by (nat_lt l r.work.logs) refl
  where
    by : (b : Bool) → nat_lt l r.work.logs ≡ b → (k : ℕ) × IsPicked r m images l k
    by true e = let c = cut_at r m images keeps synced run crash within l (ltb-true l r.work.logs e) in (c.0, record { cut = c.1; holds = λ lt. c.2 })
    by false e = (
      (effects.log_at (reached_at r m) l).synced,
      record { cut = cut_synced (machine_in r) r.events m l; holds = λ lt. absurd (true≢false (sym (lt-ltb l r.work.logs lt) ∙ e)) },
    )

run_recovers : (w : Work) (schedule : Schedule) (o : Opening) (es : List machine.Event) (failed : ℕ → Bool) (before after : List Device) → Laws w.program → KeepsLimits w → (run : HasRunWork w schedule o es failed before after)
    → (m : MomentOf (the_run run)) (images : ℕ → List ℕ) → CrashOn (the_run run) m images → Recovers w.program (the_run run) m images
run_recovers w schedule o es failed before after laws limits run m images crash = record {
  kept = kept;
  left = left;
  now = four.now;
  holds = four.holds;
  recent = λ l lt. recent_at r m images laws.recent crash within l lt;
  lists = four.lists;
  used = four.used;
  set = four.set;
  members = laws.members (text_of w o) es m kept (earlier r) devices.fold text all left many devices.folds begins;
  meant = laws.meant (text_of w o) es m kept (earlier r) devices.fold text all left many devices.folds begins;
  stands = (laws.in_order (text_of w o) es m kept text all left).stands;
}
  where
    r : TheRun
    r = the_run run

    devices : AreRunDevices w o es failed before after
    devices = run.devices

    text : IsTextOf w.program (text_of w o)
    text = is_text w schedule o es failed before after limits run

    all : IsRun (machine_of w o) es
    all = is_run w schedule o es failed before after run

    front : IsRun (machine_of w o) m.events
    front = front_allowed (machine_of w o) m.events m.later (opening (machine_of w o)) (subst (IsRun (machine_of w o)) m.splits all)

    now : Machine Rest
    now = reached_at r m

    within : devices.head + w.logs ≤ 4
    within = within_four devices.used.fronts devices.head w.logs devices.generation (omega (arith, limits.logs.1)) devices.used.used

    pick : (l : ℕ) → (k : ℕ) × IsPicked r m images l k
    pick = picked r m images laws.moment (laws.durable (machine_of w o)) front crash within

    kept : ℕ → ℕ
    kept l = (pick l).0

    left : IsLeft (machine_of w o) es m kept
    left = record { same = λ l. (pick l).1.cut.same; whole = λ l. (pick l).1.cut.whole }

    many : length (earlier r) ≡ w.logs
    many = first_long devices.records devices.added ∙ devices.as_many

    begins : BeginsWith (text_of w o) devices.fold.opening
    begins = subst (BeginsWith (text_of w o)) (sym devices.opens) (begins_with w o)

    four : RunFour r images (left_in now kept)
    four = run_four laws.four laws.stays r crash.held images (left_in now kept) limits (moment_asides laws.four r m images limits crash) (λ l lt. (pick l).1.holds lt)

pub recovers : (p : List CheckedMethod) → Laws p → (w : Work) (schedule : Schedule) (o : Opening) (es : List machine.Event) (failed : ℕ → Bool) (before after : List Device) → w.program ≡ p → KeepsLimits w
    → (run : HasRunWork w schedule o es failed before after) → (m : MomentOf (the_run run)) (images : ℕ → List ℕ) → CrashOn (the_run run) m images → Recovers p (the_run run) m images
recovers p laws w schedule o es failed before after e limits run m images crash =
    subst (λ q. Recovers q (the_run run) m images) e (run_recovers w schedule o es failed before after (subst Laws (sym e) laws) limits run m images crash)
