-- Where nothing stands in the way of a run, only two answers are left.
use Rattle.std.proofs.Common.{◌≡◌, ◌⊎◌, inl, inr, ℕ, List, Option, IfSome, refl, subst}
use Rattle.command_words.specs.CommandLaws.{OneCommand}
use Rattle.command_words.specs.Words.{IsBench}
use Rattle.run_work.specs.run_recovery.Schedules.{Schedule}
use Rattle.run_work.specs.Runs.{Printing, reporting, summing, RunUse, IsAnswerOf, IsOfLogs}
use Rattle.run_work.specs.Writings.{Writing}
use Rattle.snap_outside.specs.Causes.{Rose}
use Rattle.run_work.specs.run_opening.snap_recover.declared.openings.Opening.{Opening}
use Rattle.snap_report.specs.declared.statuses.Status.{Status}
use Rattle.snap_report.specs.declared.statuses.Status.TheVariants as status
use Rattle.snap_run.proofs.Outcomes.{not_both, run_not_gen, recover_not_gen, run_not_bench, recover_not_bench, gen_not_bench, run_not_migrate, gen_not_migrate, bench_not_migrate, run_not_audit, gen_not_audit, bench_not_audit, run_not_compact, gen_not_compact, bench_not_compact, run_not_follow, gen_not_follow, bench_not_follow}
use Rattle.snap_run.specs.Answers.{schedule_asked, ran_of, IsInputAnswer, input_refused, input_memory, input_read_fault, IsRunAnswer, IsGenAnswer, gen_done, gen_memory, gen_out_fault}
use Rattle.snap_run.specs.Answers.{IsAnswer, ran, recovered, generated, measured, migrated, compacted, followed, audited, refused, IsUntroubled, IsPrintable, MayBeMeasured}
use Rattle.work_gen.specs.Generated.{generated_text}
use Rattle.snap_run.specs.Uses.{Use}
use Rattle.snap_work.specs.declared.faults.WorkFault.{WorkFault}
use Rattle.snap_work.specs.Works.{Work}
use Rattle.record_log.specs.txn_records.declared.records.Record.{Record}
use Rattle.work_gen.specs.work_text.Reads.{IsWork, IsFirstWorkFault}

-- what the law fault_or_work of work_text says
abbrev pub FaultOrWork : Type 0
FaultOrWork = (text : List ℕ) (f : WorkFault) (w : Work) → IsFirstWorkFault text f → ¬ IsWork text w

-- it is run to its end
ended : (p : Printing) (r : RunUse) (s : Status) → ¬ IsOfLogs s → ¬ Rose r.out.faults_before r.out.faults_after → ¬ Rose r.trace.faults_before r.trace.faults_after → IsAnswerOf p r s
    → (s ≡ status.Done) ⊎ (s ≡ status.Memory)
ended p r status.Done not sink trace a = inl refl
ended p r (status.Usage place) not sink trace a = absurd a
ended p r (status.Input line cause) not sink trace a = absurd a
ended p r (status.Logs log offset cause) not sink trace a = absurd (not tt)
ended p r status.Memory not sink trace a = inr refl
ended p r status.ReadFault not sink trace a = absurd a
ended p r (status.LogFault log) not sink trace a = absurd (not tt)
ended p r status.OutFault not sink trace a = absurd (sink a.0)
ended p r status.TraceFault not sink trace a = absurd (trace a.0)
ended p r (status.Audit fault) not sink trace a = absurd a
ended p r (status.Compact logs) not sink trace a = absurd a

module _ (one : OneCommand) (apart : FaultOrWork) (u : Use) (text : List ℕ) (w : Work) (records : List (List Record)) (o : Opening) (t : IsUntroubled u text w records o) where
  -- the text is accepted
  of_input : (s : Status) → IsInputAnswer u.reading s → (s ≡ status.Done) ⊎ (s ≡ status.Memory)
  of_input s (input_refused line cause enough fault) =
      let f : WorkFault = record { line = line; cause = cause } in
      absurd (apart text f w (subst (λ (left : Option (List ℕ)). IfSome left (λ input. IsFirstWorkFault input f)) t.known fault) t.work)
  of_input s input_memory = inr refl
  of_input s (input_read_fault rose) = absurd (t.source rose)

  run_completed : (schedule : Schedule) (s : Status) → ¬ IsOfLogs s → IsRunAnswer u schedule s → (s ≡ status.Done) ⊎ (s ≡ status.Memory)
  run_completed schedule s not (inl a) = of_input s a.0
  run_completed schedule s not (inr a) =
      ended reporting (ran_of u a.3 schedule) s not t.sink t.trace a.5

  pub completed : (s : Status) → ¬ IsOfLogs s → IsAnswer u s → (s ≡ status.Done) ⊎ (s ≡ status.Memory)
  completed s not (ran n seed run a) = run_completed (schedule_asked n seed) s not a
  completed s not (recovered recover _ _ _ _) = absurd (not_both one u.words t.run.0 t.run.1 t.run.2 recover)
  completed s not (generated count seed gen _ _ _) = absurd (run_not_gen one u.words t.run.0 t.run.1 count seed t.run.2 gen)
  completed s not (measured count seed n bench _ _) = absurd (run_not_bench one u.words t.run.0 t.run.1 count seed n t.run.2 bench)
  completed s not (migrated migrate _ _ _ _) = absurd (run_not_migrate one u.words t.run.0 t.run.1 t.run.2 migrate)
  completed s not (compacted compact _ _ _ _) = absurd (run_not_compact one u.words t.run.0 t.run.1 t.run.2 compact)
  completed s not (followed j follow _ _ _ _) = absurd (run_not_follow one u.words t.run.0 t.run.1 j t.run.2 follow)
  completed s not (audited audit _ _) = absurd (run_not_audit one u.words t.run.0 t.run.1 t.run.2 audit)
  completed s not (refused place is fault _ _) = absurd (fault.no_form (inl t.run))

-- ---- the command that prints a generated text

gen_completed : (text : List ℕ) (out : Writing) (s : Status) → ¬ Rose out.faults_before out.faults_after → IsGenAnswer text out s → (s ≡ status.Done) ⊎ (s ≡ status.Memory)
gen_completed text out s quiet (gen_done writes) = inl refl
gen_completed text out s quiet (gen_memory nothing) = inr refl
gen_completed text out s quiet (gen_out_fault front rose) = absurd (quiet rose)

pub completed_gen : OneCommand → (u : Use) → IsPrintable u → (s : Status) → IsAnswer u s → (s ≡ status.Done) ⊎ (s ≡ status.Memory)
completed_gen one u may s (ran n seed run _) = absurd (run_not_gen one u.words n seed may.gen.0 may.gen.1 run may.gen.2)
completed_gen one u may s (recovered recover _ _ _ _) = absurd (recover_not_gen one u.words may.gen.0 may.gen.1 recover may.gen.2)
completed_gen one u may s (generated count seed gen _ _ a) = gen_completed (generated_text count seed) u.writing s may.sink a
completed_gen one u may s (measured count seed n bench _ _) = absurd (gen_not_bench one u.words may.gen.0 may.gen.1 count seed n may.gen.2 bench)
completed_gen one u may s (migrated migrate _ _ _ _) = absurd (gen_not_migrate one u.words may.gen.0 may.gen.1 may.gen.2 migrate)
completed_gen one u may s (compacted compact _ _ _ _) = absurd (gen_not_compact one u.words may.gen.0 may.gen.1 may.gen.2 compact)
completed_gen one u may s (followed j follow _ _ _ _) = absurd (gen_not_follow one u.words may.gen.0 may.gen.1 j may.gen.2 follow)
completed_gen one u may s (audited audit _ _) = absurd (gen_not_audit one u.words may.gen.0 may.gen.1 may.gen.2 audit)
completed_gen one u may s (refused place is fault _ _) = absurd (fault.no_form (inr (inr (inl (may.gen.0, may.gen.1, may.gen.2)))))

-- ---- the command that runs a generated text

pub completed_bench : OneCommand → (u : Use) (count seed n : ℕ) (w : Work) (records : List (List Record)) (o : Opening) → IsBench u.words count seed n → MayBeMeasured u count seed w records o
    → (s : Status) → ¬ IsOfLogs s → IsAnswer u s → (s ≡ status.Done) ⊎ (s ≡ status.Memory)
completed_bench one u count seed n w records o bench may s not (ran m first run _) = absurd (run_not_bench one u.words m first count seed n run bench)
completed_bench one u count seed n w records o bench may s not (recovered recover _ _ _ _) = absurd (recover_not_bench one u.words count seed n recover bench)
completed_bench one u count seed n w records o bench may s not (generated other last gen _ _ _) = absurd (gen_not_bench one u.words other last count seed n gen bench)
completed_bench one u count seed n w records o bench may s not (measured other last m _ _ (inl none)) = inr none.0
completed_bench one u count seed n w records o bench may s not (measured other last m _ _ (inr run)) =
    ended summing (ran_of u run.0 (schedule_asked m 0)) s not may.sink may.trace run.3
completed_bench one u count seed n w records o bench may s not (migrated migrate _ _ _ _) = absurd (bench_not_migrate one u.words count seed n bench migrate)
completed_bench one u count seed n w records o bench may s not (compacted compact _ _ _ _) = absurd (bench_not_compact one u.words count seed n bench compact)
completed_bench one u count seed n w records o bench may s not (followed j follow _ _ _ _) = absurd (bench_not_follow one u.words count seed n j bench follow)
completed_bench one u count seed n w records o bench may s not (audited audit _ _) = absurd (bench_not_audit one u.words count seed n bench audit)
completed_bench one u count seed n w records o bench may s not (refused place is fault _ _) = absurd (fault.no_form (inr (inr (inr (inl (count, seed, n, bench))))))
