-- What the top call promises, from what a run and the other command promise.
use Rattle.std.proofs.Common.{◌≡◌, ◌<◌, ◌≤◌, inl, inr, ℕ, zero, suc, List, [], Some, refl, sym, ap, ◌∙◌, subst, arith}
use Rattle.std.specs.List.{AllZip}
use Rattle.snap_report.specs.declared.statuses.Status.{Status}
use Rattle.snap_report.specs.declared.statuses.Status.TheVariants as status
use Rattle.snap_work.specs.Works.{Work}
use Rattle.work_gen.specs.work_text.Reads.{IsWork}
use Rattle.record_log.specs.Records.{KeepsRecords}
use Rattle.log_following.specs.log_opening.Devices.{Device, IsOpenedAtMost}
use Rattle.run_work.specs.run_opening.Opens.{MayOpen}
use Rattle.run_work.specs.run_recovery.Schedules.{free}
use Rattle.run_work.specs.Runs.{Printing, RunUse, IsAnswerOf, IsWorkAnswer, IsOfLogs}
use Rattle.run_work.specs.Writings.{Writing, WritesNothing}
use Rattle.run_work.specs.run_opening.snap_recover.declared.openings.Opening.{Opening}
use Rattle.command_words.specs.declared.commands.Command.{Command}
use Rattle.command_words.specs.declared.commands.Command.TheVariants.{Run, Recover, Migrate, Compact, Follow, Audit, Gen, Bench}
use Rattle.command_words.specs.CommandLaws.{OneCommand}
use Rattle.command_words.specs.Commands.{IsCommand}
use Rattle.command_words.specs.Words.{AreLastWorkers, IsRunCommand, IsRecover, IsMigrate, IsCompact, IsFollow, IsAudit, IsGen, IsBench, IsForm, IsUsageFault}
use Rattle.command_words.specs.Workers.{workers_in, AskFor}
use Rattle.snap_run.specs.Uses.{Reading, Use}
use Rattle.snap_run.specs.Audits.{IsAuditAnswer}
use Rattle.log_compaction.specs.Crashes.{CompactsSafely}
use Rattle.log_following.specs.Readings.{AreUntouched}
use Rattle.snap_run.specs.Followings.{IsFollowAnswer, follow_done, follow_refused, follow_memory, follow_log_fault, follow_out_fault}
use Rattle.snap_run.specs.Compactions.{IsCompactAnswer, compact_done, compact_refused, compact_too_many, compact_memory, compact_log_fault, compact_out_fault}
use Rattle.snap_run.specs.Migrations.{IsMigrateAnswer, migrate_done, migrate_refused, migrate_memory, migrate_log_fault, migrate_out_fault}
use Rattle.snap_run.specs.Recoveries.{IsRecoverAnswer, recover_done, recover_refused, recover_memory, recover_log_fault, recover_out_fault}
use Rattle.snap_run.proofs.InputLaws.{known_input}
use Rattle.snap_run.specs.Answers.{OfText, schedule_asked, ran_of, ReadsNothing, IsInputAnswer, input_refused, input_memory, input_read_fault, TouchesNothing, TakesNoEvent, IsGenAnswer}
use Rattle.snap_run.specs.Answers.{IsMeasured, ran, recovered, generated, measured, migrated, compacted, followed, audited, refused, GetsNoCall, IsUntroubled, MayBeMeasured}
use Rattle.work_gen.specs.Generated.{generated_text}
use Rattle.snap_run.specs.Outcomes.{IsOutcome}
use Rattle.record_log.specs.txn_records.declared.records.Record.{Record}

-- ---- the words ask for one thing

pub not_both : OneCommand → (words : List (List ℕ)) (n seed : ℕ) → IsRunCommand words n seed → IsRecover words → ⊥
not_both one words n seed run recover = let e : Run n seed ≡ Recover = one words (Run n seed) Recover run recover in cc

pub run_not_gen : OneCommand → (words : List (List ℕ)) (n seed count last : ℕ) → IsRunCommand words n seed → IsGen words count last → ⊥
run_not_gen one words n seed count last run gen = let e : Run n seed ≡ Gen count last = one words (Run n seed) (Gen count last) run gen in cc

pub recover_not_gen : OneCommand → (words : List (List ℕ)) (count last : ℕ) → IsRecover words → IsGen words count last → ⊥
recover_not_gen one words count last recover gen = let e : Recover ≡ Gen count last = one words Recover (Gen count last) recover gen in cc

pub run_not_bench : OneCommand → (words : List (List ℕ)) (n seed count last m : ℕ) → IsRunCommand words n seed → IsBench words count last m → ⊥
run_not_bench one words n seed count last m run bench = let e : Run n seed ≡ Bench count last m = one words (Run n seed) (Bench count last m) run bench in cc

pub recover_not_bench : OneCommand → (words : List (List ℕ)) (count last m : ℕ) → IsRecover words → IsBench words count last m → ⊥
recover_not_bench one words count last m recover bench = let e : Recover ≡ Bench count last m = one words Recover (Bench count last m) recover bench in cc

pub gen_not_bench : OneCommand → (words : List (List ℕ)) (count seed other last m : ℕ) → IsGen words count seed → IsBench words other last m → ⊥
gen_not_bench one words count seed other last m gen bench = let e : Gen count seed ≡ Bench other last m = one words (Gen count seed) (Bench other last m) gen bench in cc

pub run_not_migrate : OneCommand → (words : List (List ℕ)) (n seed : ℕ) → IsRunCommand words n seed → IsMigrate words → ⊥
run_not_migrate one words n seed run migrate = let e : Run n seed ≡ Migrate = one words (Run n seed) Migrate run migrate in cc

pub recover_not_migrate : OneCommand → (words : List (List ℕ)) → IsRecover words → IsMigrate words → ⊥
recover_not_migrate one words recover migrate = let e : Recover ≡ Migrate = one words Recover Migrate recover migrate in cc

pub gen_not_migrate : OneCommand → (words : List (List ℕ)) (count seed : ℕ) → IsGen words count seed → IsMigrate words → ⊥
gen_not_migrate one words count seed gen migrate = let e : Gen count seed ≡ Migrate = one words (Gen count seed) Migrate gen migrate in cc

pub bench_not_migrate : OneCommand → (words : List (List ℕ)) (count seed n : ℕ) → IsBench words count seed n → IsMigrate words → ⊥
bench_not_migrate one words count seed n bench migrate = let e : Bench count seed n ≡ Migrate = one words (Bench count seed n) Migrate bench migrate in cc

pub run_not_audit : OneCommand → (words : List (List ℕ)) (n seed : ℕ) → IsRunCommand words n seed → IsAudit words → ⊥
run_not_audit one words n seed run audit = let e : Run n seed ≡ Audit = one words (Run n seed) Audit run audit in cc

pub recover_not_audit : OneCommand → (words : List (List ℕ)) → IsRecover words → IsAudit words → ⊥
recover_not_audit one words recover audit = let e : Recover ≡ Audit = one words Recover Audit recover audit in cc

pub migrate_not_audit : OneCommand → (words : List (List ℕ)) → IsMigrate words → IsAudit words → ⊥
migrate_not_audit one words migrate audit = let e : Migrate ≡ Audit = one words Migrate Audit migrate audit in cc

pub gen_not_audit : OneCommand → (words : List (List ℕ)) (count seed : ℕ) → IsGen words count seed → IsAudit words → ⊥
gen_not_audit one words count seed gen audit = let e : Gen count seed ≡ Audit = one words (Gen count seed) Audit gen audit in cc

pub bench_not_audit : OneCommand → (words : List (List ℕ)) (count seed n : ℕ) → IsBench words count seed n → IsAudit words → ⊥
bench_not_audit one words count seed n bench audit = let e : Bench count seed n ≡ Audit = one words (Bench count seed n) Audit bench audit in cc

pub run_not_compact : OneCommand → (words : List (List ℕ)) (n seed : ℕ) → IsRunCommand words n seed → IsCompact words → ⊥
run_not_compact one words n seed run compact = let e : Run n seed ≡ Compact = one words (Run n seed) Compact run compact in cc

pub recover_not_compact : OneCommand → (words : List (List ℕ)) → IsRecover words → IsCompact words → ⊥
recover_not_compact one words recover compact = let e : Recover ≡ Compact = one words Recover Compact recover compact in cc

pub migrate_not_compact : OneCommand → (words : List (List ℕ)) → IsMigrate words → IsCompact words → ⊥
migrate_not_compact one words migrate compact = let e : Migrate ≡ Compact = one words Migrate Compact migrate compact in cc

pub audit_not_compact : OneCommand → (words : List (List ℕ)) → IsAudit words → IsCompact words → ⊥
audit_not_compact one words audit compact = let e : Audit ≡ Compact = one words Audit Compact audit compact in cc

pub gen_not_compact : OneCommand → (words : List (List ℕ)) (count seed : ℕ) → IsGen words count seed → IsCompact words → ⊥
gen_not_compact one words count seed gen compact = let e : Gen count seed ≡ Compact = one words (Gen count seed) Compact gen compact in cc

pub bench_not_compact : OneCommand → (words : List (List ℕ)) (count seed n : ℕ) → IsBench words count seed n → IsCompact words → ⊥
bench_not_compact one words count seed n bench compact = let e : Bench count seed n ≡ Compact = one words (Bench count seed n) Compact bench compact in cc

pub run_not_follow : OneCommand → (words : List (List ℕ)) (n seed j : ℕ) → IsRunCommand words n seed → IsFollow words j → ⊥
run_not_follow one words n seed j run follow = let e : Run n seed ≡ Follow j = one words (Run n seed) (Follow j) run follow in cc

pub recover_not_follow : OneCommand → (words : List (List ℕ)) (j : ℕ) → IsRecover words → IsFollow words j → ⊥
recover_not_follow one words j recover follow = let e : Recover ≡ Follow j = one words Recover (Follow j) recover follow in cc

pub migrate_not_follow : OneCommand → (words : List (List ℕ)) (j : ℕ) → IsMigrate words → IsFollow words j → ⊥
migrate_not_follow one words j migrate follow = let e : Migrate ≡ Follow j = one words Migrate (Follow j) migrate follow in cc

pub compact_not_follow : OneCommand → (words : List (List ℕ)) (j : ℕ) → IsCompact words → IsFollow words j → ⊥
compact_not_follow one words j compact follow = let e : Compact ≡ Follow j = one words Compact (Follow j) compact follow in cc

pub audit_not_follow : OneCommand → (words : List (List ℕ)) (j : ℕ) → IsAudit words → IsFollow words j → ⊥
audit_not_follow one words j audit follow = let e : Audit ≡ Follow j = one words Audit (Follow j) audit follow in cc

pub gen_not_follow : OneCommand → (words : List (List ℕ)) (count seed j : ℕ) → IsGen words count seed → IsFollow words j → ⊥
gen_not_follow one words count seed j gen follow = let e : Gen count seed ≡ Follow j = one words (Gen count seed) (Follow j) gen follow in cc

pub bench_not_follow : OneCommand → (words : List (List ℕ)) (count seed n j : ℕ) → IsBench words count seed n → IsFollow words j → ⊥
bench_not_follow one words count seed n j bench follow = let e : Bench count seed n ≡ Follow j = one words (Bench count seed n) (Follow j) bench follow in cc

-- a command is a form
form_of : (words : List (List ℕ)) (c : Command) → IsCommand words c → IsForm words
form_of words (Run n seed) is = inl (n, seed, is)
form_of words Recover is = inr (inl is)
form_of words (Gen count seed) is = inr (inr (inl (count, seed, is)))
form_of words (Bench count seed n) is = inr (inr (inr (inl (count, seed, n, is))))
form_of words Migrate is = inr (inr (inr (inr (inl is))))
form_of words Audit is = inr (inr (inr (inr (inr (inl is)))))
form_of words Compact is = inr (inr (inr (inr (inr (inr (inl is))))))
form_of words (Follow n) is = inr (inr (inr (inr (inr (inr (inr (n, is)))))))

-- the command that they are says how many workers they ask for
pub asked : OneCommand → (words : List (List ℕ)) (n : ℕ) (c : Command) → AskFor words n → IsCommand words c → workers_in c ≡ n
asked one words n c (inl x) is = ap (λ (k : Command). workers_in k) (one words c x.0 is x.1) ∙ sym x.2
asked one words n c (inr x) is = absurd (x.0 (form_of words c is))

-- words ask for one number of workers
pub ask_once : OneCommand → (words : List (List ℕ)) (n m : ℕ) → AskFor words n → AskFor words m → n ≡ m
ask_once one words n m (inl x) b = x.2 ∙ asked one words m x.0 b x.1
ask_once one words n m (inr x) (inl y) = absurd (x.0 (form_of words y.0 y.1))
ask_once one words n m (inr x) (inr y) = x.1 ∙ sym y.1

-- a command of words that ask for workers asks for some
pub some_asked : (words : List (List ℕ)) (c : Command) → ¬ AskFor words 0 → IsCommand words c → 0 < workers_in c
some_asked words c crew is = some (workers_in c) refl
  where
    some : (n : ℕ) → n ≡ workers_in c → 0 < n
    some zero e = absurd (crew (inl (c, is, e)))
    some (suc n) e = omega arith

pub few_workers : (last : List (List ℕ)) (n : ℕ) → AreLastWorkers last n → n ≤ 8
few_workers last n (inl none) = omega (arith, none.1)
few_workers last n (inr said) = said.1

-- ---- the input is refused

-- the run ended before its logs got a call
pub input_outcome : OneCommand → (u : Use) (n seed : ℕ) (s : Status) → IsRunCommand u.words n seed → TouchesNothing u → IsInputAnswer u.reading s → IsOutcome u s
input_outcome one u n seed s run nothing a = record {
  answer = ran n seed run (inl (a, nothing));
  opened = λ recover. absurd (not_both one u.words n seed run recover);
  kept = λ recover. absurd (not_both one u.words n seed run recover);
  migrated = λ migrate. absurd (run_not_migrate one u.words n seed run migrate);
  compacted = λ compact. absurd (run_not_compact one u.words n seed run compact);
  followed = λ j follow. absurd (run_not_follow one u.words n seed j run follow);
}

pub input_not_of_logs : (r : Reading) (s : Status) → IsInputAnswer r s → ¬ IsOfLogs s
input_not_of_logs r s (input_refused line cause enough fault) of = of
input_not_of_logs r s input_memory of = of
input_not_of_logs r s (input_read_fault rose) of = of

-- ---- the input is run

-- what the law one_work of work_text says
abbrev pub OneWork : Type 0
OneWork = (text : List ℕ) (v w : Work) → IsWork text v → IsWork text w → v ≡ w

of_text_then : (r : Reading) (w : Work) (P : Work → Type 0) → OfText r (λ v. v ≡ w) → P w → OfText r P
of_text_then r w P of p = (of.0, of.1, of.2, of.3, of.4, subst P (sym of.5) p)

pub run_outcome : OneCommand → (u : Use) (n seed : ℕ) (w : Work) (s : Status) → IsRunCommand u.words n seed → OfText u.reading (λ v. v ≡ w)
    → IsWorkAnswer (ran_of u w (schedule_asked n seed)) s → IsOutcome u s
run_outcome one u n seed w s run of a = record {
  answer = ran n seed run (inr (of_text_then u.reading w (λ v. IsWorkAnswer (ran_of u v (schedule_asked n seed)) s) of a));
  opened = λ recover. absurd (not_both one u.words n seed run recover);
  kept = λ recover. absurd (not_both one u.words n seed run recover);
  migrated = λ migrate. absurd (run_not_migrate one u.words n seed run migrate);
  compacted = λ compact. absurd (run_not_compact one u.words n seed run compact);
  followed = λ j follow. absurd (run_not_follow one u.words n seed j run follow);
}

-- several workers take any schedule
pub by_crew : (n seed : ℕ) → 0 < n → schedule_asked n seed ≡ free
by_crew zero seed some = absurd (omega (arith, some))
by_crew (suc n) seed some = refl

-- a text that is known stands for the work that is run
same_work : OneWork → (r : Reading) (text : List ℕ) (v w : Work) → OfText r (λ x. x ≡ w) → r.left_before ≡ Some text → IsWork text v → v ≡ w
same_work one r text v w of known work =
    one text v of.3 work (subst (λ (read : List ℕ). IsWork read of.3) (known_input r text of.0 known of.1 of.2) of.4) ∙ of.5

-- where nothing stands in the way no log ends it
pub run_not_of_logs : OneWork → (u : Use) (w : Work) (s : Status)
    → ((records : List (List Record)) (o : Opening) → MayOpen w.logs w.states u.devices_before u.devices_after records o → ¬ IsOfLogs s)
    → OfText u.reading (λ x. x ≡ w) → (text : List ℕ) (v : Work) (records : List (List Record)) (o : Opening) → IsUntroubled u text v records o → ¬ IsOfLogs s
run_not_of_logs one u w s opens of text v records o t =
    opens records o (subst (λ (x : Work). MayOpen x.logs x.states u.devices_before u.devices_after records o) (same_work one u.reading text v w of t.known t.work) t.opens)

-- a run has called its logs
pub run_calls : (p : Printing) (r : RunUse) (s : Status) → IsAnswerOf p r s → GetsNoCall s → ⊥
run_calls p r status.Done a none = none
run_calls p r (status.Usage place) a none = a
run_calls p r (status.Input line cause) a none = a
run_calls p r (status.Logs log offset cause) a none = none
run_calls p r status.Memory a none = none
run_calls p r status.ReadFault a none = a
run_calls p r (status.LogFault log) a none = none
run_calls p r status.OutFault a none = none
run_calls p r status.TraceFault a none = none
run_calls p r (status.Audit fault) a none = a
run_calls p r (status.Compact logs) a none = a

-- ---- the other command, and no command

pub recover_calls : (before after : List Device) (out : Writing) (s : Status) → IsRecoverAnswer before after out s → GetsNoCall s → ⊥
recover_calls before after out s (recover_done o is writes) none = none
recover_calls before after out s (recover_refused log offset cause is nothing) none = none
recover_calls before after out s (recover_memory lacks nothing) none = none
recover_calls before after out s (recover_log_fault log failed nothing) none = none
recover_calls before after out s (recover_out_fault o is front rose) none = none

pub recover_outcome : OneCommand → (u : Use) (s : Status) → IsRecover u.words → ReadsNothing u.reading → u.kept ≡ [] → WritesNothing u.tracing
    → AllZip IsOpenedAtMost u.devices_before u.devices_after → AllZip (λ (a b : Device). KeepsRecords a.told b.told) u.devices_before u.devices_after
    → IsRecoverAnswer u.devices_before u.devices_after u.writing s → IsOutcome u s
recover_outcome one u s recover nothing none untraced opened kept a = record {
  answer = recovered recover nothing none untraced a;
  opened = λ _. opened;
  kept = λ _. kept;
  migrated = λ migrate. absurd (recover_not_migrate one u.words recover migrate);
  compacted = λ compact. absurd (recover_not_compact one u.words recover compact);
  followed = λ j follow. absurd (recover_not_follow one u.words j recover follow);
}

pub migrate_calls : (before after : List Device) (out : Writing) (s : Status) → IsMigrateAnswer before after out s → GetsNoCall s → ⊥
migrate_calls before after out s (migrate_done count is writes) none = none
migrate_calls before after out s (migrate_refused log offset cause is nothing) none = none
migrate_calls before after out s (migrate_memory lacks nothing) none = none
migrate_calls before after out s (migrate_log_fault log failed nothing) none = none
migrate_calls before after out s (migrate_out_fault count is front rose) none = none

pub migrate_outcome : OneCommand → (u : Use) (s : Status) → IsMigrate u.words → ReadsNothing u.reading → u.kept ≡ [] → WritesNothing u.tracing
    → AllZip (λ (a b : Device). KeepsRecords a.told b.told) u.devices_before u.devices_after → IsMigrateAnswer u.devices_before u.devices_after u.writing s → IsOutcome u s
migrate_outcome one u s migrate nothing none untraced kept a = record {
  answer = migrated migrate nothing none untraced a;
  opened = λ recover. absurd (recover_not_migrate one u.words recover migrate);
  kept = λ recover. absurd (recover_not_migrate one u.words recover migrate);
  migrated = λ _. kept;
  compacted = λ compact. absurd (migrate_not_compact one u.words migrate compact);
  followed = λ j follow. absurd (migrate_not_follow one u.words j migrate follow);
}

pub compact_calls : (before after : List Device) (out : Writing) (s : Status) → IsCompactAnswer before after out s → GetsNoCall s → ⊥
compact_calls before after out s (compact_done generation is writes) none = none
compact_calls before after out s (compact_refused log offset cause is nothing) none = none
compact_calls before after out s (compact_too_many logs is nothing) none = none
compact_calls before after out s (compact_memory is nothing) none = none
compact_calls before after out s (compact_log_fault log lt is nothing) none = none
compact_calls before after out s (compact_out_fault generation is front rose) none = none

pub compact_outcome : OneCommand → (u : Use) (s : Status) → IsCompact u.words → ReadsNothing u.reading → u.kept ≡ [] → WritesNothing u.tracing → CompactsSafely u.devices_before u.devices_after
    → IsCompactAnswer u.devices_before u.devices_after u.writing s → IsOutcome u s
compact_outcome one u s compact nothing none untraced safe a = record {
  answer = compacted compact nothing none untraced a;
  opened = λ recover. absurd (recover_not_compact one u.words recover compact);
  kept = λ recover. absurd (recover_not_compact one u.words recover compact);
  migrated = λ migrate. absurd (migrate_not_compact one u.words migrate compact);
  compacted = λ _. safe;
  followed = λ j follow. absurd (compact_not_follow one u.words j compact follow);
}

pub follow_calls : (rounds : ℕ) (before after : List Device) (out : Writing) (s : Status) → IsFollowAnswer rounds before after out s → GetsNoCall s → ⊥
follow_calls rounds before after out s (follow_done f is writes) none = none
follow_calls rounds before after out s (follow_refused log offset cause is nothing) none = none
follow_calls rounds before after out s (follow_memory nothing) none = none
follow_calls rounds before after out s (follow_log_fault log is nothing) none = none
follow_calls rounds before after out s (follow_out_fault f is front rose) none = none

pub follow_outcome : OneCommand → (u : Use) (rounds : ℕ) (s : Status) → IsFollow u.words rounds → ReadsNothing u.reading → u.kept ≡ [] → WritesNothing u.tracing
    → AreUntouched u.devices_before u.devices_after → IsFollowAnswer rounds u.devices_before u.devices_after u.writing s → IsOutcome u s
follow_outcome one u rounds s follow nothing none untraced untouched a = record {
  answer = followed rounds follow nothing none untraced a;
  opened = λ recover. absurd (recover_not_follow one u.words rounds recover follow);
  kept = λ recover. absurd (recover_not_follow one u.words rounds recover follow);
  migrated = λ migrate. absurd (migrate_not_follow one u.words rounds migrate follow);
  compacted = λ compact. absurd (compact_not_follow one u.words rounds compact follow);
  followed = λ _ _. untouched;
}

pub usage_outcome : (u : Use) (place : ℕ) → IsUsageFault u.words place → ReadsNothing u.reading → TouchesNothing u → IsOutcome u (status.Usage place)
usage_outcome u place fault reads nothing = record {
  answer = refused place refl fault reads nothing;
  opened = λ recover. absurd (fault.no_form (inr (inl recover)));
  kept = λ recover. absurd (fault.no_form (inr (inl recover)));
  migrated = λ migrate. absurd (fault.no_form (inr (inr (inr (inr (inl migrate))))));
  compacted = λ compact. absurd (fault.no_form (inr (inr (inr (inr (inr (inr (inl compact))))))));
  followed = λ j follow. absurd (fault.no_form (inr (inr (inr (inr (inr (inr (inr (j, follow)))))))));
}

pub gen_outcome : OneCommand → (u : Use) (count seed : ℕ) (s : Status) → IsGen u.words count seed → ReadsNothing u.reading → TakesNoEvent u → IsGenAnswer (generated_text count seed) u.writing s → IsOutcome u s
gen_outcome one u count seed s gen reads nothing a = record {
  answer = generated count seed gen reads nothing a;
  opened = λ recover. absurd (recover_not_gen one u.words count seed recover gen);
  kept = λ recover. absurd (recover_not_gen one u.words count seed recover gen);
  migrated = λ migrate. absurd (gen_not_migrate one u.words count seed gen migrate);
  compacted = λ compact. absurd (gen_not_compact one u.words count seed gen compact);
  followed = λ j follow. absurd (gen_not_follow one u.words count seed j gen follow);
}

pub bench_outcome : OneCommand → (u : Use) (count seed n : ℕ) (s : Status) → IsBench u.words count seed n → ReadsNothing u.reading → IsMeasured u (schedule_asked n 0) count seed s
    → IsOutcome u s
bench_outcome one u count seed n s bench reads a = record {
  answer = measured count seed n bench reads a;
  opened = λ recover. absurd (recover_not_bench one u.words count seed n recover bench);
  kept = λ recover. absurd (recover_not_bench one u.words count seed n recover bench);
  migrated = λ migrate. absurd (bench_not_migrate one u.words count seed n bench migrate);
  compacted = λ compact. absurd (bench_not_compact one u.words count seed n bench compact);
  followed = λ j follow. absurd (bench_not_follow one u.words count seed n j bench follow);
}

pub audit_outcome : OneCommand → (u : Use) (s : Status) → IsAudit u.words → TakesNoEvent u → IsAuditAnswer u.reading u.writing s → IsOutcome u s
audit_outcome one u s audit nothing a = record {
  answer = audited audit nothing a;
  opened = λ recover. absurd (recover_not_audit one u.words recover audit);
  kept = λ recover. absurd (recover_not_audit one u.words recover audit);
  migrated = λ migrate. absurd (migrate_not_audit one u.words migrate audit);
  compacted = λ compact. absurd (audit_not_compact one u.words audit compact);
  followed = λ j follow. absurd (audit_not_follow one u.words j audit follow);
}

-- the words tell one count and one seed
pub same_measure : OneCommand → (u : Use) (words : List (List ℕ)) (count seed n own last m : ℕ) (w : Work) (records : List (List Record)) (o : Opening)
    → IsBench words count seed n → IsBench words own last m → MayBeMeasured u count seed w records o → MayBeMeasured u own last w records o
same_measure one u words count seed n own last m w records o a b may =
    let same : Bench count seed n ≡ Bench own last m = one words (Bench count seed n) (Bench own last m) a b in
    let counts : count ≡ own = cc in
    let seeds : seed ≡ last = cc in
    subst (λ (k : ℕ). MayBeMeasured u k last w records o) counts (subst (λ (k : ℕ). MayBeMeasured u count k w records o) seeds may)
