use Rattle.std.proofs.Common.{ℕ, map, refl, subst, arith}
use Rattle.std.proofs.KnownBytes.{Keeps-refl}
use Rattle.std.specs.Prelude.{string_bytes}
use Rattle.run_work.specs.Calls.{CallState, call_of}
use Rattle.run_work.specs.Runs.{OutStood}
use Rattle.snap_run.proofs.Outcomes.{asked, audit_outcome, usage_outcome, recover_outcome, migrate_outcome, compact_outcome, compact_calls, run_not_compact, bench_not_compact, follow_outcome, follow_calls, run_not_follow, bench_not_follow, gen_outcome, bench_outcome, run_not_audit, bench_not_audit, run_not_gen, run_not_bench, gen_not_bench, same_measure}
use Rattle.snap_run.proofs.solo.answer.Goals as goal
use Rattle.snap_outside.proofs.AtFault.{surely}
use Rattle.snap_outside.specs.Causes.{EndsAtFault}
use Rattle.snap_run.specs.Outcomes.{IsOutcome}
use Rattle.command_words.specs.Commands.{IsCommand}
use Rattle.command_words.specs.Words.{IsRunCommand, IsBench}
use Rattle.snap_run.specs.Uses.{Use, reading_of, use_of}
use Rattle.command_words.specs.declared.commands.Command.{Command}
use Rattle.command_words.specs.declared.commands.Command.TheVariants.{Run, Bench}

-- ---- the input is run

pub returns-in-Ok-Run-clause-outcome : goal.returns-in-Ok-Run-clause-outcome
returns-in-Ok-Run-clause-outcome g c =
    let words = map string_bytes c.args.words.now in
    let own = subst (λ (k : Command). IsCommand words k) c.in-Ok-Run.field-0-is c.in-Ok-Run.ensures in
    c.run_input.ensures.outcome words (subst (λ (n : ℕ). IsRunCommand words n c.in-Ok-Run.seed) (asked c.one_command.ensures words 0 (Run c.in-Ok-Run.field-0-0 c.in-Ok-Run.seed) c.requires.alone own) own)

pub returns-in-Ok-Run-clause-opens : goal.returns-in-Ok-Run-clause-opens
returns-in-Ok-Run-clause-opens g c = c.run_input.ensures.opens (map string_bytes c.args.words.now)

-- ---- the logs are recovered, or migrated

pub returns-in-Ok-Recover-clause-outcome : goal.returns-in-Ok-Recover-clause-outcome
returns-in-Ok-Recover-clause-outcome g c =
    let words = map string_bytes c.args.words.now in
    let reading = reading_of g.I.Source c.args.input.now c.args.input.now in
    let call = c.call.inside in
    let end = c.print_recovered-status in
    let kept = c.new.result.items in
    let before : CallState g.row.D.Denot g.row.T.Denot = call_of g.D.LogDev g.O.Sink g.T.Sink call.logs call.out call.trace in
    let after : CallState g.row.D.Denot g.row.T.Denot = call_of g.D.LogDev g.O.Sink g.T.Sink end.new.devices end.new.out call.trace in
    subst (λ (x : CallState g.row.D.Denot g.row.T.Denot). IsOutcome (use_of words reading x after kept) end.result) c.call.view_is
    (recover_outcome c.one_command.ensures (use_of words reading before after kept) end.result (subst (λ (k : Command). IsCommand words k) c.in-Ok-Recover.field-0-is c.in-Ok-Recover.ensures) (Keeps-refl _) c.new.ensures.items (Keeps-refl _) end.ensures.opened end.ensures.safe end.ensures.answer)

pub returns-in-Ok-Migrate-clause-outcome : goal.returns-in-Ok-Migrate-clause-outcome
returns-in-Ok-Migrate-clause-outcome g c =
    let words = map string_bytes c.args.words.now in
    let reading = reading_of g.I.Source c.args.input.now c.args.input.now in
    let call = c.call-in-Ok-Migrate.inside in
    let end = c.print_migrated-status in
    let kept = c.new-in-Ok-Migrate.result.items in
    let before : CallState g.row.D.Denot g.row.T.Denot = call_of g.D.LogDev g.O.Sink g.T.Sink call.logs call.out call.trace in
    let after : CallState g.row.D.Denot g.row.T.Denot = call_of g.D.LogDev g.O.Sink g.T.Sink end.new.devices end.new.out call.trace in
    subst (λ (x : CallState g.row.D.Denot g.row.T.Denot). IsOutcome (use_of words reading x after kept) end.result) c.call-in-Ok-Migrate.view_is
    (migrate_outcome c.one_command.ensures (use_of words reading before after kept) end.result (subst (λ (k : Command). IsCommand words k) c.in-Ok-Migrate.field-0-is c.in-Ok-Migrate.ensures) (Keeps-refl _) c.new-in-Ok-Migrate.ensures.items (Keeps-refl _) end.ensures.safe end.ensures.answer)

-- ---- a checkpoint is written

pub returns-in-Ok-Compact-clause-outcome : goal.returns-in-Ok-Compact-clause-outcome
returns-in-Ok-Compact-clause-outcome g c =
    let words = map string_bytes c.args.words.now in
    let reading = reading_of g.I.Source c.args.input.now c.args.input.now in
    let call = c.call-in-Ok-Compact.inside in
    let end = c.print_compacted-status in
    let kept = c.new-in-Ok-Compact.result.items in
    let before : CallState g.row.D.Denot g.row.T.Denot = call_of g.D.LogDev g.O.Sink g.T.Sink call.logs call.out call.trace in
    let after : CallState g.row.D.Denot g.row.T.Denot = call_of g.D.LogDev g.O.Sink g.T.Sink end.new.devices end.new.out call.trace in
    subst (λ (x : CallState g.row.D.Denot g.row.T.Denot). IsOutcome (use_of words reading x after kept) end.result) c.call-in-Ok-Compact.view_is
    (compact_outcome c.one_command.ensures (use_of words reading before after kept) end.result (subst (λ (k : Command). IsCommand words k) c.in-Ok-Compact.field-0-is c.in-Ok-Compact.ensures) (Keeps-refl _) c.new-in-Ok-Compact.ensures.items (Keeps-refl _) end.ensures.safe end.ensures.answer)

pub returns-in-Ok-Compact-clause-opens : goal.returns-in-Ok-Compact-clause-opens
returns-in-Ok-Compact-clause-opens g c = λ text w records o t.
    absurd (run_not_compact c.one_command.ensures _ t.run.0 t.run.1 t.run.2 (subst (λ (k : Command). IsCommand (map string_bytes c.args.words.now) k) c.in-Ok-Compact.field-0-is c.in-Ok-Compact.ensures))

pub returns-in-Ok-Compact-clause-opens_bench : goal.returns-in-Ok-Compact-clause-opens_bench
returns-in-Ok-Compact-clause-opens_bench g c = λ count seed workers w records o bench may.
    absurd (bench_not_compact c.one_command.ensures _ count seed workers bench (subst (λ (k : Command). IsCommand (map string_bytes c.args.words.now) k) c.in-Ok-Compact.field-0-is c.in-Ok-Compact.ensures))

pub returns-in-Ok-Compact-clause-untouched : goal.returns-in-Ok-Compact-clause-untouched
returns-in-Ok-Compact-clause-untouched g c = λ none. let end = c.print_compacted-status in absurd (compact_calls _ _ _ end.result end.ensures.answer none)

-- ---- the logs are followed

pub print_followed-status-requires-clause-some : goal.print_followed-status-requires-clause-some
print_followed-status-requires-clause-some g c =
    let own = subst (λ (k : Command). IsCommand (map string_bytes c.args.words.now) k) c.in-Ok-Follow.field-0-is c.in-Ok-Follow.ensures in
    omega (arith, own.1)

pub returns-in-Ok-Follow-clause-outcome : goal.returns-in-Ok-Follow-clause-outcome
returns-in-Ok-Follow-clause-outcome g c =
    let words = map string_bytes c.args.words.now in
    let reading = reading_of g.I.Source c.args.input.now c.args.input.now in
    let call = c.call-in-Ok-Follow.inside in
    let end = c.print_followed-status in
    let kept = c.new-in-Ok-Follow.result.items in
    let before : CallState g.row.D.Denot g.row.T.Denot = call_of g.D.LogDev g.O.Sink g.T.Sink call.logs call.out call.trace in
    let after : CallState g.row.D.Denot g.row.T.Denot = call_of g.D.LogDev g.O.Sink g.T.Sink end.new.devices end.new.out call.trace in
    subst (λ (x : CallState g.row.D.Denot g.row.T.Denot). IsOutcome (use_of words reading x after kept) end.result) c.call-in-Ok-Follow.view_is
    (follow_outcome c.one_command.ensures (use_of words reading before after kept) c.in-Ok-Follow.rounds end.result (subst (λ (k : Command). IsCommand words k) c.in-Ok-Follow.field-0-is c.in-Ok-Follow.ensures) (Keeps-refl _) c.new-in-Ok-Follow.ensures.items (Keeps-refl _) end.ensures.untouched end.ensures.answer)

pub returns-in-Ok-Follow-clause-opens : goal.returns-in-Ok-Follow-clause-opens
returns-in-Ok-Follow-clause-opens g c = λ text w records o t.
    absurd (run_not_follow c.one_command.ensures _ t.run.0 t.run.1 c.in-Ok-Follow.rounds t.run.2 (subst (λ (k : Command). IsCommand (map string_bytes c.args.words.now) k) c.in-Ok-Follow.field-0-is c.in-Ok-Follow.ensures))

pub returns-in-Ok-Follow-clause-opens_bench : goal.returns-in-Ok-Follow-clause-opens_bench
returns-in-Ok-Follow-clause-opens_bench g c = λ count seed workers w records o bench may.
    absurd (bench_not_follow c.one_command.ensures _ count seed workers c.in-Ok-Follow.rounds bench (subst (λ (k : Command). IsCommand (map string_bytes c.args.words.now) k) c.in-Ok-Follow.field-0-is c.in-Ok-Follow.ensures))

pub returns-in-Ok-Follow-clause-untouched : goal.returns-in-Ok-Follow-clause-untouched
returns-in-Ok-Follow-clause-untouched g c = λ none. let end = c.print_followed-status in absurd (follow_calls _ _ _ _ end.result end.ensures.answer none)

-- ---- the input is audited

pub returns-in-Ok-Audit-clause-outcome : goal.returns-in-Ok-Audit-clause-outcome
returns-in-Ok-Audit-clause-outcome g c =
    let words = map string_bytes c.args.words.now in
    let call = c.call-in-Ok-Audit.inside in
    let end = c.print_audit-status in
    let reading = reading_of g.I.Source c.args.input.now end.new.input in
    let kept = c.new-in-Ok-Audit.result.items in
    let before : CallState g.row.D.Denot g.row.T.Denot = call_of g.D.LogDev g.O.Sink g.T.Sink call.logs call.out call.trace in
    let after : CallState g.row.D.Denot g.row.T.Denot = call_of g.D.LogDev g.O.Sink g.T.Sink call.logs end.new.out call.trace in
    subst (λ (x : CallState g.row.D.Denot g.row.T.Denot). IsOutcome (use_of words reading x after kept) end.result) c.call-in-Ok-Audit.view_is
    (audit_outcome c.one_command.ensures (use_of words reading before after kept) end.result (subst (λ (k : Command). IsCommand words k) c.in-Ok-Audit.field-0-is c.in-Ok-Audit.ensures)
    (record { kept = c.new-in-Ok-Audit.ensures.items; trace = Keeps-refl _; devices = refl }) end.ensures.answer)

pub returns-in-Ok-Audit-clause-out_once : goal.returns-in-Ok-Audit-clause-out_once
returns-in-Ok-Audit-clause-out_once g c =
    let end = c.print_audit-status in
    subst (λ (x : CallState g.row.D.Denot g.row.T.Denot). EndsAtFault (OutStood end.result) x.output.faults x.output.late (g.O.Sink.faults end.new.out) (g.O.Sink.late end.new.out)) c.call-in-Ok-Audit.view_is
    (surely _ _ _ _ (λ stood. stood.0) end.ensures.out_once)

pub returns-in-Ok-Audit-clause-opens : goal.returns-in-Ok-Audit-clause-opens
returns-in-Ok-Audit-clause-opens g c = λ text w records o t.
    absurd (run_not_audit c.one_command.ensures _ t.run.0 t.run.1 t.run.2 (subst (λ (k : Command). IsCommand (map string_bytes c.args.words.now) k) c.in-Ok-Audit.field-0-is c.in-Ok-Audit.ensures))

pub returns-in-Ok-Audit-clause-opens_bench : goal.returns-in-Ok-Audit-clause-opens_bench
returns-in-Ok-Audit-clause-opens_bench g c = λ count seed workers w records o bench may.
    absurd (bench_not_audit c.one_command.ensures _ count seed workers bench (subst (λ (k : Command). IsCommand (map string_bytes c.args.words.now) k) c.in-Ok-Audit.field-0-is c.in-Ok-Audit.ensures))

-- ---- a generated text is printed

pub print_generated-status-requires : goal.print_generated-status-requires
print_generated-status-requires g c = (subst (λ (k : Command). IsCommand (map string_bytes c.args.words.now) k) c.in-Ok-Gen.field-0-is c.in-Ok-Gen.ensures).1

pub returns-in-Ok-Gen-clause-outcome : goal.returns-in-Ok-Gen-clause-outcome
returns-in-Ok-Gen-clause-outcome g c =
    let words = map string_bytes c.args.words.now in
    let reading = reading_of g.I.Source c.args.input.now c.args.input.now in
    let call = c.call-in-Ok-Gen.inside in
    let end = c.print_generated-status in
    let kept = c.new-in-Ok-Gen.result.items in
    let before : CallState g.row.D.Denot g.row.T.Denot = call_of g.D.LogDev g.O.Sink g.T.Sink call.logs call.out call.trace in
    let after : CallState g.row.D.Denot g.row.T.Denot = call_of g.D.LogDev g.O.Sink g.T.Sink call.logs end.new.out call.trace in
    subst (λ (x : CallState g.row.D.Denot g.row.T.Denot). IsOutcome (use_of words reading x after kept) end.result) c.call-in-Ok-Gen.view_is
    (gen_outcome c.one_command.ensures (use_of words reading before after kept) c.in-Ok-Gen.count c.in-Ok-Gen.seed end.result (subst (λ (k : Command). IsCommand words k) c.in-Ok-Gen.field-0-is c.in-Ok-Gen.ensures) (Keeps-refl _)
    (record { kept = c.new-in-Ok-Gen.ensures.items; trace = Keeps-refl _; devices = refl }) end.ensures.answer)

pub returns-in-Ok-Gen-clause-out_once : goal.returns-in-Ok-Gen-clause-out_once
returns-in-Ok-Gen-clause-out_once g c =
    let end = c.print_generated-status in
    subst (λ (x : CallState g.row.D.Denot g.row.T.Denot). EndsAtFault (OutStood end.result) x.output.faults x.output.late (g.O.Sink.faults end.new.out) (g.O.Sink.late end.new.out)) c.call-in-Ok-Gen.view_is
    (surely _ _ _ _ (λ stood. stood.0) end.ensures.once)

pub returns-in-Ok-Gen-clause-opens : goal.returns-in-Ok-Gen-clause-opens
returns-in-Ok-Gen-clause-opens g c = λ text w records o t.
    absurd (run_not_gen c.one_command.ensures _ t.run.0 t.run.1 c.in-Ok-Gen.count c.in-Ok-Gen.seed t.run.2 (subst (λ (k : Command). IsCommand (map string_bytes c.args.words.now) k) c.in-Ok-Gen.field-0-is c.in-Ok-Gen.ensures))

pub returns-in-Ok-Gen-clause-opens_bench : goal.returns-in-Ok-Gen-clause-opens_bench
returns-in-Ok-Gen-clause-opens_bench g c = λ count seed workers w records o bench may.
    absurd (gen_not_bench c.one_command.ensures _ c.in-Ok-Gen.count c.in-Ok-Gen.seed count seed workers (subst (λ (k : Command). IsCommand (map string_bytes c.args.words.now) k) c.in-Ok-Gen.field-0-is c.in-Ok-Gen.ensures) bench)

-- ---- a generated text is run

pub run_generated-requires-clause-few : goal.run_generated-requires-clause-few
run_generated-requires-clause-few g c = (subst (λ (k : Command). IsCommand (map string_bytes c.args.words.now) k) c.in-Ok-Bench.field-0-is c.in-Ok-Bench.ensures).3

pub returns-in-Ok-Bench-clause-outcome : goal.returns-in-Ok-Bench-clause-outcome
returns-in-Ok-Bench-clause-outcome g c =
    let words = map string_bytes c.args.words.now in
    let reading = reading_of g.I.Source c.args.input.now c.args.input.now in
    let u : Use = use_of words reading c.args.call c.run_generated.result.call c.run_generated.result.kept.items in
    let own = subst (λ (k : Command). IsCommand words k) c.in-Ok-Bench.field-0-is c.in-Ok-Bench.ensures in
    let alone = subst (λ (n : ℕ). IsBench words c.in-Ok-Bench.count c.in-Ok-Bench.seed n)
    (asked c.one_command.ensures words 0 (Bench c.in-Ok-Bench.count c.in-Ok-Bench.seed c.in-Ok-Bench.field-0-2) c.requires.alone own) own in
    bench_outcome c.one_command.ensures u c.in-Ok-Bench.count c.in-Ok-Bench.seed 0 c.run_generated.result.status alone (Keeps-refl _) (c.run_generated.ensures.answer words reading)

pub returns-in-Ok-Bench-clause-opens : goal.returns-in-Ok-Bench-clause-opens
returns-in-Ok-Bench-clause-opens g c = λ text w records o t.
    let own = subst (λ (k : Command). IsCommand (map string_bytes c.args.words.now) k) c.in-Ok-Bench.field-0-is c.in-Ok-Bench.ensures in
    absurd (run_not_bench c.one_command.ensures _ t.run.0 t.run.1 c.in-Ok-Bench.count c.in-Ok-Bench.seed _ t.run.2 own)

pub returns-in-Ok-Bench-clause-opens_bench : goal.returns-in-Ok-Bench-clause-opens_bench
returns-in-Ok-Bench-clause-opens_bench g c = λ count seed workers w records o bench may.
    let words = map string_bytes c.args.words.now in
    let reading = reading_of g.I.Source c.args.input.now c.args.input.now in
    let own = subst (λ (k : Command). IsCommand words k) c.in-Ok-Bench.field-0-is c.in-Ok-Bench.ensures in
    c.run_generated.ensures.opens words reading w records o (same_measure c.one_command.ensures _ words count seed workers c.in-Ok-Bench.count c.in-Ok-Bench.seed _ w records o bench own may)

pub returns-in-Ok-Bench-clause-out_once : goal.returns-in-Ok-Bench-clause-out_once
returns-in-Ok-Bench-clause-out_once g c = surely _ _ _ _ (λ stood. stood.0) c.run_generated.ensures.out_once

-- ---- what the logs recover to is printed

pub returns-in-Ok-Recover-clause-out_once : goal.returns-in-Ok-Recover-clause-out_once
returns-in-Ok-Recover-clause-out_once g c =
    let end = c.print_recovered-status in
    subst (λ (x : CallState g.row.D.Denot g.row.T.Denot). EndsAtFault (OutStood end.result) x.output.faults x.output.late (g.O.Sink.faults end.new.out) (g.O.Sink.late end.new.out)) c.call.view_is
    (surely _ _ _ _ (λ stood. stood.0) end.ensures.once)

-- ---- the logs are made ones of format 2

pub returns-in-Ok-Migrate-clause-out_once : goal.returns-in-Ok-Migrate-clause-out_once
returns-in-Ok-Migrate-clause-out_once g c =
    let end = c.print_migrated-status in
    subst (λ (x : CallState g.row.D.Denot g.row.T.Denot). EndsAtFault (OutStood end.result) x.output.faults x.output.late (g.O.Sink.faults end.new.out) (g.O.Sink.late end.new.out)) c.call-in-Ok-Migrate.view_is
    (surely _ _ _ _ (λ stood. stood.0) end.ensures.once)

-- ---- a checkpoint is written, and the output gets no call behind one that failed

pub returns-in-Ok-Compact-clause-out_once : goal.returns-in-Ok-Compact-clause-out_once
returns-in-Ok-Compact-clause-out_once g c =
    let end = c.print_compacted-status in
    subst (λ (x : CallState g.row.D.Denot g.row.T.Denot). EndsAtFault (OutStood end.result) x.output.faults x.output.late (g.O.Sink.faults end.new.out) (g.O.Sink.late end.new.out)) c.call-in-Ok-Compact.view_is
    (surely _ _ _ _ (λ stood. stood.0) end.ensures.once)

-- ---- the logs are followed, and the output gets no call behind one that failed

pub returns-in-Ok-Follow-clause-out_once : goal.returns-in-Ok-Follow-clause-out_once
returns-in-Ok-Follow-clause-out_once g c =
    let end = c.print_followed-status in
    subst (λ (x : CallState g.row.D.Denot g.row.T.Denot). EndsAtFault (OutStood end.result) x.output.faults x.output.late (g.O.Sink.faults end.new.out) (g.O.Sink.late end.new.out)) c.call-in-Ok-Follow.view_is
    (surely _ _ _ _ (λ stood. stood.0) end.ensures.once)

-- ---- the words are no form

pub returns-in-Err-clause-outcome : goal.returns-in-Err-clause-outcome
returns-in-Err-clause-outcome g c =
    let u : Use = use_of (map string_bytes c.args.words.now) (reading_of g.I.Source c.args.input.now c.args.input.now) c.args.call c.args.call c.new-in-Err.result.items in
    usage_outcome u c.in-Err.word c.in-Err.ensures (Keeps-refl _) (record { kept = c.new-in-Err.ensures.items; trace = Keeps-refl _; devices = refl }, Keeps-refl _)
