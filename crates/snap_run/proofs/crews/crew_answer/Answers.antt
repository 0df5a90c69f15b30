use Rattle.std.proofs.Common.{map, sym, subst}
use Rattle.std.proofs.KnownBytes.{Keeps-refl}
use Rattle.std.specs.Prelude.{string_bytes}
use Rattle.command_words.specs.Commands.{IsCommand}
use Rattle.command_words.specs.declared.commands.Command.{Command}
use Rattle.command_words.specs.declared.commands.Command.TheVariants.{Run, Bench}
use Rattle.run_work.specs.run_recovery.Schedules.{Schedule}
use Rattle.snap_run.proofs.Outcomes.{by_crew, bench_outcome, run_not_bench, few_workers, same_measure, some_asked}
use Rattle.snap_run.proofs.crews.crew_answer.Goals as goal
use Rattle.snap_outside.proofs.AtFault.{surely}
use Rattle.snap_run.specs.Answers.{IsMeasured}
use Rattle.snap_run.specs.Uses.{Use, reading_of, use_of}

-- ---- the input is run

pub crew_input-requires-clause-some : goal.crew_input-requires-clause-some
crew_input-requires-clause-some g c = λ _ _.
    some_asked (map string_bytes c.args.words.now) (Run c.in-Ok-Run.workers c.in-Ok-Run.field-0-1) c.requires.crew (subst (λ (k : Command). IsCommand (map string_bytes c.args.words.now) k) c.in-Ok-Run.field-0-is c.in-Ok-Run.ensures)

pub crew_input-requires-clause-few : goal.crew_input-requires-clause-few
crew_input-requires-clause-few g c = λ _ _. (subst (λ (k : Command). IsCommand (map string_bytes c.args.words.now) k) c.in-Ok-Run.field-0-is c.in-Ok-Run.ensures).3

pub returns-in-Ok-Run-clause-outcome : goal.returns-in-Ok-Run-clause-outcome
returns-in-Ok-Run-clause-outcome g c =
    let words = map string_bytes c.args.words.now in
    c.crew_input.ensures.outcome words _ (subst (λ (k : Command). IsCommand words k) c.in-Ok-Run.field-0-is c.in-Ok-Run.ensures)

pub returns-in-Ok-Run-clause-opens : goal.returns-in-Ok-Run-clause-opens
returns-in-Ok-Run-clause-opens g c = c.crew_input.ensures.opens (map string_bytes c.args.words.now)

pub returns-in-Ok-Run-clause-opens_bench : goal.returns-in-Ok-Run-clause-opens_bench
returns-in-Ok-Run-clause-opens_bench g c = λ count seed workers w records o bench may.
    let own = subst (λ (k : Command). IsCommand (map string_bytes c.args.words.now) k) c.in-Ok-Run.field-0-is c.in-Ok-Run.ensures in
    absurd (run_not_bench c.one_command.ensures _ _ _ count seed workers own bench)

-- ---- a generated text is run

pub crew_generated-requires-clause-few_transactions : goal.crew_generated-requires-clause-few_transactions
crew_generated-requires-clause-few_transactions g c = λ _ _. (subst (λ (k : Command). IsCommand (map string_bytes c.args.words.now) k) c.in-Ok-Bench.field-0-is c.in-Ok-Bench.ensures).3

pub crew_generated-requires-clause-few : goal.crew_generated-requires-clause-few
crew_generated-requires-clause-few g c = λ _ _.
    let own = subst (λ (k : Command). IsCommand (map string_bytes c.args.words.now) k) c.in-Ok-Bench.field-0-is c.in-Ok-Bench.ensures in
    few_workers own.0 c.in-Ok-Bench.workers own.2

pub returns-in-Ok-Bench-clause-outcome : goal.returns-in-Ok-Bench-clause-outcome
returns-in-Ok-Bench-clause-outcome g c =
    let words = map string_bytes c.args.words.now in
    let reading = reading_of g.I.Source c.args.input.now c.args.input.now in
    let u : Use = use_of words reading c.args.call c.crew_generated.result.call c.crew_generated.result.kept.items in
    let own = subst (λ (k : Command). IsCommand words k) c.in-Ok-Bench.field-0-is c.in-Ok-Bench.ensures in
    let by = sym (by_crew c.in-Ok-Bench.workers 0 (some_asked words (Bench c.in-Ok-Bench.count c.in-Ok-Bench.seed c.in-Ok-Bench.workers) c.requires.crew own)) in
    bench_outcome c.one_command.ensures u c.in-Ok-Bench.count c.in-Ok-Bench.seed c.in-Ok-Bench.workers c.crew_generated.result.status own (Keeps-refl _)
    (subst (λ (schedule : Schedule). IsMeasured u schedule c.in-Ok-Bench.count c.in-Ok-Bench.seed c.crew_generated.result.status) by (c.crew_generated.ensures.answer words reading))

pub returns-in-Ok-Bench-clause-out_once : goal.returns-in-Ok-Bench-clause-out_once
returns-in-Ok-Bench-clause-out_once g c = surely _ _ _ _ (λ stood. stood.0) c.crew_generated.ensures.out_once

pub returns-in-Ok-Bench-clause-opens : goal.returns-in-Ok-Bench-clause-opens
returns-in-Ok-Bench-clause-opens g c = λ text w records o t.
    let own = subst (λ (k : Command). IsCommand (map string_bytes c.args.words.now) k) c.in-Ok-Bench.field-0-is c.in-Ok-Bench.ensures in
    absurd (run_not_bench c.one_command.ensures _ t.run.0 t.run.1 c.in-Ok-Bench.count c.in-Ok-Bench.seed c.in-Ok-Bench.workers t.run.2 own)

pub returns-in-Ok-Bench-clause-opens_bench : goal.returns-in-Ok-Bench-clause-opens_bench
returns-in-Ok-Bench-clause-opens_bench g c = λ count seed workers w records o bench may.
    let words = map string_bytes c.args.words.now in
    let reading = reading_of g.I.Source c.args.input.now c.args.input.now in
    let own = subst (λ (k : Command). IsCommand words k) c.in-Ok-Bench.field-0-is c.in-Ok-Bench.ensures in
    c.crew_generated.ensures.opens words reading w records o
    (same_measure c.one_command.ensures _ words count seed workers c.in-Ok-Bench.count c.in-Ok-Bench.seed c.in-Ok-Bench.workers w records o bench own may)
