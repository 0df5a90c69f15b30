use Rattle.std.proofs.Common.{refl, sym, subst}
use Rattle.std.proofs.KnownBytes.{Keeps-refl}
use Rattle.run_work.specs.run_recovery.Schedules.{Schedule}
use Rattle.run_work.specs.Runs.{IsWorkAnswer, reporting}
use Rattle.snap_run.proofs.Outcomes.{by_crew, input_not_of_logs, input_outcome, run_calls, run_outcome, run_not_of_logs}
use Rattle.snap_run.proofs.crews.crew_input.Goals as goal
use Rattle.snap_run.specs.Answers.{ran_of}
use Rattle.snap_run.specs.Uses.{Use, reading_of, use_of}
use Rattle.snap_work.specs.Works.{work_of}
use Rattle.snap_outside.proofs.AtFault.{surely}

pub returns-in-Ok-clause-outcome : goal.returns-in-Ok-clause-outcome
returns-in-Ok-clause-outcome g c = λ words seed run.
    let u : Use = use_of words (reading_of g.I.Source c.args.input.now c.read_work.new.input) c.args.call c.crew_work.result.call c.crew_work.result.kept.items in
    let by = sym (by_crew c.args.workers seed c.requires.some) in
    run_outcome c.one_command.ensures u c.args.workers seed (work_of c.in-Ok.work) c.crew_work.result.status run c.in-Ok.ensures.answer
    (subst (λ (schedule : Schedule). IsWorkAnswer (ran_of u (work_of c.in-Ok.work) schedule) c.crew_work.result.status) by c.crew_work.ensures.answer)

pub returns-in-Ok-clause-opens : goal.returns-in-Ok-clause-opens
returns-in-Ok-clause-opens g c = λ words.
    let u : Use = use_of words (reading_of g.I.Source c.args.input.now c.read_work.new.input) c.args.call c.crew_work.result.call c.crew_work.result.kept.items in
    run_not_of_logs c.one_work.ensures u (work_of c.in-Ok.work) c.crew_work.result.status c.crew_work.ensures.opens c.in-Ok.ensures.answer

pub returns-in-Ok-clause-untouched : goal.returns-in-Ok-clause-untouched
returns-in-Ok-clause-untouched g c = λ no. absurd (run_calls reporting _ c.crew_work.result.status c.crew_work.ensures.answer no)

pub returns-in-Ok-clause-input_once : goal.returns-in-Ok-clause-input_once
returns-in-Ok-clause-input_once g c = surely _ _ _ _ (λ no is. cc is) c.in-Ok.ensures.once

pub returns-in-Err-clause-input_once : goal.returns-in-Err-clause-input_once
returns-in-Err-clause-input_once g c = surely _ _ _ _ (λ no is. no (cc is)) c.in-Err.ensures.once

pub returns-in-Err-clause-outcome : goal.returns-in-Err-clause-outcome
returns-in-Err-clause-outcome g c = λ words seed run.
    let u : Use = use_of words (reading_of g.I.Source c.args.input.now c.read_work.new.input) c.args.call c.args.call c.new.result.items in
    input_outcome c.one_command.ensures u c.args.workers seed c.in-Err.status run (record { kept = c.new.ensures.items; trace = Keeps-refl _; devices = refl }, Keeps-refl _) c.in-Err.ensures.answer

pub returns-in-Err-clause-opens : goal.returns-in-Err-clause-opens
returns-in-Err-clause-opens g c = λ words text w records o untroubled.
    input_not_of_logs (reading_of g.I.Source c.args.input.now c.read_work.new.input) c.in-Err.status c.in-Err.ensures.answer
