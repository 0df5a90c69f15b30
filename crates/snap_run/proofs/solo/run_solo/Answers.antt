use Rattle.std.proofs.Common.{map, sym, subst}
use Rattle.std.specs.Prelude.{string_bytes}
use Rattle.run_work.specs.Calls.{CallState, call_of}
use Rattle.snap_run.proofs.solo.run_solo.Goals as goal
use Rattle.snap_run.specs.Answers.{IsUntroubled, IsPrintable, MayBeMeasured}
use Rattle.snap_outside.specs.Causes.{Rose}
use Rattle.snap_run.specs.Audits.{IsAuditable}
use Rattle.snap_run.specs.Compactions.{IsCompactable}
use Rattle.snap_run.specs.Followings.{IsFollowable}
use Rattle.snap_run.specs.Migrations.{IsMigratable}
use Rattle.snap_run.specs.Outcomes.{IsOutcome}
use Rattle.snap_run.specs.Recoveries.{IsRecoverable}
use Rattle.snap_run.specs.Uses.{reading_of, use_of}

pub returns-clause-complete : goal.returns-clause-complete
returns-clause-complete g c = λ text w records o untroubled.
    let end = c.answer-kept in
    let before : CallState g.row.D.Denot g.row.T.Denot = call_of g.D.LogDev g.O.Sink g.T.Sink c.args.logs c.args.out c.args.trace in
    let words = map string_bytes c.args.words.now in
    let reading = reading_of g.I.Source c.args.input.now end.new.input in
    let is = subst (λ (x : CallState g.row.D.Denot g.row.T.Denot). IsUntroubled (use_of words reading before x end.result.kept.items) text w records o) c.call.view_is untroubled in
    c.done_or_no_memory.ensures.complete _ end.result.status text w records o end.ensures.outcome is (end.ensures.opens text w records o is)

pub returns-clause-complete_recover : goal.returns-clause-complete_recover
returns-clause-complete_recover g c = λ kept may.
    let end = c.answer-kept in
    let before : CallState g.row.D.Denot g.row.T.Denot = call_of g.D.LogDev g.O.Sink g.T.Sink c.args.logs c.args.out c.args.trace in
    let words = map string_bytes c.args.words.now in
    let reading = reading_of g.I.Source c.args.input.now end.new.input in
    c.done_or_no_memory.ensures.complete_recover _ end.result.status kept end.ensures.outcome (subst (λ (x : CallState g.row.D.Denot g.row.T.Denot). IsRecoverable (use_of words reading before x end.result.kept.items) kept) c.call.view_is may)

pub returns-clause-complete_migrate : goal.returns-clause-complete_migrate
returns-clause-complete_migrate g c = λ kept may.
    let end = c.answer-kept in
    let before : CallState g.row.D.Denot g.row.T.Denot = call_of g.D.LogDev g.O.Sink g.T.Sink c.args.logs c.args.out c.args.trace in
    let words = map string_bytes c.args.words.now in
    let reading = reading_of g.I.Source c.args.input.now end.new.input in
    c.done_or_no_memory.ensures.complete_migrate _ end.result.status kept end.ensures.outcome (subst (λ (x : CallState g.row.D.Denot g.row.T.Denot). IsMigratable (use_of words reading before x end.result.kept.items) kept) c.call.view_is may)

pub returns-clause-complete_compact : goal.returns-clause-complete_compact
returns-clause-complete_compact g c = λ kept may.
    let end = c.answer-kept in
    let before : CallState g.row.D.Denot g.row.T.Denot = call_of g.D.LogDev g.O.Sink g.T.Sink c.args.logs c.args.out c.args.trace in
    let words = map string_bytes c.args.words.now in
    let reading = reading_of g.I.Source c.args.input.now end.new.input in
    c.done_or_no_memory.ensures.complete_compact _ end.result.status kept end.ensures.outcome (subst (λ (x : CallState g.row.D.Denot g.row.T.Denot). IsCompactable (use_of words reading before x end.result.kept.items) kept) c.call.view_is may)

pub returns-clause-complete_follow : goal.returns-clause-complete_follow
returns-clause-complete_follow g c = λ kept may.
    let end = c.answer-kept in
    let before : CallState g.row.D.Denot g.row.T.Denot = call_of g.D.LogDev g.O.Sink g.T.Sink c.args.logs c.args.out c.args.trace in
    let words = map string_bytes c.args.words.now in
    let reading = reading_of g.I.Source c.args.input.now end.new.input in
    c.done_or_no_memory.ensures.complete_follow _ end.result.status kept end.ensures.outcome (subst (λ (x : CallState g.row.D.Denot g.row.T.Denot). IsFollowable (use_of words reading before x end.result.kept.items) kept) c.call.view_is may)

pub returns-clause-complete_gen : goal.returns-clause-complete_gen
returns-clause-complete_gen g c = λ may.
    let end = c.answer-kept in
    let before : CallState g.row.D.Denot g.row.T.Denot = call_of g.D.LogDev g.O.Sink g.T.Sink c.args.logs c.args.out c.args.trace in
    let words = map string_bytes c.args.words.now in
    let reading = reading_of g.I.Source c.args.input.now end.new.input in
    c.done_or_no_memory.ensures.complete_gen _ end.result.status end.ensures.outcome (subst (λ (x : CallState g.row.D.Denot g.row.T.Denot). IsPrintable (use_of words reading before x end.result.kept.items)) c.call.view_is may)

pub returns-clause-complete_audit : goal.returns-clause-complete_audit
returns-clause-complete_audit g c = λ text may order quiet.
    let end = c.answer-kept in
    let before : CallState g.row.D.Denot g.row.T.Denot = call_of g.D.LogDev g.O.Sink g.T.Sink c.args.logs c.args.out c.args.trace in
    let words = map string_bytes c.args.words.now in
    let reading = reading_of g.I.Source c.args.input.now end.new.input in
    c.done_or_no_memory.ensures.complete_audit _ end.result.status text end.ensures.outcome (subst (λ (x : CallState g.row.D.Denot g.row.T.Denot). IsAuditable (use_of words reading before x end.result.kept.items) text) c.call.view_is may) order
    (subst (λ (x : CallState g.row.D.Denot g.row.T.Denot). ¬ Rose before.output.faults x.output.faults) c.call.view_is quiet)

pub returns-clause-complete_fault : goal.returns-clause-complete_fault
returns-clause-complete_fault g c = λ text fault may first.
    let end = c.answer-kept in
    let before : CallState g.row.D.Denot g.row.T.Denot = call_of g.D.LogDev g.O.Sink g.T.Sink c.args.logs c.args.out c.args.trace in
    let words = map string_bytes c.args.words.now in
    let reading = reading_of g.I.Source c.args.input.now end.new.input in
    c.done_or_no_memory.ensures.complete_fault _ end.result.status text fault end.ensures.outcome (subst (λ (x : CallState g.row.D.Denot g.row.T.Denot). IsAuditable (use_of words reading before x end.result.kept.items) text) c.call.view_is may) first

pub returns-clause-complete_bench : goal.returns-clause-complete_bench
returns-clause-complete_bench g c = λ count seed workers w records o bench may.
    let end = c.answer-kept in
    let before : CallState g.row.D.Denot g.row.T.Denot = call_of g.D.LogDev g.O.Sink g.T.Sink c.args.logs c.args.out c.args.trace in
    let words = map string_bytes c.args.words.now in
    let reading = reading_of g.I.Source c.args.input.now end.new.input in
    let is = subst (λ (x : CallState g.row.D.Denot g.row.T.Denot). MayBeMeasured (use_of words reading before x end.result.kept.items) count seed w records o) c.call.view_is may in
    c.done_or_no_memory.ensures.complete_bench _ end.result.status count seed workers w records o end.ensures.outcome bench is (end.ensures.opens_bench count seed workers w records o bench is)

pub returns-clause-outcome : goal.returns-clause-outcome
returns-clause-outcome g c =
    let end = c.answer-kept in
    let before : CallState g.row.D.Denot g.row.T.Denot = call_of g.D.LogDev g.O.Sink g.T.Sink c.args.logs c.args.out c.args.trace in
    let words = map string_bytes c.args.words.now in
    let reading = reading_of g.I.Source c.args.input.now end.new.input in
    subst (λ (x : CallState g.row.D.Denot g.row.T.Denot). IsOutcome (use_of words reading before x end.result.kept.items) end.result.status) (sym c.call.view_is) end.ensures.outcome
