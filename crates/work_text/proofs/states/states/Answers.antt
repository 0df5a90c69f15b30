use Rattle.std.proofs.Common.{length, set, ap, sym, ◌∙◌, arith}
use Rattle.std.proofs.lemmas.Result.{err_from_is_err_and}
use Rattle.work_text.specs.Lines.{said}
use Rattle.work_text.specs.Cursors.{ahead, line_of}
use Rattle.work_text.specs.Actors.{state_with}
use Rattle.work_text.proofs.StateLines.{one_given, no_states, other_line, no_line, length-states_in}
use Rattle.work_text.proofs.EndLines.{said_found, said_none}
use Rattle.work_text.proofs.states.states.Goals as goal

pub returns-then-not-branch-clause-reads : goal.returns-then-not-branch-clause-reads
returns-then-not-branch-clause-reads c =
    other_line c.args.actors (said (ahead c.args.cursor)) c.loop-line.last (said (ahead c.loop-line.at)) c.loop-line.states.items (line_of c.in-Ok.line) (said (ahead c.in-Ok.behind)) c.loop-line.invariant.given
    (said_found (ahead c.loop-line.at) (line_of c.in-Ok.line, ahead c.in-Ok.behind) c.in-Ok.ensures.found) (sym c.in_ok-is_actor.ensures ∙ c.if-not-branch.true)

pub returns-in_err-number-clause-reads : goal.returns-in_err-number-clause-reads
returns-in_err-number-clause-reads c =
    let p = err_from_is_err_and c.from_residual-in_err-number.result c.from_residual-in_err-number.ensures.1 in
    rw (p.1, p.2) (no_states c.args.actors (said (ahead c.args.cursor)) c.loop-line.last (said (ahead c.loop-line.at)) c.loop-line.states.items (line_of c.in-Ok.line) (said (ahead c.in-Ok.behind)) c.in_err-number.field-0.0 c.loop-line.invariant.given
    (said_found (ahead c.loop-line.at) (line_of c.in-Ok.line, ahead c.in-Ok.behind) c.in-Ok.ensures.found) (sym c.in_ok-is_actor.ensures ∙ c.if-not-branch.false) c.in_err-number.ensures.reads)

pub put_state-requires-clause-within : goal.put_state-requires-clause-within
put_state-requires-clause-within c =
    omega (arith, c.in_ok-number.ensures.reads.0.known, ap length c.loop-line.invariant.given.same, length-states_in c.loop-line.invariant.given.named 0 c.args.actors)

pub loop-line-preserved : goal.loop-line-preserved
loop-line-preserved c = record {
  given = one_given c.args.actors (said (ahead c.args.cursor)) c.loop-line.last (said (ahead c.loop-line.at)) c.loop-line.states.items (line_of c.in-Ok.line) (said (ahead c.in-Ok.behind))
      (record { actor = c.in_ok-number.number; values = c.in_ok-number.values.items }) _ c.loop-line.invariant.given (said_found (ahead c.loop-line.at) (line_of c.in-Ok.line, ahead c.in-Ok.behind) c.in-Ok.ensures.found)
      (sym c.in_ok-is_actor.ensures ∙ c.if-not-branch.false) c.in_ok-number.ensures.reads (c.put_state.ensures ∙ ap (λ values. set c.loop-line.states.items c.in_ok-number.number (state_with values)) c.deref.ensures.value);
  short = c.in-Ok.ensures.onward.1;
}

pub returns-clause-reads : goal.returns-clause-reads
returns-clause-reads c =
    no_line c.args.actors (said (ahead c.args.cursor)) c.loop-line.last (said (ahead c.loop-line.at)) c.loop-line.states.items c.loop-line.invariant.given (said_none (ahead c.loop-line.at) c.in_default.ensures.found)
