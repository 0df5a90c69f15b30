use Rattle.trace_text.specs.Lines.{event_parts}
use Rattle.trace_text.proofs.EventNames.{first_small}
use Rattle.trace_text.proofs.Events.{line_cut, none_some, with_found}
use Rattle.trace_text.proofs.lines.event_of.Goals as goal

pub returns-in_err-name-clause-only : goal.returns-in_err-name-clause-only
returns-in_err-name-clause-only c e h is =
    let parts = line_cut c.args.line.now _ _ e c.in_ok-word.ensures.0 c.in_ok-word.ensures.1 is in
    absurd (none_some (c.in_err-name.ensures.only (event_parts e).0 parts.0))

pub returns-clause-only : goal.returns-clause-only
returns-clause-only c e h is =
    let parts = line_cut c.args.line.now _ _ e c.in_ok-word.ensures.0 c.in_ok-word.ensures.1 is in
    with_found c.event_with.result c.in_ok-name.name c.in_ok-n.n c.in_ok-n.second e c.event_with.ensures.only
    (c.in_ok-name.ensures.only (event_parts e).0 parts.0)
    (c.in_ok-n.ensures.only (event_parts e).1 (event_parts e).2 (first_small _ _ h.first) h.second parts.1)
    h
