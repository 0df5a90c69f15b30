use Rattle.std.proofs.Common.{subst}
use Rattle.core_events.specs.Meant.{event_meant}
use Rattle.snap_hand.specs.Tables.{fixed_of}
use Rattle.footprint_rows.proofs.Moved.{AreGone, both_after}
use Rattle.footprint_rows.proofs.steps.answer_apart.Goals as goal

pub move_parts-requires-clause-both : goal.move_parts-requires-clause-both
move_parts-requires-clause-both c =
    let some = c.requires.some in
    record { state = some.state; run = some.run; first = some.fits; second = c.in_ok-few.ensures.fits some.state }

pub answer_on-answer-requires-clause-some : goal.answer_on-answer-requires-clause-some
answer_on-answer-requires-clause-some c =
    let some = c.requires.some in
    record { state = some.state; run = some.run; fits = (c.move_parts.ensures.fits some.state some.fits (c.in_ok-few.ensures.fits some.state)).1 }

pub move_parts-requires-2-clause-both : goal.move_parts-requires-2-clause-both
move_parts-requires-2-clause-both c =
    let w = fixed_of c.args.tables.now in
    let some = c.requires.some in
    let fits = c.move_parts.ensures.fits some.state some.fits (c.in_ok-few.ensures.fits some.state) in
    both_after w (event_meant c.args.e) c.move_parts.new.to c.answer_on-answer.new.hand c.move_parts.new.from some.state
    c.logs_stay.ensures c.events_leave_other_parts.ensures c.runs_go_on.ensures some.run fits.1 fits.0 c.move_parts.ensures.from
    (subst (AreGone c.move_parts.new.from) c.footprint-parts.ensures c.move_parts.ensures.gone) c.answer_on-answer.ensures.goes

pub returns-clause-some : goal.returns-clause-some
returns-clause-some c =
    let w = fixed_of c.args.tables.now in
    let some = c.requires.some in
    let fits = c.move_parts.ensures.fits some.state some.fits (c.in_ok-few.ensures.fits some.state) in
    let both =
    both_after w (event_meant c.args.e) c.move_parts.new.to c.answer_on-answer.new.hand c.move_parts.new.from some.state
    c.logs_stay.ensures c.events_leave_other_parts.ensures c.runs_go_on.ensures some.run fits.1 fits.0 c.move_parts.ensures.from
    (subst (AreGone c.move_parts.new.from) c.footprint-parts.ensures c.move_parts.ensures.gone) c.answer_on-answer.ensures.goes
    in
    record { state = both.state; run = both.run; fits = (c.move_parts-2.ensures.fits both.state both.first both.second).1 }
