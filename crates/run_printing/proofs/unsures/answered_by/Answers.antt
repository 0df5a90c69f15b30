use Rattle.std.proofs.Common.{sym, ap, ◌∙◌, ◌||◌, [], ◌∷◌, get_or, refl, arith}
use Rattle.core_events.specs.declared.events.Event.TheVariants as events
use Rattle.core_events.specs.Meant.{event_meant}
use Rattle.protocol.specs.Report.{replied}
use Rattle.protocol.specs.Words.{is_among}
use Rattle.run_printing.proofs.Unanswered.{among_more}
use Rattle.run_printing.proofs.unsures.answered_by.Goals as goal

pub loop-event-preserved : goal.loop-event-preserved
loop-event-preserved c =
    let first = events.Submit (record { 0 = 0 }) in
    let e = get_or c.args.kept.now c.loop-event.event-index first in record {
      count = c.mark.ensures.count ∙ c.loop-event.invariant.count;
      answered = λ n below. c.mark.ensures.marked n (omega (arith, below, c.loop-event.invariant.count))
          ∙ ap (λ b. b || is_among n (replied (event_meant e ∷ []))) (c.loop-event.invariant.answered n below)
          ∙ sym (among_more c.args.kept.now c.loop-event.event-index n e first c.loop-event-test.true refl);
    }
