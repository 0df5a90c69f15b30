use Rattle.audit_laws.proofs.NumbersFit.{verdicts_fit}
use Rattle.audit_laws.proofs.every_run.verdicts_are_in_range.Goals as goal

pub returns : goal.returns
returns g c w finish es f text run =
    verdicts_fit w finish es f
    (record {
      frames = c.frame.ensures;
      text = text;
      range = λ fs r. c.numbers_are_in_range.ensures w fs text r;
      sizes = λ fs r. c.sizes_hold.ensures w fs text r;
      few = λ fs r. c.places_are_few.ensures w finish fs f text r;
      once = λ fs r. c.transactions_are_in_one_place.ensures w fs text r;
    })
    run (c.verdicts_tell_of_serial_runs.ensures w finish es f text run) (c.verdicts_have_evidence.ensures w finish es f text run) (c.committed_transactions_are_in_order.ensures w finish es f text run)
