use Rattle.audit_laws.proofs.ReasonsSeen.{acts_seen}
use Rattle.audit_laws.proofs.every_run.acts_are_seen.Goals as goal

pub returns : goal.returns
returns g c w finish es f text run =
    acts_seen w finish es c.frame.ensures f text
    (record {
      lies = λ fs r. c.actors_lie_in_order.ensures w finish fs f text r;
      stand = λ fs r. c.numbers_are_the_ends_of_sets.ensures w finish fs f text r;
      room = λ fs r. c.what_is_new_is_not_there.ensures w fs text r;
      told = λ fs r. c.committed_are_those_with_places.ensures w finish fs f text r;
    }) run
