use Rattle.protocol.specs.Runs.{reached}
use Rattle.listing_facts.proofs.RunsEnough.{book_enough, answers_enough}
use Rattle.listing_facts.proofs.listings.run_parts_list_all.Goals as goal

pub returns : goal.returns
returns g c w finish es f text run = record {
  book = λ asked events. book_enough asked (reached w es).book events (c.acts_end_whole.ensures w finish es f text run);
  answers = λ asked events. answers_enough w (reached w es) asked events (c.transactions_are_in_one_place.ensures w es text run);
}
