use Rattle.core_facts.proofs.Taken.{rows_may}
use Rattle.protocol.specs.Runs.{reached}
use Rattle.protocol.specs.History.{history}
use Rattle.core_facts.proofs.rows.rows_may_be_taken.Goals as goal

pub returns : goal.returns
returns g c w finish es f text run = rows_may w finish (reached w es) (history w es) c.nothing_behind_an_act_has_run.ensures (record {
  text = text;
  sizes = c.sizes_hold.ensures w es text run;
  room = c.what_is_new_is_not_there.ensures w es text run;
  numbers = c.numbers_are_drawn_once.ensures w es text run;
  ranges = c.numbers_are_in_range.ensures w es text run;
  places = c.transactions_are_in_one_place.ensures w es text run;
  settling = c.batches_settle_in_order.ensures w es text run;
  epochs = c.sub_batches_name_the_one_before.ensures w es text run;
  limits = c.limits_hold.ensures w finish es f text run;
  actors = c.actors_lie_in_order.ensures w finish es f text run;
  some_actors = c.batches_have_actors.ensures w es text run;
  boxes = c.boxes_are_few.ensures w finish es f text run;
  few_places = c.places_are_few.ensures w finish es f text run;
  halves = c.halves_go_on.ensures w finish es f text run;
  joins = c.planned_batch_may_join.ensures w (reached w es);
  few_records = c.records_are_few.ensures w finish es f text run;
})
