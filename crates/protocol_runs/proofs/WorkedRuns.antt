-- The worked runs, computed.
use Rattle.std.specs.Prelude.{◌≡◌, refl}
use Rattle.protocol.specs.Conditions.{conditions, refusal}
use Rattle.protocol.specs.Effects.{after}
use Rattle.std.specs.List.{AllByRecursion}
use Rattle.protocol_schedule.specs.Draw.{schedule_of}
use Rattle.rand_pcg.specs.Lcg.{state_after}
use Rattle.protocol_runs.specs.Crowd.{crowd, crowd_events}
use Rattle.protocol_runs.specs.Lines.{IsAsTold}
use Rattle.protocol_runs.specs.Seeds.{SeedsPlay}
use Rattle.protocol_runs.specs.Rules.{rules}
use Rattle.protocol_runs.specs.Paths.{paths}
use Rattle.protocol_runs.specs.Examples.{BatchesPlay, ActsPlay, CascadesPlay, RefusalsPlay}

pub batches_play : BatchesPlay
unfolding conditions refusal after
batches_play = record {
  one_transfer = record { allowed = refl; ends = refl; verdicts = refl; fields = refl };
  in_24_events = refl;
  one_unused = record { allowed = refl; ends = refl; verdicts = refl; fields = refl };
  out_of_turn = refl;
  both_commit = record { allowed = refl; ends = refl; verdicts = refl; fields = refl };
  with_two_coordinators = record { allowed = refl; ends = refl; verdicts = refl; fields = refl };
  token_passed = refl;
}

pub acts_play : ActsPlay
unfolding conditions refusal after
acts_play = record {
  moves = record { allowed = refl; ends = refl; verdicts = refl; fields = refl };
  fails = record { allowed = refl; ends = refl; verdicts = refl; fields = refl };
  dies = record { allowed = refl; ends = refl; verdicts = refl; fields = refl };
  doomed = record { allowed = refl; ends = refl; verdicts = refl; fields = refl };
  rises = record { allowed = refl; ends = refl; verdicts = refl; fields = refl };
  taken_over = record { allowed = refl; ends = refl; verdicts = refl; fields = refl };
}

pub cascades_play : CascadesPlay
unfolding conditions refusal after
cascades_play = record {
  middle_fails = record { allowed = refl; ends = refl; verdicts = refl; fields = refl };
  ran = refl;
  undone = refl;
  all_undone = record { allowed = refl; ends = refl; verdicts = refl; fields = refl };
  drops = record { allowed = refl; ends = refl; verdicts = refl; fields = refl };
  allowed = refl;
  forgotten = refl;
  not_doomed = refl;
}

pub refusals_play : RefusalsPlay
unfolding conditions refusal after
refusals_play = record {
  no_more_text = refl;
  no_pact_waits = refl;
  not_the_next_batch = refl;
  not_an_act = refl;
  not_placed = refl;
  no_tid = refl;
  no_such_transaction = refl;
  no_such_actor = refl;
  no_such_log = refl;
  not_its_actor = refl;
  not_vouched = refl;
}

pub rules_play : AllByRecursion IsAsTold rules
unfolding conditions refusal after
rules_play = (refl, (refl, (refl, (refl, (refl, (refl, (refl, (refl, (refl, (refl, (refl, (refl, (refl, (refl, (refl, (refl, (refl, tt)))))))))))))))))

pub paths_play : AllByRecursion IsAsTold paths
unfolding conditions refusal after
paths_play = (refl, (refl, (refl, (refl, (refl, (refl, (refl, tt)))))))

pub crowd_plays : IsAsTold crowd
unfolding conditions refusal after
crowd_plays = refl

pub crowd_is_drawn : schedule_of crowd.work 24 300 ≡ crowd_events
unfolding conditions refusal after state_after
crowd_is_drawn = refl

pub seeds_play : SeedsPlay
unfolding conditions refusal after state_after
seeds_play = record { transfers = refl; crosses = refl; stays_ahead = refl; crossed = refl; ahead = refl }
