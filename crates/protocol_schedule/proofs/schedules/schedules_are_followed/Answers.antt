use Rattle.std.specs.Prelude.{refl, []}
use Rattle.protocol.specs.Runs.{opening}
use Rattle.protocol_schedule.specs.Draw.{draw_of, picked}
use Rattle.protocol_schedule.proofs.Following.{taken}
use Rattle.protocol_schedule.proofs.schedules.schedules_are_followed.Goals as goal

pub returns-clause-runs : goal.returns-clause-runs
returns-clause-runs g c = λ w seed many text. (taken w (draw_of seed) (λ es run. c.allowed_candidates_are_enabled.ensures w es text run) many 0 [] (opening w) (picked w (draw_of seed) 0 (opening w)) tt refl refl).allowed

pub returns-clause-follows : goal.returns-clause-follows
returns-clause-follows g c = λ w seed many text. (taken w (draw_of seed) (λ es run. c.allowed_candidates_are_enabled.ensures w es text run) many 0 [] (opening w) (picked w (draw_of seed) 0 (opening w)) tt refl refl).follows
