use Rattle.protocol_records.proofs.recording.ActsDrawn.{acts_drawn}
use Rattle.protocol_records.proofs.numbers.places_are_drawn.Goals as goal

pub returns : goal.returns
returns g c = acts_drawn
