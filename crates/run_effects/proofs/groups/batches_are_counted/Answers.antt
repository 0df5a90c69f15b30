use Rattle.run_effects.proofs.BatchesSettled.{batches_counted}
use Rattle.run_effects.proofs.groups.batches_are_counted.Goals as goal

pub returns : goal.returns
returns g c w es run = batches_counted w es c.frame.ensures run
