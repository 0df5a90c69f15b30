use Rattle.run_effects.proofs.RecordCounts.{waiting_fit}
use Rattle.run_effects.proofs.sizes.waiting_fits.Goals as goal

pub returns : goal.returns
returns g c = waiting_fit c.records_are_short.ensures c.records_are_few.ensures
