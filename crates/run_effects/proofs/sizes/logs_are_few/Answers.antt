use Rattle.run_effects.proofs.RecordCounts.{logs_few}
use Rattle.run_effects.proofs.sizes.logs_are_few.Goals as goal

pub returns : goal.returns
returns g c = logs_few c.records_are_few.ensures
