use Rattle.run_effects.proofs.RecordCounts.{groups_fit}
use Rattle.run_effects.proofs.sizes.groups_fit.Goals as goal

pub returns : goal.returns
returns g c = groups_fit c.records_are_short.ensures c.records_are_few.ensures c.every_run_ends.ensures c.groups_grow.ensures.durable
