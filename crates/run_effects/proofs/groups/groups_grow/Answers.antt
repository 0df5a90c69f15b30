use Rattle.protocol.specs.Runs.{opening}
use Rattle.run_effects.proofs.GroupsGrown.{groups_longer, groups_durable}
use Rattle.run_effects.proofs.groups.groups_grow.Goals as goal

pub returns-clause-grow : goal.returns-clause-grow
returns-clause-grow g c w l es e = groups_longer w l es e (opening w)

pub returns-clause-durable : goal.returns-clause-durable
returns-clause-durable g c = groups_durable
