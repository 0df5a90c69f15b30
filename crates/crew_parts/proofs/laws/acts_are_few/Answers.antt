use Rattle.snap_hand.specs.Tables.{fixed_of}
use Rattle.crew_parts.proofs.FewActs.{few_acts}
use Rattle.crew_parts.proofs.laws.acts_are_few.Goals as goal

pub returns : goal.returns
returns c start acts now begun run = few_acts (fixed_of c.args.tables.now) c.laws_of_runs.ensures start acts now begun run
