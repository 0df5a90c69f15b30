use Rattle.std.proofs.Common.{[]}
use Rattle.snap_hand.specs.Tables.{fixed_of}
use Rattle.crew_parts.proofs.Coming.{acts_come, begins}
use Rattle.crew_parts.proofs.laws.acts_are_runs.Goals as goal

pub returns : goal.returns
returns c start acts now begun run =
    let w = fixed_of c.args.tables.now in
    let laws = c.laws_of_runs.ensures in
    acts_come w laws start acts [] start now (begins w laws start begun) run
