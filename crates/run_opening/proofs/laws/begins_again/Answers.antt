use Rattle.run_opening.proofs.RunOpening.{begins_unwritten, begins_written}
use Rattle.run_opening.proofs.laws.begins_again.Goals as goal

pub returns-clause-unwritten : goal.returns-clause-unwritten
returns-clause-unwritten c = begins_unwritten

pub returns-clause-written : goal.returns-clause-written
returns-clause-written c = begins_written c.begun_lists_fold.ensures
