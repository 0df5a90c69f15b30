use Rattle.run_recovery.specs.OneRun.{machine_in}
use Rattle.run_recovery.specs.Several.{members_left}
use Rattle.crew_recovery.proofs.LinesTold.{output_ends, told_among}
use Rattle.crew_recovery.proofs.laws.told_transactions_are_recovered.Goals as goal

pub returns-clause-recovered : goal.returns-clause-recovered
returns-clause-recovered c p r m images left before taken output = told_among (machine_in r) m.events (members_left left) left.stands.acknowledged before taken output

pub returns-clause-ended : goal.returns-clause-ended
returns-clause-ended c w es before after is = output_ends w es before after is
