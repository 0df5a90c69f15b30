use Rattle.run_recovery.proofs.RunsFollowed.{freed, freed_next}
use Rattle.run_recovery.proofs.laws.seeds_pick_runs.Goals as goal

pub returns-clause-runs : goal.returns-clause-runs
returns-clause-runs c = freed

pub returns-clause-next : goal.returns-clause-next
returns-clause-next c = freed_next
