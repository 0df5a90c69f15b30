use Rattle.run_recovery.proofs.LeftRecovered.{calls_left, compacted_left, early, runs_behind, runs_early, runs_within, within}
use Rattle.run_recovery.proofs.laws.what_is_left_is_recoverable.Goals as goal

pub returns-clause-within : goal.returns-clause-within
returns-clause-within c = within (record { fronts = c.fronts_of_records.ensures; tell = c.fronts_tell.ensures })

pub returns-clause-runs : goal.returns-clause-runs
returns-clause-runs c = runs_within (record { fronts = c.fronts_of_records.ensures; tell = c.fronts_tell.ensures })

pub returns-clause-runs_early : goal.returns-clause-runs_early
returns-clause-runs_early c = runs_early (record { fronts = c.fronts_of_records.ensures; tell = c.fronts_tell.ensures })

pub returns-clause-runs_behind : goal.returns-clause-runs_behind
returns-clause-runs_behind c = runs_behind (record { fronts = c.fronts_of_records.ensures; tell = c.fronts_tell.ensures })

pub returns-clause-early : goal.returns-clause-early
returns-clause-early c = early (record { fronts = c.fronts_of_records.ensures; tell = c.fronts_tell.ensures })

pub returns-clause-compacted : goal.returns-clause-compacted
returns-clause-compacted c = compacted_left (record { fronts = c.fronts_of_records.ensures; tell = c.fronts_tell.ensures })

pub returns-clause-behind : goal.returns-clause-behind
returns-clause-behind c = calls_left (record { fronts = c.fronts_of_records.ensures; tell = c.fronts_tell.ensures })
