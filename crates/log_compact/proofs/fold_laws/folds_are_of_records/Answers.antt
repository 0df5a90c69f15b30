use Rattle.log_compact.proofs.Begun.{folds_are_of_records}
use Rattle.log_compact.proofs.fold_laws.folds_are_of_records.Goals as goal

pub returns : goal.returns
returns c = folds_are_of_records (record { states = c.recovered_states.ensures.states; few = c.recovered_states.ensures.few })
