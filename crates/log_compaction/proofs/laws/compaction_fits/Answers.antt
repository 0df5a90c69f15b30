use Rattle.log_compaction.proofs.Fitting.{fits}
use Rattle.log_compaction.proofs.laws.compaction_fits.Goals as goal

pub returns : goal.returns
returns c = fits c.folds_are_of_records.ensures c.folds_are_begun.ensures c.few_may_be_appended.ensures.may
