use Rattle.log_set.proofs.Telling.{told_once}
use Rattle.log_set.proofs.laws.records_are_told_once.Goals as goal

pub returns : goal.returns
returns c = told_once
