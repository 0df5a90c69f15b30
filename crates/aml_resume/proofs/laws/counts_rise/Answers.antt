use Rattle.aml_resume.proofs.PausesFrom.{rising_counts}
use Rattle.aml_resume.proofs.Rising.{block_rises, called_rises}
use Rattle.aml_resume.proofs.laws.counts_rise.Goals as goal

pub returns-clause-pauses : goal.returns-clause-pauses
returns-clause-pauses c = rising_counts

pub returns-clause-blocks : goal.returns-clause-blocks
returns-clause-blocks c = block_rises

pub returns-clause-calls : goal.returns-clause-calls
returns-clause-calls c = called_rises
