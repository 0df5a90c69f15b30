use Rattle.aml_check.specs.Checked.{methods_of}
use Rattle.followed_meant.proofs.Meant.{sets_meant}
use Rattle.followed_meant.proofs.laws.sets_are_as_meant.Goals as goal

pub returns : goal.returns
returns c = sets_meant (methods_of c.args.program.now) c.serial_as_meant.ensures c.verdicts_tell_of_serial_runs.ensures c.transactions_are_in_one_place.ensures
