use Rattle.batch_table.proofs.Asking.{asks_the_table}
use Rattle.batch_table.proofs.laws.askings_are_conditions.Goals as goal

pub returns : goal.returns
returns g c = asks_the_table
