use Rattle.protocol_records.proofs.crash.ToldSerial.{told_stand}
use Rattle.protocol_records.proofs.told.told_transactions_are_in_order.Goals as goal

pub returns : goal.returns
returns g c = told_stand
