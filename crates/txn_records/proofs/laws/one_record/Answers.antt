use Rattle.txn_records.proofs.OneRecord.{one_record}
use Rattle.txn_records.proofs.laws.one_record.Goals as goal

pub returns : goal.returns
returns c = one_record
