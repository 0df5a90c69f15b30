use Rattle.txn_records.proofs.RecordSizes.{record_size}
use Rattle.txn_records.proofs.laws.records_are_short.Goals as goal

pub returns : goal.returns
returns c = record_size
