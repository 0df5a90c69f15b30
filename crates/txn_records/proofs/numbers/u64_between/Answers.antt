use Rattle.txn_records.proofs.Lists.{fails_64}
use Rattle.txn_records.proofs.numbers.u64_between.Goals as goal

pub returns-in-Err : goal.returns-in-Err
returns-in-Err c = fails_64 _ _ _ _ c.in-Err.ensures
