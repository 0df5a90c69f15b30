use Rattle.txn_records.proofs.Lists.{fails_16}
use Rattle.txn_records.proofs.numbers.u16_between.Goals as goal

pub returns-in-Err : goal.returns-in-Err
returns-in-Err c = fails_16 _ _ _ _ c.in-Err.ensures
