use Rattle.std.proofs.Common.{refl, arith}
use Rattle.txn_records.proofs.Lists.{fails_8, found_8}
use Rattle.txn_records.proofs.numbers.u8_between.Goals as goal

pub returns-in-Ok : goal.returns-in-Ok
returns-in-Ok c = found_8 _ _ _ _ _ (omega arith) c.in-Ok.ensures refl

pub returns-in-Err : goal.returns-in-Err
returns-in-Err c = fails_8 _ _ _ _ (omega arith) c.in-Err.ensures
