use Rattle.std.proofs.Common.{arith}
use Rattle.log_opening.proofs.Folding.{named_below}
use Rattle.log_opening.proofs.decoding.fold_records.Goals as goal

pub of_fold-requires : goal.of_fold-requires
of_fold-requires c = omega (arith, c.requires, named_below c.args.lists c.in-Err.no c.in-Err.ensures)

pub returns-in-Err : goal.returns-in-Err
returns-in-Err c = c.of_fold.ensures c.args.lists c.in-Err.ensures
