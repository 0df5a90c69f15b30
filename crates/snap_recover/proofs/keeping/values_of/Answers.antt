use Rattle.std.proofs.Common.{sym}
use Rattle.txn_records.specs.declared.keys.Key.TheVariants as keys
use Rattle.snap_recover.specs.Logs.{log_of}
use Rattle.snap_recover.specs.Passes.{bid_at, last_at}
use Rattle.snap_recover.proofs.Placing.{placed_some}
use Rattle.snap_recover.proofs.keeping.values_of.Goals as goal

pub unreachable-requires : goal.unreachable-requires
unreachable-requires c =
    placed_some (keys.Commit (bid_at c.args.bid)) (log_of c.args.logs.now c.args.bid) (last_at c.args.commits.now c.args.bid) (sym c.in_default.ensures) (c.requires.commits.all c.args.bid) c.requires.is_in
