use Rattle.std.proofs.Common.{sym}
use Rattle.txn_records.specs.declared.keys.Key.TheVariants as keys
use Rattle.snap_recover.specs.Logs.{log_of}
use Rattle.snap_recover.specs.Passes.{bid_at, last_at}
use Rattle.snap_recover.proofs.OneRefusal.{info_is_there}
use Rattle.snap_recover.proofs.Placing.{placed_some}
use Rattle.snap_recover.proofs.keeping.tids_of.Goals as goal

pub unreachable-requires : goal.unreachable-requires
unreachable-requires c =
    let w = c.requires.whole in
    placed_some (keys.Info (bid_at c.args.bid)) (log_of c.args.logs.now c.args.bid) (last_at c.args.infos.now c.args.bid) (sym c.in_default.ensures) (c.requires.infos.all c.args.bid)
    (info_is_there c.args.logs.now (bid_at c.args.bid) w.0 w.1 w.2)
