use Rattle.std.proofs.Common.{sym}
use Rattle.txn_records.specs.declared.keys.Key.TheVariants as keys
use Rattle.snap_recover.specs.Logs.{log_of}
use Rattle.snap_recover.specs.Passes.{tid_at, last_at}
use Rattle.snap_recover.proofs.Placing.{placed_some}
use Rattle.snap_recover.proofs.keeping.outcome_of.Goals as goal

pub unreachable-requires : goal.unreachable-requires
unreachable-requires c =
    placed_some (keys.Act (tid_at c.args.tid)) (log_of c.args.logs.now c.args.tid) (last_at c.args.infos.now c.args.tid) (sym c.in_default.ensures) (c.requires.infos.all c.args.tid) c.requires.is_in
