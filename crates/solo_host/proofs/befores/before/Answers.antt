use Rattle.std.proofs.Common.{◌<◌, arith}
use Rattle.snap_core.specs.snap_hand.Tables.{fixed_of}
use Rattle.solo_host.proofs.Turning.{before_a_sync, sync_exists}
use Rattle.solo_host.proofs.befores.before.Goals as goal

pub before_sync-requires-clause-exists : goal.before_sync-requires-clause-exists
before_sync-requires-clause-exists g c =
    let here = c.requires.allowed in
    sync_exists (fixed_of c.args.core.now.tables) here.0 c.args.e c.in-Sync.l c.requires.runs here.1.run c.in-Sync.is here.2

pub returns-in-Sync-clause-outer : goal.returns-in-Sync-clause-outer
returns-in-Sync-clause-outer g c =
    let here = c.requires.allowed in
    let exists : c.in-Sync.l < c.args.core.now.tables.work.logs = sync_exists (fixed_of c.args.core.now.tables) here.0 c.args.e c.in-Sync.l c.requires.runs here.1.run c.in-Sync.is here.2 in
    before_a_sync c.before_sync.result c.args.core.now c.args.e c.in-Sync.l c.args.logs.now.items c.before_sync.new.logs.items (g.O.Sink.taken c.args.out.now) (g.O.Sink.faults c.args.out.now) c.in-Sync.is
    (omega (arith, exists, c.requires.logs)) c.before_sync.ensures
