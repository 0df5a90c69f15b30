use Rattle.snap_hand.specs.Tables.{fixed_of}
use Rattle.snap_hand.proofs.Held.{log_there}
use Rattle.snap_hand.proofs.Nowhere.{below, no_log, syncs_nowhere}
use Rattle.snap_hand.proofs.on_logs.sync_refusal.Goals as goal

pub returns-then-not-has_log : goal.returns-then-not-has_log
returns-then-not-has_log c s r f = syncs_nowhere (fixed_of c.args._tables.now) s c.args.l (no_log (fixed_of c.args._tables.now) s c.args.hand.now c.args.l c.has_log.result (c.rows_may.ensures (fixed_of c.args._tables.now) s r) c.requires.asked.places c.has_log.ensures c.if-not-has_log.true)

pub log-requires : goal.log-requires
log-requires c = log_there c.args.hand.now c.args.l c.requires.asked.parts.0 (below c.args.l _ c.has_log.result c.has_log.ensures c.if-not-has_log.false)

pub returns : goal.returns
returns c s r f = c.sync_refusal.ensures (fixed_of c.args._tables.now) s r (f.logs c.args.l _ c.log.ensures)
