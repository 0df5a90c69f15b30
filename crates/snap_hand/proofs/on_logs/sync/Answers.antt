use Rattle.std.proofs.Common.{refl, arith}
use Rattle.protocol.specs.Effects.{after, log_at, synced}
use Rattle.protocol.specs.Events.{Sync}
use Rattle.snap_hand.specs.Tables.{fixed_of}
use Rattle.snap_hand.proofs.Held.{log_there}
use Rattle.snap_hand.proofs.LogSteps.{on_log}
use Rattle.snap_hand.proofs.Nowhere.{below, no_log, syncs_nowhere}
use Rattle.snap_hand.proofs.InBoxes.{lent_log}
use Rattle.snap_hand.proofs.on_logs.sync.Goals as goal

pub returns-then-not-has_log : goal.returns-then-not-has_log
returns-then-not-has_log c = ((omega arith, λ s r f. syncs_nowhere (fixed_of c.args._tables.now) s c.args.l (no_log (fixed_of c.args._tables.now) s c.args.hand.now c.args.l c.has_log.result (c.rows_may.ensures (fixed_of c.args._tables.now) s r) c.requires.asked.places c.has_log.ensures c.if-not-has_log.true)), refl)

pub take_log-log-requires : goal.take_log-log-requires
take_log-log-requires c = log_there c.args.hand.now c.args.l c.requires.asked.parts.0 (below c.args.l _ c.has_log.result c.has_log.ensures c.if-not-has_log.false)

pub returns : goal.returns
unfolding after
returns c = on_log (fixed_of c.args._tables.now) (Sync c.args.l) c.args.hand.now c.take_log-log.new.self c.put_log.new.self c.args.l c.deref_mut.result.now c.sync-step.new.log (λ s. synced (log_at s c.args.l)) c.sync-step.result (λ s. refl) c.requires.asked.places (lent_log _ _ _ c.take_log-log.ensures.there c.deref_mut.ensures.value) c.take_log-log.ensures.taken c.put_log.ensures c.sync-step.ensures.ok c.sync-step.ensures.no c.sync-step.ensures.rule c.sync-step.ensures.unchanged
