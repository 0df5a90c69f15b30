use Rattle.std.proofs.Common.{◌≡◌, ◌%◌, Some, [], ◌∷◌, slice_get, refl, sym, ap, subst, ◌∙◌, arith}
use Rattle.aml_slice.specs.Controls.{Rest}
use Rattle.protocol.specs.Effects.{after, added, cell_at, log_at}
use Rattle.protocol.specs.Events.{Complete}
use Rattle.protocol.specs.OnCell.{batch_completed}
use Rattle.protocol.specs.Parts.{Cell}
use Rattle.protocol.specs.Records.{BatchComplete}
use Rattle.snap_hand.specs.Tables.{fixed_of, text_of}
use Rattle.snap_hand.proofs.Held.{cell_there}
use Rattle.snap_hand.proofs.LogSteps.{log_shown, on_log_and_cell}
use Rattle.snap_hand.proofs.Nowhere.{below, no_actor}
use Rattle.snap_hand.proofs.Stepping.{of_run}
use Rattle.snap_hand.proofs.InBoxes.{lent_cell, lent_log}
use Rattle.snap_hand.proofs.on_logs.complete.Goals as goal
use Rattle.snap_hand.proofs.Begins.{log_is_there}

pub returns-then-not-has_actor : goal.returns-then-not-has_actor
returns-then-not-has_actor c =
    ((omega arith, λ s r f. c.nothing_happens_nowhere.ensures.complete (fixed_of c.args.tables.now) s c.args.k.0 c.args.a.0 (no_actor (fixed_of c.args.tables.now) s c.args.hand.now c.args.a.0 c.has_actor.result (c.rows_may.ensures (fixed_of c.args.tables.now) s r) c.requires.asked.places c.has_actor.ensures c.if-not-has_actor.true)), refl)

pub take_log-log-requires : goal.take_log-log-requires
take_log-log-requires c = log_is_there (fixed_of c.args.tables.now) c.args.hand.now c.args.a.0 c.log_of-place.result c.requires.tables.accepted c.requires.asked.places c.log_of-place.ensures c.requires.asked.parts.0

pub take_cell-cell-requires : goal.take_cell-cell-requires
take_cell-cell-requires c = subst (λ z. (x : Cell Rest) × (slice_get z.cells c.args.a.0 ≡ Some (Some x))) (sym c.take_log-log.ensures.taken) (cell_there c.args.hand.now (text_of c.args.tables.now).logs c.args.a.0 c.requires.asked.places.logs c.requires.asked.parts.1.0 (below c.args.a.0 _ c.has_actor.result c.has_actor.ensures c.if-not-has_actor.false))

pub complete-step-requires : goal.complete-step-requires
complete-step-requires c = of_run (fixed_of c.args.tables.now) c.args.hand.now _ (λ s f. (log_shown c.args.hand.now s f c.log_of-place.result _ c.log_of-place.ensures c.deref_mut.result.now (lent_log _ _ _ c.take_log-log.ensures.there c.deref_mut.ensures.value), f.cells c.args.a.0 _ (sym (ap (λ z. slice_get z.cells c.args.a.0) c.take_log-log.ensures.taken) ∙ (lent_cell _ _ _ c.take_cell-cell.ensures.there c.deref_mut-2.ensures.value)))) c.requires.asked.some

pub returns : goal.returns
unfolding after
returns c = on_log_and_cell (fixed_of c.args.tables.now) (Complete c.args.k.0 c.args.a.0) c.args.hand.now c.take_log-log.new.self c.take_cell-cell.new.self c.put_log.new.self c.put_cell.new.self c.args.a.0 c.log_of-place.result c.args.a.0 c.deref_mut.result.now c.complete-step.new.log c.deref_mut-2.result.now c.complete-step.new.cell
    (λ s. added (BatchComplete c.args.k.0 c.args.a.0 (cell_at s c.args.a.0).state ∷ []) (log_at s (c.args.a.0 % (text_of c.args.tables.now).logs)))
    (λ s. batch_completed c.args.k.0 (cell_at s c.args.a.0)) c.complete-step.result (λ s. refl) c.requires.asked.places refl c.log_of-place.ensures (lent_log _ _ _ c.take_log-log.ensures.there c.deref_mut.ensures.value) c.take_log-log.ensures.taken (lent_cell _ _ _ c.take_cell-cell.ensures.there c.deref_mut-2.ensures.value) c.take_cell-cell.ensures.taken c.put_log.ensures c.put_cell.ensures c.complete-step.ensures.ok c.complete-step.ensures.no c.complete-step.ensures.log c.complete-step.ensures.cell
