use Rattle.std.proofs.Common.{◌≡◌, Some, slice_get, refl, sym, ap, subst, ◌∙◌}
use Rattle.core_rows.specs.log_set.Logs.{LogList}
use Rattle.protocol.specs.Effects.{after}
use Rattle.protocol.specs.Events.{Settle}
use Rattle.snap_hand.specs.Tables.{fixed_of}
use Rattle.snap_hand.proofs.Held.{desk_there}
use Rattle.snap_hand.proofs.LogSteps.{log_shown, on_desk}
use Rattle.snap_hand.proofs.Stepping.{of_run}
use Rattle.snap_hand.proofs.InBoxes.{lent}
use Rattle.snap_hand.proofs.on_logs.settle.Goals as goal
use Rattle.snap_hand.proofs.Begins.{log_is_there}

pub take_desk-desk-requires : goal.take_desk-desk-requires
take_desk-desk-requires c = desk_there c.args.hand.now c.requires.asked.parts.0

pub log-requires : goal.log-requires
log-requires c = subst (λ z. (x : LogList) × (slice_get z.logs c.log_of-place.result ≡ Some (Some x))) (sym c.take_desk-desk.ensures.taken) (log_is_there (fixed_of c.args.tables.now) c.args.hand.now c.args.k.0 c.log_of-place.result c.requires.tables.accepted c.requires.asked.places c.log_of-place.ensures c.requires.asked.parts.1.0)

pub settle-step-requires : goal.settle-step-requires
settle-step-requires c = of_run (fixed_of c.args.tables.now) c.args.hand.now _ (λ s f. (f.desk _ (lent _ _ _ c.take_desk-desk.ensures.there c.deref_mut.ensures.value), log_shown c.args.hand.now s f c.log_of-place.result _ c.log_of-place.ensures c.log.result.now (sym (ap (λ z. slice_get z.logs c.log_of-place.result) c.take_desk-desk.ensures.taken) ∙ c.log.ensures))) c.requires.asked.some

pub returns : goal.returns
unfolding after
returns c = on_desk (fixed_of c.args.tables.now) (Settle c.args.k.0) c.args.hand.now c.take_desk-desk.new.self c.put_desk.new.self c.args.k.0 c.log_of-place.result c.deref_mut.result.now c.settle-step.new.desk c.log.result.now c.settle-step.result (λ s. refl) c.requires.asked.places c.log_of-place.ensures (lent _ _ _ c.take_desk-desk.ensures.there c.deref_mut.ensures.value) c.take_desk-desk.ensures.taken c.log.ensures c.put_desk.ensures c.settle-step.ensures.ok c.settle-step.ensures.no c.settle-step.ensures.rule c.settle-step.ensures.unchanged
