use Rattle.std.proofs.Common.{◌≡◌, ◌%◌, Some, [], ◌∷◌, slice_get, refl, sym, ap, subst, ◌∙◌}
use Rattle.core_rows.specs.log_set.Logs.{LogList}
use Rattle.protocol.specs.Effects.{after, added, log_at}
use Rattle.protocol.specs.Events.{Commit}
use Rattle.protocol.specs.Records.{BatchDone}
use Rattle.protocol.specs.Words.{batch_of, values_of}
use Rattle.snap_hand.specs.Tables.{fixed_of, text_of}
use Rattle.snap_hand.proofs.Held.{desk_there}
use Rattle.snap_hand.proofs.LogSteps.{log_shown, on_desk_and_log}
use Rattle.snap_hand.proofs.Stepping.{of_run}
use Rattle.snap_hand.proofs.InBoxes.{lent, lent_log}
use Rattle.snap_hand.proofs.on_logs.commit.Goals as goal
use Rattle.snap_hand.proofs.Begins.{log_is_there}

pub take_desk-desk-requires : goal.take_desk-desk-requires
take_desk-desk-requires c = desk_there c.args.hand.now c.requires.asked.parts.0

pub take_log-log-requires : goal.take_log-log-requires
take_log-log-requires c = subst (λ z. (x : LogList) × (slice_get z.logs c.log_of-place.result ≡ Some (Some x))) (sym c.take_desk-desk.ensures.taken) (log_is_there (fixed_of c.args.tables.now) c.args.hand.now c.args.k.0 c.log_of-place.result c.requires.tables.accepted c.requires.asked.places c.log_of-place.ensures c.requires.asked.parts.1.0)

pub commit-step-requires : goal.commit-step-requires
commit-step-requires c = of_run (fixed_of c.args.tables.now) c.args.hand.now _ (λ s f. (f.desk _ (lent _ _ _ c.take_desk-desk.ensures.there c.deref_mut.ensures.value), log_shown c.args.hand.now s f c.log_of-place.result _ c.log_of-place.ensures c.deref_mut-2.result.now (sym (ap (λ z. slice_get z.logs c.log_of-place.result) c.take_desk-desk.ensures.taken) ∙ (lent_log _ _ _ c.take_log-log.ensures.there c.deref_mut-2.ensures.value)))) c.requires.asked.some

pub returns : goal.returns
unfolding after
returns c = on_desk_and_log (fixed_of c.args.tables.now) (Commit c.args.k.0) c.args.hand.now c.take_desk-desk.new.self c.take_log-log.new.self c.put_desk.new.self c.put_log.new.self c.args.k.0 c.log_of-place.result c.deref_mut.result.now c.commit-step.new.desk c.deref_mut-2.result.now c.commit-step.new.log (λ s. added (BatchDone c.args.k.0 (values_of (batch_of c.args.k.0 s.desk.batches)) ∷ []) (log_at s (c.args.k.0 % (text_of c.args.tables.now).logs))) c.commit-step.result (λ s. refl) c.requires.asked.places refl c.log_of-place.ensures (lent _ _ _ c.take_desk-desk.ensures.there c.deref_mut.ensures.value) c.take_desk-desk.ensures.taken (lent_log _ _ _ c.take_log-log.ensures.there c.deref_mut-2.ensures.value) c.take_log-log.ensures.taken c.put_desk.ensures c.put_log.ensures c.commit-step.ensures.ok c.commit-step.ensures.no c.commit-step.ensures.desk c.commit-step.ensures.log
