use Rattle.std.proofs.Common.{List, arith, filter, length, map, not, ap, refl, ◌∙◌}
use Rattle.std.proofs.lemmas.Option.{slice_get_read}
use Rattle.protocol.specs.Words.{greatest}
use Rattle.snap_base.specs.declared.ids.Bid.{Bid}
use Rattle.audit_tale.specs.Knows.{bid_number}
use Rattle.audit_tale.specs.Leaves.{cut_by, staying_by}
use Rattle.audit_tale.specs.declared.told.BatchWay.{BatchWay}
use Rattle.audit_tale.proofs.WhoLeaves.{rolled_known, rolled_nowhere}
use Rattle.audit_tale.proofs.leaving.rollback.Goals as goal

pub returns-then-at-len : goal.returns-then-at-len
returns-then-at-len c reads w s sound h = rolled_nowhere reads w c.args.a.0 c.args.told.now s (omega arith) h

pub returns : goal.returns
returns c reads w s sound h =
    rolled_known reads w c.args.a.0 c.index_mut-actor.result.now _ c.args.told.now _ s
    (slice_get_read c.args.told.now.actors.items (length c.args.told.now.actors.items) c.args.a.0 c.index_mut-actor.result.now refl (omega arith) c.index_mut-actor.ensures.value)
    (omega arith)
    (record { tale = refl; actors = refl; ways = refl; uncut = refl; going = refl })
    refl
    (c.drop_cut.ensures ∙ ap (λ (ways : List BatchWay). staying_by ways c.index_mut-actor.result.now.entries.items) c.deref.ensures.value)
    (c.drop_cut_batches.ensures ∙ ap (λ (ways : List BatchWay). filter (λ k. not (cut_by ways k.0)) c.index_mut-actor.result.now.kept.items) c.deref-2.ensures.value)
    (c.greatest_of-actor.ensures ∙ ap (λ (ks : List Bid). greatest (map bid_number ks)) c.deref-3.ensures.value)
    refl refl refl refl sound h
