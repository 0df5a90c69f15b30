use Rattle.std.proofs.Common.{◌∙◌, ap, sym, subst, length, refl}
use Rattle.std.proofs.lemmas.List.{length-map}
use Rattle.std.proofs.lemmas.Option.{slice_get_read}
use Rattle.snap_base.proofs.Lists.{one_at}
use Rattle.audit_tale.specs.Knows.{formed_of}
use Rattle.audit_tale.specs.Stands.{TellsWay}
use Rattle.audit_tale.proofs.TakenAlong.{may_is, none_aborts}
use Rattle.audit_tale.proofs.WhoIsTold.{batch_nowhere, batch_there}
use Rattle.audit_tale.proofs.aborting.may_abort.Goals as goal

pub returns-in-None-clause-value : goal.returns-in-None-clause-value
returns-in-None-clause-value c w s sound h =
    sym (none_aborts c.args.k.0 s (batch_nowhere w c.args.k.0 c.args.told.now.tale s sound.drawn h.names
    (c.in-None.ensures (h.stands.batches ∙ (sym (ap length h.names.batches) ∙ length-map c.args.told.now.tale.batches.items formed_of)))))

pub returns-in-Some-clause-value : goal.returns-in-Some-clause-value
returns-in-Some-clause-value c w s sound h =
    let t = c.args.told.now in
    let at = c.in-Some.at in
    let batch = one_at t.tale.batches.items at c.in-Some.ensures.1 in
    let way : TellsWay s c.args.k.0 c.index.result.now = subst (λ n. TellsWay s n c.index.result.now) (sym c.in-Some.ensures.0) (h.stands.ways at c.index.result.now (slice_get_read t.ways.items (length t.ways.items) at c.index.result.now refl c.in-Some.ensures.2 c.index.ensures)) in
    may_is c.args.k.0 s _ c.index.result.now (batch_there w c.args.k.0 at batch.0 t.tale s sound.drawn h.names c.in-Some.ensures.0 c.in-Some.ensures.1) way
