use Rattle.std.proofs.Common.{true, ap, refl, sym, ◌∙◌}
use Rattle.std.specs.Prelude.{slice_set}
use Rattle.snap_base.proofs.Lists.{read_same}
use Rattle.audit_tale.specs.declared.tales.BatchTale.{BatchTale}
use Rattle.audit_tale.proofs.WhoIsTold.{settle_done, settle_nowhere, settled_known}
use Rattle.audit_tale.proofs.telling.settle.Goals as goal

pub returns-in_default : goal.returns-in_default
returns-in_default c reads w s drawn h = settle_nowhere reads w c.args.k.0 c.args.tale.now s drawn h c.in_default.ensures

pub returns-then-index : goal.returns-then-index
returns-then-index c reads w s drawn h =
    settle_done reads w c.args.k.0 c.in-Some.at c.index.result.now c.args.tale.now s drawn h c.in-Some.ensures.0 c.in-Some.ensures.1 (ap (λ (b : BatchTale). b.settled) (sym c.index.ensures) ∙ c.if-index.true)

pub returns : goal.returns
returns c reads w s drawn h =
    settled_known reads w c.args.k.0 c.in-Some.at c.index.result.now c.args.tale.now _ s drawn h c.in-Some.ensures.0 c.in-Some.ensures.1 (ap (λ (b : BatchTale). b.settled) (sym c.index.ensures) ∙ c.if-index.false)
    (record { ring = refl; batches = ap (λ (b : BatchTale). slice_set c.args.tale.now.batches.items c.in-Some.at (record b { settled = true })) (c.index_mut.ensures.value ∙ read_same c.args.tale.now.batches.items c.in-Some.at c.index_mut.result.now c.index.result.now c.in-Some.ensures.1); acts = refl; owners = refl; members = refl; settled = refl; next_c = refl })
