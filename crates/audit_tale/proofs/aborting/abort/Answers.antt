use Rattle.std.proofs.Common.{ap, arith, refl, sym}
use Rattle.protocol.specs.Parts.{Ring}
use Rattle.audit_tale.specs.Cutting.{marked_cut}
use Rattle.audit_tale.proofs.TakenAlong.{aborted_known, nothing_aborts}
use Rattle.audit_tale.proofs.Touched.{touched_count}
use Rattle.audit_tale.proofs.aborting.abort.Goals as goal

pub tell_fall-requires-clause-formed : goal.tell_fall-requires-clause-formed
tell_fall-requires-clause-formed c =
    let cuts = c.cut_batches.ensures in
    omega (arith, (c.if-not-may_abort.ensures.within refl).1, touched_count marked_cut _ c.args.told.now.ways.items c.cut_batches.new.told.ways.items cuts.ways)

pub returns-then-not-may_abort : goal.returns-then-not-may_abort
returns-then-not-may_abort c reads w s sound fits h =
    let t = c.args.told.now in
    nothing_aborts reads w c.args.k.0 t _ s (sym (c.if-not-may_abort.ensures.value w s sound h)) (ap (λ (r : Ring). record t { tale = record t.tale { ring = r } }) c.cut.ensures) h

pub returns : goal.returns
returns c reads w s sound fits h =
    let t = c.args.told.now in
    let o = c.cut_acts.new.told in
    aborted_known reads w c.args.k t c.cut_batches.new.told c.tell_fall.new.told o _ s sound fits h (sym (c.if-not-may_abort.ensures.value w s sound h)) (c.if-not-may_abort.ensures.within refl).0 c.cut_batches.ensures c.tell_fall.ensures c.cut_acts.ensures
    (ap (λ (r : Ring). record o { tale = record o.tale { ring = r } }) c.cut-2.ensures)
