use Rattle.std.proofs.Common.{arith, length, refl, ◌∙◌}
use Rattle.std.proofs.lemmas.Option.{slice_get_read}
use Rattle.audit_tale.proofs.WhoFinishes.{finished_before, finished_known, finished_nobody, finished_nowhere, stands_known}
use Rattle.audit_tale.proofs.leaving.finish.Goals as goal

pub returns-in_default : goal.returns-in_default
returns-in_default c reads w s sound h = finished_nobody reads w c.args.t.0 c.args.a.0 c.args.told.now s sound (c.in_default.ensures w s h.names) h

pub returns-then-at-len : goal.returns-then-at-len
returns-then-at-len c reads w s sound h = finished_nowhere reads w c.args.t.0 c.args.a.0 c.args.told.now s (omega arith) h

pub returns-then-not-has_act : goal.returns-then-not-has_act
returns-then-not-has_act c reads w s sound h =
    let old = h.stands.actors c.args.a.0 c.index.result.now (slice_get_read c.args.told.now.actors.items (length c.args.told.now.actors.items) c.args.a.0 c.index.result.now refl (omega arith) c.index.ensures) in
    finished_before reads w c.args.t.0 c.args.a.0 c.args.told.now s (stands_known c.args.t.0 c.args.a.0 c.index.result.now c.deref.result.now c.has_act.result s old c.deref.ensures.value c.has_act.ensures ∙ c.if-not-has_act.true) h

pub returns : goal.returns
returns c reads w s sound h =
    let old = h.stands.actors c.args.a.0 c.index.result.now (slice_get_read c.args.told.now.actors.items (length c.args.told.now.actors.items) c.args.a.0 c.index.result.now refl (omega arith) c.index.ensures) in
    finished_known reads w c.args.t.0 c.in-Some.place c.args.a c.index-2.result.now c.seals-sealed.result c.index_mut.result.now c.leave.new.actor c.index_mut-2.result.now c.untie.new.ties c.args.told.now _ s
    (record { owner = c.in-Some.ensures.0; act = slice_get_read c.args.told.now.tale.acts.items (length c.args.told.now.tale.acts.items) c.in-Some.place c.index-2.result.now refl c.in-Some.ensures.1 c.index-2.ensures })
    c.seals-sealed.ensures
    (stands_known c.args.t.0 c.args.a.0 c.index.result.now c.deref.result.now c.has_act.result s old c.deref.ensures.value c.has_act.ensures ∙ c.if-not-has_act.false)
    (slice_get_read c.args.told.now.actors.items (length c.args.told.now.actors.items) c.args.a.0 c.index_mut.result.now refl (omega arith) c.index_mut.ensures.value)
    (omega arith)
    c.leave.ensures
    (record { tale = refl; actors = refl; ways = refl; uncut = refl; going = refl })
    (slice_get_read c.args.told.now.ties.items (length c.args.told.now.ties.items) c.in-Some.place c.index_mut-2.result.now refl (omega arith) c.index_mut-2.ensures.value)
    refl c.in_ok-untie.ensures sound h
