use Rattle.std.proofs.Common.{refl, arith, length, ap, sym}
use Rattle.std.proofs.lemmas.Result.{on_ok_weaker}
use Rattle.snap_base.proofs.Lists.{one_at}
use Rattle.audit_tale.specs.declared.told.Told.{Told}
use Rattle.audit_tale.proofs.Lowered.{arrived_known, nothing_comes}
use Rattle.audit_tale.proofs.arriving.arrive.Goals as goal

pub join_there-requires-clause-formed : goal.join_there-requires-clause-formed
join_there-requires-clause-formed c =
    let within = c.if-not-comes.ensures.within refl in
    let x = one_at c.args.told.now.actors.items c.args.a.0 within.2 in
    omega (arith, within.1, ap (λ (m : Told). length m.ways.items) (c.lower_there.ensures x.0 x.1).rest)

pub join_there-requires-clause-actor : goal.join_there-requires-clause-actor
join_there-requires-clause-actor c =
    let within = c.if-not-comes.ensures.within refl in
    let x = one_at c.args.told.now.actors.items c.args.a.0 within.2 in
    omega (arith, within.2, ap (λ (m : Told). length m.actors.items) (c.lower_there.ensures x.0 x.1).rest)

pub returns-then-not-comes : goal.returns-then-not-comes
returns-then-not-comes c reads w s sound fits h = nothing_comes reads w c.args.k.0 c.args.a.0 c.args.told.now s (sym (c.if-not-comes.ensures.value w s sound fits h)) h

pub returns : goal.returns
returns c =
    let within = c.if-not-comes.ensures.within refl in
    let x = one_at c.args.told.now.actors.items c.args.a.0 within.2 in
    on_ok_weaker c.join_there.result
    (λ j reads w s sound fits h. arrived_known reads w c.args.k c.args.a x.0 c.args.told.now c.lower_there.new.told c.join_there.new.told s sound h (sym (c.if-not-comes.ensures.value w s sound fits h)) x.1 within.0 (c.lower_there.ensures x.0 x.1) j)
    c.join_there.ensures
