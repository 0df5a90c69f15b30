use Rattle.std.proofs.Common.{arith, length, refl}
use Rattle.std.proofs.lemmas.Option.{slice_get_read}
use Rattle.audit_tale.proofs.WhoLeaves.{ran_known, ran_nowhere}
use Rattle.audit_tale.proofs.leaving.run.Goals as goal

pub returns-then-at-len : goal.returns-then-at-len
returns-then-at-len c reads w s sound h = ran_nowhere reads w c.args.t.0 c.args.a.0 c.args.told.now s (omega arith) h

pub returns : goal.returns
returns c reads w s sound h =
    ran_known reads w c.args.t c.args.a.0 c.index_mut.result.now _ c.args.told.now _ s
    (slice_get_read c.args.told.now.actors.items (length c.args.told.now.actors.items) c.args.a.0 c.index_mut.result.now refl (omega arith) c.index_mut.ensures.value)
    (omega arith)
    (record { tale = refl; actors = refl; ways = refl; uncut = refl; going = refl })
    refl c.in_ok-push.ensures.items refl refl refl refl refl refl h
