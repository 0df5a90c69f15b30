use Rattle.std.proofs.Common.{refl}
use Rattle.snap_base.proofs.Lists.{one_at}
use Rattle.audit_tale.proofs.Standing.{nobody_waits, waits_known}
use Rattle.audit_tale.proofs.asking.wait_for.Goals as goal

pub returns-in_default-clause-knows : goal.returns-in_default-clause-knows
returns-in_default-clause-knows c w s rise h = nobody_waits w (record { behind = c.args.t.0; ahead = c.args.u.0; actor = c.args.a.0 }) s c.args.told.now h (c.in_default.ensures w s h.names)

pub returns-clause-knows : goal.returns-clause-knows
returns-clause-knows c w s rise h =
    waits_known w c.in-Some.at c.args.u.0 (one_at c.args.told.now.tale.acts.items c.in-Some.at c.in-Some.ensures.1).0 c.args.t c.args.a c.args.told.now _ s rise h c.in-Some.ensures.0 c.in-Some.ensures.1
    (record { tale = refl; actors = refl; ways = refl; ties = c.in_ok-add_waiter.ensures; uncut = refl; going = refl })
