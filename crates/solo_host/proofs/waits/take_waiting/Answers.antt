use Rattle.std.proofs.Common.{map, refl}
use Rattle.std.proofs.KnownBytes.{Appends-nil}
use Rattle.run_effects.specs.declared.stops.Stop.TheVariants as stop
use Rattle.snap_core.specs.core_events.Meant.{event_meant}
use Rattle.snap_core.specs.snap_hand.Tables.{fixed_of}
use Rattle.snap_outside.proofs.AtFault.{surely}
use Rattle.solo_host.specs.Outside.{outside}
use Rattle.solo_host.proofs.KeptList.{one_behind}
use Rattle.solo_host.proofs.Picking.{picked_allowed}
use Rattle.solo_host.proofs.Turning.{ended, given_up, gone_on, kept_more, not_stepped}
use Rattle.solo_host.proofs.waits.take_waiting.Goals as goal

pub returns-in_default-clause-goes : goal.returns-in_default-clause-goes
returns-in_default-clause-goes g c seed picked =
    let es = map event_meant c.args.kept.now.items in
    let old = outside c.args.logs.now.items (g.O.Sink.taken c.args.out.now) (g.O.Sink.faults c.args.out.now) in
    ended seed c.args.core.now c.args.core.now es stop.Memory old refl c.requires.at c.requires.open (λ l. refl) (Appends-nil (g.O.Sink.taken c.args.out.now))

pub before-requires-clause-allowed : goal.before-requires-clause-allowed
before-requires-clause-allowed g c =
    let es = map event_meant c.args.kept.now.items in
    (es, c.requires.at, picked_allowed (fixed_of c.args.core.now.tables) c.requires.picked.0 es (event_meant c.args.e) c.requires.picked.1)

pub returns-in-Err-clause-goes : goal.returns-in-Err-clause-goes
returns-in-Err-clause-goes g c seed picked =
    let es = map event_meant c.args.kept.now.items in
    let old = outside c.args.logs.now.items (g.O.Sink.taken c.args.out.now) (g.O.Sink.faults c.args.out.now) in
    let new = outside c.before-2.new.logs.items (g.O.Sink.taken c.before-2.new.out) (g.O.Sink.faults c.before-2.new.out) in
    given_up seed c.args.core.now es (event_meant c.args.e) c.in-Err.stop old new c.requires.at picked (c.in-Err.ensures.outer es c.requires.at)

pub returns-in-Err-clause-once : goal.returns-in-Err-clause-once
returns-in-Err-clause-once g c = surely _ _ _ _ (λ no is. no (cc is)) c.in-Err.ensures.once

pub take_step-requires : goal.take_step-requires
take_step-requires g c =
    let es = map event_meant c.args.kept.now.items in
    (es, c.requires.at, picked_allowed (fixed_of c.args.core.now.tables) c.requires.picked.0 es (event_meant c.args.e) c.requires.picked.1)

pub returns-in-Err-take_step-clause-goes : goal.returns-in-Err-take_step-clause-goes
returns-in-Err-take_step-clause-goes g c seed picked =
    let es = map event_meant c.args.kept.now.items in
    let old = outside c.args.logs.now.items (g.O.Sink.taken c.args.out.now) (g.O.Sink.faults c.args.out.now) in
    let new = outside c.before-2.new.logs.items (g.O.Sink.taken c.before-2.new.out) (g.O.Sink.faults c.before-2.new.out) in
    not_stepped seed c.args.core.now c.take_step.new.core es (event_meant c.args.e) old new c.in-Err-take_step.ensures.unchanged c.requires.at c.in-Err-take_step.ensures.no (c.in-Ok-before.ensures.outer es c.requires.at)

pub returns-in-Err-take_step-clause-once : goal.returns-in-Err-take_step-clause-once
returns-in-Err-take_step-clause-once g c = surely _ _ _ _ (λ no is. cc is) c.in-Ok-before.ensures.once

pub returns-clause-goes : goal.returns-clause-goes
returns-clause-goes g c seed picked =
    let es = map event_meant c.args.kept.now.items in
    let old = outside c.args.logs.now.items (g.O.Sink.taken c.args.out.now) (g.O.Sink.faults c.args.out.now) in
    let new = outside c.before-2.new.logs.items (g.O.Sink.taken c.before-2.new.out) (g.O.Sink.faults c.before-2.new.out) in
    gone_on seed c.args.core.now c.take_step.new.core es (map event_meant c.keep.new.kept.items) (event_meant c.args.e) old new
    (kept_more c.args.kept.now.items c.args.kept.now.items c.keep.new.kept.items c.args.e refl c.keep.ensures.kept)
    picked (c.in-Ok-take_step.ensures.ok es c.requires.at).1 (c.in-Ok-before.ensures.outer es c.requires.at)

pub returns-clause-behind : goal.returns-clause-behind
returns-clause-behind g c none seed list kept =
    let w = fixed_of c.args.core.now.tables in
    let es = map event_meant c.args.kept.now.items in
    one_behind seed w es (map event_meant c.keep.new.kept.items) list (map event_meant c.foresee.new.news.items) (event_meant c.args.e)
    (kept_more c.args.kept.now.items c.args.kept.now.items c.keep.new.kept.items c.args.e refl c.keep.ensures.kept) kept
    (c.in-Ok.ensures es c.requires.at (picked_allowed w c.requires.picked.0 es (event_meant c.args.e) c.requires.picked.1))

pub returns-clause-once : goal.returns-clause-once
returns-clause-once g c = surely _ _ _ _ (λ no is. cc is) c.in-Ok-before.ensures.once
