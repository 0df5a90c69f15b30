use Rattle.std.proofs.Common.{map, length, refl, sym, subst}
use Rattle.protocol.specs.Events.{Reply}
use Rattle.snap_core.specs.core_events.Meant.{event_meant}
use Rattle.snap_core.specs.Cores.{IsAt, state_at}
use Rattle.snap_core.specs.snap_hand.Tables.{fixed_of}
use Rattle.solo_host.proofs.Replying.{covers_without}
use Rattle.solo_host.proofs.Turning.{kept_more}
use Rattle.solo_host.proofs.Words.{drawn_on}
use Rattle.solo_host.proofs.together.take_reply.Goals as goal
use Rattle.snap_core.specs.core_events.declared.events.Event.TheVariants as events

pub take_step-requires : goal.take_step-requires
take_step-requires c = (map event_meant c.args.kept.now.items, c.requires.at, c.requires.allowed)

pub returns-clause-kept : goal.returns-clause-kept
returns-clause-kept c = kept_more c.args.kept.now.items c.args.kept.now.items c.keep.new.kept.items (events.Reply c.args.n) refl c.keep.ensures.kept

pub returns-clause-at : goal.returns-clause-at
returns-clause-at c =
    let es = map event_meant c.args.kept.now.items in
    subst (IsAt c.take_step.new.core) (sym (kept_more c.args.kept.now.items c.args.kept.now.items c.keep.new.kept.items (events.Reply c.args.n) refl c.keep.ensures.kept)) (c.in-Ok.ensures.ok es c.requires.at).1

pub returns-clause-covers : goal.returns-clause-covers
returns-clause-covers c =
    covers_without (fixed_of c.args.core.now.tables) c.args.n.0 (state_at c.args.core.now (map event_meant c.args.kept.now.items)) c.args.list.now.events c.take.new.self.events
    c.one_is_taken.ensures.kept c.events_stay_in_order.ensures.without c.take.ensures.events c.requires.covers

pub returns-clause-drawn : goal.returns-clause-drawn
returns-clause-drawn c =
    let es = map event_meant c.args.kept.now.items in
    drawn_on 0 es (map event_meant c.keep.new.kept.items) (Reply c.args.n.0) c.draw-word.new.generator
    (kept_more c.args.kept.now.items c.args.kept.now.items c.keep.new.kept.items (events.Reply c.args.n) refl c.keep.ensures.kept)
    (c.draw-word.ensures.drawn 0 (length es) c.requires.drawn)
