use Rattle.std.proofs.Common.{map, sym, ◌∙◌}
use Rattle.core_events.specs.Meant.{event_meant}
use Rattle.ready_list.proofs.OneEvent.{one}
use Rattle.snap_hand.specs.Tables.{fixed_of}
use Rattle.ready_renewal.proofs.KeptEvents.{not_asked, not_reached, still_allowed, now_gone}
use Rattle.ready_renewal.proofs.refused.ask_again.Goals as goal

pub returns-then-is_of : goal.returns-then-is_of
returns-then-is_of c = not_asked (fixed_of c.args.tables.now) c.args.hand.now (event_meant c.args.reach.now.event) (event_meant c.args.f) (map event_meant c.args.gone.now.items) (one (event_meant c.args.reach.now.event) (event_meant c.args.f) (sym c.is_of.ensures ∙ c.if-is_of.true))

pub returns-then-is_out_of_reach : goal.returns-then-is_out_of_reach
returns-then-is_out_of_reach c = not_reached (fixed_of c.args.tables.now) c.args.hand.now (event_meant c.args.reach.now.event) (event_meant c.args.f) (map event_meant c.args.gone.now.items) (c.is_out_of_reach.ensures c.if-is_out_of_reach.true)

pub returns-then-is_allowed : goal.returns-then-is_allowed
returns-then-is_allowed c = still_allowed (fixed_of c.args.tables.now) c.args.hand.now (event_meant c.args.reach.now.event) (event_meant c.args.f) (map event_meant c.args.gone.now.items) (c.is_allowed.ensures.allowed c.if-is_allowed.true)

pub returns : goal.returns
returns c = now_gone (fixed_of c.args.tables.now) c.args.hand.now (event_meant c.args.reach.now.event) c.args.f c.args.gone.now.items c.push.new.self.items c.in_ok-push.ensures.items (c.is_allowed.ensures.refused c.if-is_allowed.false)
