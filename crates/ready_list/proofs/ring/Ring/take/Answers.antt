use Rattle.std.proofs.Common.{◌≡◌, sym, ap, subst, ◌∙◌, map}
use Rattle.std.specs.List.{remove}
use Rattle.core_events.specs.Meant.{event_meant}
use Rattle.protocol.specs.Schedule.{AscendByRank}
use Rattle.ready_list.proofs.Gaps.{mapped_remove, take_where_there, take_where_none}
use Rattle.ready_list.proofs.ring.Ring.take.Goals as goal

pub returns-then-is_first-clause-events : goal.returns-then-is_first-clause-events
returns-then-is_first-clause-events c =
    let v : map event_meant c.self.inside.events.items ≡ c.args.self.now.events = ap (λ r. r.events) c.self.view_is in
    ap (map event_meant) c.take_at.ensures.items
    ∙ (mapped_remove event_meant c.self.inside.events.items 0
    ∙ (ap (λ l. remove l 0) v
    ∙ take_where_there c.args.self.now.events (event_meant c.args.e) 0 c.requires c.ranks_are_in_order.ensures.same (subst AscendByRank v c.self.invariant) (c.is_first.ensures.gap c.if-is_first.true) (c.is_first.ensures.there c.if-is_first.true)))

pub invariant_of-self : goal.invariant_of-self
invariant_of-self c =
    let v : map event_meant c.self.inside.events.items ≡ c.args.self.now.events = ap (λ r. r.events) c.self.view_is in
    subst AscendByRank (sym (returns-then-is_first-clause-events c)) (c.events_stay_in_order.ensures.without (event_meant c.args.e) c.args.self.now.events (subst AscendByRank v c.self.invariant))

pub returns-then-not-is_at-clause-events : goal.returns-then-not-is_at-clause-events
returns-then-not-is_at-clause-events c =
    let v : map event_meant c.self.inside.events.items ≡ c.args.self.now.events = ap (λ r. r.events) c.self.view_is in
    take_where_none c.args.self.now.events (event_meant c.args.e) c.gap-at.result c.requires c.ranks_are_in_order.ensures.through (subst AscendByRank v c.self.invariant) c.gap-at.ensures (sym c.is_at.ensures ∙ c.if-not-is_at.true)

pub returns-clause-events : goal.returns-clause-events
returns-clause-events c =
    let v : map event_meant c.self.inside.events.items ≡ c.args.self.now.events = ap (λ r. r.events) c.self.view_is in
    ap (map event_meant) c.take_at-2.ensures.items
    ∙ (mapped_remove event_meant c.self.inside.events.items c.gap-at.result
    ∙ (ap (λ l. remove l c.gap-at.result) v
    ∙ take_where_there c.args.self.now.events (event_meant c.args.e) c.gap-at.result c.requires c.ranks_are_in_order.ensures.same (subst AscendByRank v c.self.invariant) c.gap-at.ensures (sym c.is_at.ensures ∙ c.if-not-is_at.false)))

pub invariant_of-self-2 : goal.invariant_of-self-2
invariant_of-self-2 c =
    let v : map event_meant c.self.inside.events.items ≡ c.args.self.now.events = ap (λ r. r.events) c.self.view_is in
    subst AscendByRank (sym (returns-clause-events c)) (c.events_stay_in_order.ensures.without (event_meant c.args.e) c.args.self.now.events (subst AscendByRank v c.self.invariant))
