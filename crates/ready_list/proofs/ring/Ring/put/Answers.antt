use Rattle.std.proofs.Common.{◌≡◌, sym, ap, subst, ◌∙◌, map}
use Rattle.std.specs.List.{insert}
use Rattle.core_events.specs.Meant.{event_meant}
use Rattle.protocol.specs.Schedule.{AscendByRank}
use Rattle.ready_list.proofs.Gaps.{mapped_insert, put_behind, put_where_there, put_where_new, same_length}
use Rattle.ready_list.proofs.ring.Ring.put.Goals as goal

pub returns-then-is_behind_all-clause-events : goal.returns-then-is_behind_all-clause-events
returns-then-is_behind_all-clause-events c =
    let v : map event_meant c.self.inside.events.items ≡ c.args.self.now.events = ap (λ r. r.events) c.self.view_is in
    ap (map event_meant) c.put_at.ensures.items
    ∙ (mapped_insert event_meant c.self.inside.events.items c.len-count.result c.args.e
    ∙ (ap (λ l. insert l c.len-count.result (event_meant c.args.e)) v
    ∙ put_behind c.args.self.now.events (event_meant c.args.e) c.len-count.result c.ranks_are_in_order.ensures.through c.ranks_are_in_order.ensures.apart (c.len-count.ensures ∙ c.self.inside.events.ok.0 ∙ same_length c.self.inside.events.items c.args.self.now.events v) (c.is_behind_all.ensures c.if-is_behind_all.true)))

pub invariant_of-self : goal.invariant_of-self
invariant_of-self c =
    let v : map event_meant c.self.inside.events.items ≡ c.args.self.now.events = ap (λ r. r.events) c.self.view_is in
    subst AscendByRank (sym (returns-then-is_behind_all-clause-events c)) (c.events_stay_in_order.ensures.put (event_meant c.args.e) c.args.self.now.events (subst AscendByRank v c.self.invariant))

pub returns-then-is_at-clause-events : goal.returns-then-is_at-clause-events
returns-then-is_at-clause-events c = put_where_there c.args.self.now.events (event_meant c.args.e) c.gap-at.result c.requires.kind c.ranks_are_in_order.ensures.through c.ranks_are_in_order.ensures.apart c.gap-at.ensures (sym c.is_at.ensures ∙ c.if-is_at.true)

pub returns-clause-events : goal.returns-clause-events
returns-clause-events c =
    let v : map event_meant c.self.inside.events.items ≡ c.args.self.now.events = ap (λ r. r.events) c.self.view_is in
    ap (map event_meant) c.put_at-2.ensures.items
    ∙ (mapped_insert event_meant c.self.inside.events.items c.gap-at.result c.args.e
    ∙ (ap (λ l. insert l c.gap-at.result (event_meant c.args.e)) v
    ∙ put_where_new c.args.self.now.events (event_meant c.args.e) c.gap-at.result c.requires.kind c.ranks_are_in_order.ensures.through c.ranks_are_in_order.ensures.apart c.gap-at.ensures (sym c.is_at.ensures ∙ c.if-is_at.false)))

pub invariant_of-self-2 : goal.invariant_of-self-2
invariant_of-self-2 c =
    let v : map event_meant c.self.inside.events.items ≡ c.args.self.now.events = ap (λ r. r.events) c.self.view_is in
    subst AscendByRank (sym (returns-clause-events c)) (c.events_stay_in_order.ensures.put (event_meant c.args.e) c.args.self.now.events (subst AscendByRank v c.self.invariant))
