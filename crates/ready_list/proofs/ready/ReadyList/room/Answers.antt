use Rattle.std.proofs.Common.{◌<◌, ◌≤◌, length, map, arith, ap, subst, ◌∙◌, Contains}
use Rattle.std.proofs.lemmas.Result.{on_err_weaker}
use Rattle.core_events.specs.Meant.{event_meant}
use Rattle.protocol.specs.Events.{Event}
use Rattle.ready_list.specs.Order.{RoomedList, kind_of, spare_of}
use Rattle.ready_list.specs.Rings.{all_events, spare_at, spares}
use Rattle.ready_list.proofs.AmongRings.{all_same, keeps_roomier}
use Rattle.ready_list.proofs.Roomed.{full_list, list_room, none_in_list, some_meant}
use Rattle.ready_list.proofs.ready.ReadyList.room.Goals as goal

pub returns-then-self-news-clause-needed : goal.returns-then-self-news-clause-needed
returns-then-self-news-clause-needed c =
    let r = c.self.inside in
    let some : (f : Event) × Contains (map event_meant c.args.news.now) f = some_meant c.args.news.now (omega (arith, c.if-self-news.true)) in
    (some.0, some.1, subst (λ l. spare_of l (kind_of some.0) < length c.args.news.now) c.self.view_is (full_list r.kinds.items r.count (length c.args.news.now) (kind_of some.0) (omega (arith, c.if-self-news.true))))

pub invariant_of-self : goal.invariant_of-self
invariant_of-self c = keeps_roomier c.self.inside.kinds.items c.room_for.new.kinds.items c.self.inside.count c.self.inside.first c.self.invariant c.room_for.ensures.kept

pub returns-clause-needed : goal.returns-clause-needed
returns-clause-needed c =
    let r = c.self.inside in
    let seen = λ (p : (f : Event) × Contains (map event_meant c.args.news.now) f × (spare_at r.kinds.items (kind_of f) < length c.args.news.now)).
    let q : (f : Event) × Contains (map event_meant c.args.news.now) f × (spare_of c.args.self.now (kind_of f) < length c.args.news.now) =
    (p.0, p.1, subst (λ l. spare_of l (kind_of p.0) < length c.args.news.now) c.self.view_is (none_in_list r.kinds.items r.count (length c.args.news.now) (kind_of p.0) p.2)) in q in
    on_err_weaker c.room_for.result seen c.room_for.ensures.needed

pub returns-clause-unchanged : goal.returns-clause-unchanged
returns-clause-unchanged c = all_same c.self.inside.kinds.items c.room_for.new.kinds.items c.room_for.ensures.kept.events ∙ ap (λ (l : RoomedList). l.events) c.self.view_is

pub returns-clause-no_less : goal.returns-clause-no_less
returns-clause-no_less c = λ k.
    let r = c.self.inside in
    let more = list_room r.kinds.items c.room_for.new.kinds.items r.count r.count 0 (λ j. omega (arith, c.room_for.ensures.kept.spare j)) (omega arith) k in
    subst (λ l. spare_of l k ≤ spare_of (record { events = all_events c.room_for.new.kinds.items; spare = spares c.room_for.new.kinds.items r.count }) k) c.self.view_is (omega (arith, more))
