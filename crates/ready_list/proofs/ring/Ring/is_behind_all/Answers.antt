use Rattle.std.proofs.Common.{◌≡◌, ◌-◌, ◌<◌, arith, rules, true, ap, subst, length, map, slice_index_or}
use Rattle.core_events.specs.Meant.{event_meant}
use Rattle.protocol.specs.Schedule.{AscendByRank}
use Rattle.ready_list.specs.Order.{at, is_before}
use Rattle.ready_list.proofs.Gaps.{all_ahead, read, same_length}
use Rattle.ready_list.proofs.ring.Ring.is_behind_all.Goals as goal

pub returns-in-Some : goal.returns-in-Some
returns-in-Some c = λ h.
    let items = c.self.inside.events.items in
    let v : map event_meant c.self.inside.events.items ≡ c.args.self.now.events = ap (λ r. r.events) c.self.view_is in
    let some : 0 < length c.self.inside.events.items = search rules in
    let last : c.in-Some.last.now ≡ slice_index_or c.self.inside.events.items (length c.self.inside.events.items - 1) c.in-Some.last.now = subst (λ n. c.in-Some.last.now ≡ slice_index_or c.self.inside.events.items (n - 1) c.in-Some.last.now) c.self.inside.events.ok.0 c.in-Some.ensures.lookup in
    let below : is_before (at c.args.self.now.events (length items - 1)) (event_meant c.args.e) ≡ true =
    read items c.args.self.now.events (length items - 1) c.in-Some.last.now (event_meant c.args.e) c.place_of.result c.stands_before.result true v c.requires (omega (arith, some)) last c.place_of.ensures c.stands_before.ensures h in
    all_ahead c.args.self.now.events (event_meant c.args.e) (length items - 1) c.ranks_are_in_order.ensures.through (subst AscendByRank v c.self.invariant) (omega (arith, some, same_length items c.args.self.now.events v)) below
