use Rattle.std.proofs.Common.{◌≡◌, ◌<◌, rules, ap, subst, sym, ◌∙◌, length, map}
use Rattle.core_events.specs.Meant.{event_meant}
use Rattle.protocol.specs.Schedule.{AscendByRank}
use Rattle.ready_list.proofs.Gaps.{first_gap, first_there}
use Rattle.ready_list.proofs.ring.Ring.is_first.Goals as goal

pub returns-in-Some-clause-gap : goal.returns-in-Some-clause-gap
returns-in-Some-clause-gap c = λ h.
    let v : map event_meant c.self.inside.events.items ≡ c.args.self.now.events = ap (λ r. r.events) c.self.view_is in
    let some : 0 < length c.self.inside.events.items = search rules in
    first_gap c.self.inside.events.items c.args.self.now.events c.in-Some.first.now (event_meant c.args.e) c.ranks_are_in_order.ensures.through (subst AscendByRank v c.self.invariant) v c.requires some c.in-Some.ensures.lookup (sym c.is_same.ensures ∙ h)

pub returns-in-Some-clause-there : goal.returns-in-Some-clause-there
returns-in-Some-clause-there c = λ h.
    let v : map event_meant c.self.inside.events.items ≡ c.args.self.now.events = ap (λ r. r.events) c.self.view_is in
    let some : 0 < length c.self.inside.events.items = search rules in
    first_there c.self.inside.events.items c.args.self.now.events c.in-Some.first.now (event_meant c.args.e) v some c.in-Some.ensures.lookup (sym c.is_same.ensures ∙ h)
