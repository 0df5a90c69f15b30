use Rattle.std.proofs.Common.{◌≡◌, ap, sym, ◌∙◌}
use Rattle.std.specs.Prelude.{◌==◌, filter}
use Rattle.ready_list.specs.Order.{kind_of}
use Rattle.ready_list.specs.Rings.{RoomedRing, events_at, ring_at}
use Rattle.ready_list.proofs.AmongRings.{kind_found, none_of_kind}
use Rattle.ready_list.proofs.ready.ReadyList.of_kind.Goals as goal

pub returns-in-Some : goal.returns-in-Some
returns-in-Some c =
    let here : c.in-Some.ring.now ≡ ring_at c.deref.result.now c.args.kind = c.in-Some.ensures.lookup.3.1 _ in
    c.pieces.ensures
    ∙ ap (λ (r : RoomedRing). r.events) here
    ∙ ap (λ rs. events_at rs c.args.kind) c.deref.ensures.value
    ∙ sym (kind_found c.self.inside.kinds.items c.self.inside.count c.self.inside.first c.args.kind c.self.invariant)
    ∙ ap (λ l. filter (λ f. kind_of f == c.args.kind) l.events) c.self.view_is

pub returns-in-None : goal.returns-in-None
returns-in-None c =
    sym (none_of_kind c.deref.result.now c.args.kind c.in-None.ensures.lookup.3)
    ∙ ap (λ rs. events_at rs c.args.kind) c.deref.ensures.value
    ∙ sym (kind_found c.self.inside.kinds.items c.self.inside.count c.self.inside.first c.args.kind c.self.invariant)
    ∙ ap (λ l. filter (λ f. kind_of f == c.args.kind) l.events) c.self.view_is
