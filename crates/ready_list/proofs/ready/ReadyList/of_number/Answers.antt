use Rattle.std.proofs.Common.{◌≡◌, ap, sym, subst, ◌∙◌}
use Rattle.std.specs.Prelude.{◌==◌, ◌&&◌, filter}
use Rattle.ready_list.specs.Order.{first_of, kind_of}
use Rattle.ready_list.specs.Rings.{AreOfKind, RoomedRing, all_events, events_at, ring_at}
use Rattle.ready_list.proofs.AmongRings.{kind_found, none_of_kind}
use Rattle.ready_list.proofs.FirstNumbers.{both_tests}
use Rattle.ready_list.proofs.ready.ReadyList.of_number.Goals as goal

pub numbered-requires : goal.numbered-requires
numbered-requires c =
    let here : c.in-Some.ring.now ≡ ring_at c.deref.result.now c.args.kind = c.in-Some.ensures.lookup.3.1 _ in
    (c.args.kind, subst (λ (r : RoomedRing). AreOfKind c.args.kind r.events) (sym (here ∙ ap (λ rs. ring_at rs c.args.kind) c.deref.ensures.value)) (c.self.invariant.kinds c.args.kind))

pub returns-in-Some : goal.returns-in-Some
returns-in-Some c =
    let here : c.in-Some.ring.now ≡ ring_at c.deref.result.now c.args.kind = c.in-Some.ensures.lookup.3.1 _ in
    let those = filter (λ f. first_of f == c.args.number) in
    c.numbered.ensures
    ∙ ap (λ (r : RoomedRing). those r.events) here
    ∙ ap (λ rs. those (events_at rs c.args.kind)) c.deref.ensures.value
    ∙ ap those (sym (kind_found c.self.inside.kinds.items c.self.inside.count c.self.inside.first c.args.kind c.self.invariant))
    ∙ both_tests (λ f. kind_of f == c.args.kind) (λ f. first_of f == c.args.number) (all_events c.self.inside.kinds.items)
    ∙ ap (λ l. filter (λ f. (kind_of f == c.args.kind) && (first_of f == c.args.number)) l.events) c.self.view_is

pub returns-in-None : goal.returns-in-None
returns-in-None c =
    let those = filter (λ f. first_of f == c.args.number) in
    ap those (sym (none_of_kind c.deref.result.now c.args.kind c.in-None.ensures.lookup.3))
    ∙ ap (λ rs. those (events_at rs c.args.kind)) c.deref.ensures.value
    ∙ ap those (sym (kind_found c.self.inside.kinds.items c.self.inside.count c.self.inside.first c.args.kind c.self.invariant))
    ∙ both_tests (λ f. kind_of f == c.args.kind) (λ f. first_of f == c.args.number) (all_events c.self.inside.kinds.items)
    ∙ ap (λ l. filter (λ f. (kind_of f == c.args.kind) && (first_of f == c.args.number)) l.events) c.self.view_is
