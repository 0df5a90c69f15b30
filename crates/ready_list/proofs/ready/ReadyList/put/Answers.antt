use Rattle.std.proofs.Common.{◌≡◌, ◌+◌, ◌≤◌, ℕ, arith, ap, subst, sym, refl, ◌∙◌}
use Rattle.std.proofs.lemmas.List.{with_items_is}
use Rattle.std.specs.Vec.{with_items}
use Rattle.core_events.specs.Meant.{event_meant}
use Rattle.protocol_ready.specs.Ready.{put}
use Rattle.ready_list.specs.Order.{RoomedList, kind_of, spare_of}
use Rattle.ready_list.specs.Rings.{AreByKind, all_events, spare_at, spares}
use Rattle.ready_list.proofs.AmongRings.{keeps_put, list_put, spare_changed}
use Rattle.ready_list.proofs.Roomed.{list_room, room_there, some_in_list}
use Rattle.ready_list.proofs.ready.ReadyList.put.Goals as goal

pub invariant_of-self : goal.invariant_of-self
invariant_of-self c =
    let r = c.self.inside in
    let spare : 1 ≤ spare_at c.deref_mut.result.now c.kind_of-kind.result =
    subst (λ rs. 1 ≤ spare_at rs c.kind_of-kind.result) (sym c.deref_mut.ensures.value)
    (some_in_list r.kinds.items r.count c.kind_of-kind.result (subst (λ k. 1 ≤ spare_of (record { events = all_events r.kinds.items; spare = spares r.kinds.items r.count }) k) (sym c.kind_of-kind.ensures.value) (subst (λ l. 1 ≤ spare_of l (kind_of (event_meant c.args.e))) (sym c.self.view_is) c.requires))).0 in
    let was : AreByKind c.deref_mut.result.now c.self.inside.count c.self.inside.first = subst (λ rs. AreByKind rs c.self.inside.count c.self.inside.first) (sym c.deref_mut.ensures.value) c.self.invariant in
    let is : (with_items r.kinds c.put_in.new.kinds).items ≡ c.put_in.new.kinds = with_items_is r.kinds c.put_in.new.kinds (omega (arith, c.put_in.ensures.others.many, c.deref_mut.ensures.len)) in
    subst (λ rs. AreByKind rs (r.count + c.put_in.result) c.min-self-inside.result) (sym is)
    (keeps_put c.deref_mut.result.now c.put_in.new.kinds r.count r.first c.kind_of-kind.result (event_meant c.args.e) c.put_in.result (r.count + c.put_in.result) c.min-self-inside.result was (sym c.kind_of-kind.ensures.value) (room_there c.deref_mut.result.now c.kind_of-kind.result spare) c.put_in.ensures.others c.put_in.ensures.events c.put_in.ensures.counted refl (omega (arith, c.min-self-inside.ensures)) (omega (arith, c.min-self-inside.ensures)))

pub returns-clause-events : goal.returns-clause-events
returns-clause-events c =
    let r = c.self.inside in
    let spare : 1 ≤ spare_at c.deref_mut.result.now c.kind_of-kind.result =
    subst (λ rs. 1 ≤ spare_at rs c.kind_of-kind.result) (sym c.deref_mut.ensures.value)
    (some_in_list r.kinds.items r.count c.kind_of-kind.result (subst (λ k. 1 ≤ spare_of (record { events = all_events r.kinds.items; spare = spares r.kinds.items r.count }) k) (sym c.kind_of-kind.ensures.value) (subst (λ l. 1 ≤ spare_of l (kind_of (event_meant c.args.e))) (sym c.self.view_is) c.requires))).0 in
    let was : AreByKind c.deref_mut.result.now c.self.inside.count c.self.inside.first = subst (λ rs. AreByKind rs c.self.inside.count c.self.inside.first) (sym c.deref_mut.ensures.value) c.self.invariant in
    let is : (with_items r.kinds c.put_in.new.kinds).items ≡ c.put_in.new.kinds = with_items_is r.kinds c.put_in.new.kinds (omega (arith, c.put_in.ensures.others.many, c.deref_mut.ensures.len)) in
    ap all_events is
    ∙ list_put c.deref_mut.result.now c.put_in.new.kinds r.count r.first c.kind_of-kind.result (event_meant c.args.e) was (sym c.kind_of-kind.ensures.value) (room_there c.deref_mut.result.now c.kind_of-kind.result spare) c.put_in.ensures.others c.put_in.ensures.events
    ∙ ap (λ rs. put (event_meant c.args.e) (all_events rs)) c.deref_mut.ensures.value
    ∙ ap (λ (l : RoomedList). put (event_meant c.args.e) l.events) c.self.view_is

pub returns-clause-room : goal.returns-clause-room
returns-clause-room c = λ k.
    let r = c.self.inside in
    let is : (with_items r.kinds c.put_in.new.kinds).items ≡ c.put_in.new.kinds = with_items_is r.kinds c.put_in.new.kinds (omega (arith, c.put_in.ensures.others.many, c.deref_mut.ensures.len)) in
    subst (λ l. spare_of l k ≤ spare_of (record { events = all_events (with_items r.kinds c.put_in.new.kinds).items; spare = spares (with_items r.kinds c.put_in.new.kinds).items (r.count + c.put_in.result) }) k + 1) c.self.view_is
    (list_room r.kinds.items (with_items r.kinds c.put_in.new.kinds).items r.count (r.count + c.put_in.result) 1
    (subst (λ rs. (j : ℕ) → spare_at rs j ≤ spare_at (with_items r.kinds c.put_in.new.kinds).items j + 1) c.deref_mut.ensures.value
    (subst (λ rs. (j : ℕ) → spare_at c.deref_mut.result.now j ≤ spare_at rs j + 1) (sym is)
    (spare_changed c.deref_mut.result.now c.put_in.new.kinds c.kind_of-kind.result 1 c.put_in.ensures.others c.put_in.ensures.room)))
    (omega (arith, c.put_in.ensures.few)) k)
