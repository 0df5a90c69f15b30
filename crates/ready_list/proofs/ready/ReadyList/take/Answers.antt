use Rattle.std.proofs.Common.{◌≡◌, ◌+◌, ◌-◌, ◌≤◌, ℕ, arith, rules, ap, subst, sym, ◌∙◌}
use Rattle.std.proofs.lemmas.List.{with_items_is}
use Rattle.std.specs.Vec.{with_items}
use Rattle.core_events.specs.Meant.{event_meant}
use Rattle.protocol_ready.specs.Ready.{without}
use Rattle.ready_list.specs.Order.{RoomedList, spare_of}
use Rattle.ready_list.specs.Rings.{AreByKind, NoneAhead, all_events, spare_at, spares}
use Rattle.ready_list.proofs.AmongRings.{fewer_taken, from_next, keeps_taken, list_taken, none_taken, spare_changed}
use Rattle.ready_list.proofs.Roomed.{list_room}
use Rattle.ready_list.proofs.ready.ReadyList.take.Goals as goal

pub overflow_sub-self : goal.overflow_sub-self
overflow_sub-self c =
    let was : AreByKind c.deref_mut.result.now c.self.inside.count c.self.inside.first = subst (λ rs. AreByKind rs c.self.inside.count c.self.inside.first) (sym c.deref_mut.ensures.value) c.self.invariant in
    fewer_taken c.deref_mut.result.now c.take_out.new.kinds c.self.inside.count c.self.inside.first c.kind_of-kind.result c.take_out.result was (search rules) c.take_out.ensures.others c.take_out.ensures.counted

pub next_from-self-inside-requires : goal.next_from-self-inside-requires
next_from-self-inside-requires c =
    let r = c.self.inside in
    let was : AreByKind c.deref_mut.result.now c.self.inside.count c.self.inside.first = subst (λ rs. AreByKind rs c.self.inside.count c.self.inside.first) (sym c.deref_mut.ensures.value) c.self.invariant in
    let is : (with_items r.kinds c.take_out.new.kinds).items ≡ c.take_out.new.kinds = with_items_is r.kinds c.take_out.new.kinds (omega (arith, c.take_out.ensures.others.many, c.deref_mut.ensures.len)) in
    let fewer = fewer_taken c.deref_mut.result.now c.take_out.new.kinds r.count r.first c.kind_of-kind.result c.take_out.result was (search rules) c.take_out.ensures.others c.take_out.ensures.counted in
    let kept : AreByKind c.take_out.new.kinds (r.count - c.take_out.result) r.first =
    keeps_taken c.deref_mut.result.now c.take_out.new.kinds r.count r.first c.kind_of-kind.result (event_meant c.args.e) c.take_out.result (r.count - c.take_out.result) was (search rules) c.take_out.ensures.others c.take_out.ensures.events c.take_out.ensures.counted (omega (arith, fewer)) in
    subst (λ rs. NoneAhead rs r.first) (sym (c.as_slice.ensures.value ∙ is)) kept.ahead

pub invariant_of-self : goal.invariant_of-self
invariant_of-self c =
    let r = c.self.inside in
    let was : AreByKind c.deref_mut.result.now c.self.inside.count c.self.inside.first = subst (λ rs. AreByKind rs c.self.inside.count c.self.inside.first) (sym c.deref_mut.ensures.value) c.self.invariant in
    let is : (with_items r.kinds c.take_out.new.kinds).items ≡ c.take_out.new.kinds = with_items_is r.kinds c.take_out.new.kinds (omega (arith, c.take_out.ensures.others.many, c.deref_mut.ensures.len)) in
    let fewer = fewer_taken c.deref_mut.result.now c.take_out.new.kinds r.count r.first c.kind_of-kind.result c.take_out.result was (search rules) c.take_out.ensures.others c.take_out.ensures.counted in
    let kept : AreByKind c.take_out.new.kinds (r.count - c.take_out.result) r.first =
    keeps_taken c.deref_mut.result.now c.take_out.new.kinds r.count r.first c.kind_of-kind.result (event_meant c.args.e) c.take_out.result (r.count - c.take_out.result) was (search rules) c.take_out.ensures.others c.take_out.ensures.events c.take_out.ensures.counted (omega (arith, fewer)) in
    from_next (with_items r.kinds c.take_out.new.kinds).items (r.count - c.take_out.result) r.first c.next_from-self-inside.result
    (subst (λ rs. AreByKind rs (r.count - c.take_out.result) r.first) (sym is) kept)
    (subst (λ rs. NoneAhead rs c.next_from-self-inside.result) c.as_slice.ensures.value c.next_from-self-inside.ensures)

pub returns-then-kind-len-clause-events : goal.returns-then-kind-len-clause-events
returns-then-kind-len-clause-events c =
    let r = c.self.inside in
    let was : AreByKind c.deref_mut.result.now c.self.inside.count c.self.inside.first = subst (λ rs. AreByKind rs c.self.inside.count c.self.inside.first) (sym c.deref_mut.ensures.value) c.self.invariant in
    let is : (with_items r.kinds c.take_out.new.kinds).items ≡ c.take_out.new.kinds = with_items_is r.kinds c.take_out.new.kinds (omega (arith, c.take_out.ensures.others.many, c.deref_mut.ensures.len)) in
    ap all_events is
    ∙ list_taken c.deref_mut.result.now c.take_out.new.kinds r.count r.first c.kind_of-kind.result (event_meant c.args.e) was (sym c.kind_of-kind.ensures.value) (search rules) c.take_out.ensures.others c.take_out.ensures.events
    ∙ ap (λ rs. without (event_meant c.args.e) (all_events rs)) c.deref_mut.ensures.value
    ∙ ap (λ (l : RoomedList). without (event_meant c.args.e) l.events) c.self.view_is

pub returns-then-kind-len-clause-no_less : goal.returns-then-kind-len-clause-no_less
returns-then-kind-len-clause-no_less c = λ k.
    let r = c.self.inside in
    let is : (with_items r.kinds c.take_out.new.kinds).items ≡ c.take_out.new.kinds = with_items_is r.kinds c.take_out.new.kinds (omega (arith, c.take_out.ensures.others.many, c.deref_mut.ensures.len)) in
    let changed = spare_changed c.deref_mut.result.now c.take_out.new.kinds c.kind_of-kind.result 0 c.take_out.ensures.others (omega (arith, c.take_out.ensures.no_less)) in
    let more = list_room r.kinds.items (with_items r.kinds c.take_out.new.kinds).items r.count (r.count - c.take_out.result) 0
    (subst (λ rs. (j : ℕ) → spare_at rs j ≤ spare_at (with_items r.kinds c.take_out.new.kinds).items j + 0) c.deref_mut.ensures.value
    (subst (λ rs. (j : ℕ) → spare_at c.deref_mut.result.now j ≤ spare_at rs j + 0) (sym is) changed))
    (omega arith) k in
    subst (λ l. spare_of l k ≤ spare_of (record { events = all_events (with_items r.kinds c.take_out.new.kinds).items; spare = spares (with_items r.kinds c.take_out.new.kinds).items (r.count - c.take_out.result) }) k) c.self.view_is (omega (arith, more))

pub returns-else-kind-len-clause-events : goal.returns-else-kind-len-clause-events
returns-else-kind-len-clause-events c =
    let r = c.self.inside in
    sym (ap (λ (l : RoomedList). l.events) c.self.view_is)
    ∙ none_taken r.kinds.items r.count r.first c.kind_of-kind.result (event_meant c.args.e) c.self.invariant (sym c.kind_of-kind.ensures.value) (search rules)
    ∙ ap (λ (l : RoomedList). without (event_meant c.args.e) l.events) c.self.view_is
