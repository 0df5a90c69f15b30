use Rattle.std.proofs.Common.{◌≡◌, ◌<◌, length, map, get_or, set, ap, ◌∙◌, sym, arith}
use Rattle.std.proofs.lemmas.Bool.{eqb-true, eqb-false}
use Rattle.std.proofs.lemmas.List.{get_or_default}
use Rattle.std.proofs.lemmas.Result.{on_ok_weaker}
use Rattle.protocol.specs.Meant.{sub_batch, subs_actor}
use Rattle.token_ring.specs.Told.{leading, sub_of_first_pact, with_tid}
use Rattle.token_ring.proofs.Places.{told_in_place, told_inserted, ascends_after}
use Rattle.token_ring.proofs.subs.tell.Goals as goal
use Rattle.token_ring.proofs.subs.tell.Goals.{else-at-len-via-then-at-len+else-eq, else-at-len-via-else-at-len}

pub returns-then-eq-clause-told : goal.returns-then-eq-clause-told
returns-then-eq-clause-told c =
    let xs = c.args.subs.now.items in
    let at = c.place_of-at.result in
    let d = c.index.result.now in
    let low : at < length xs = omega (arith, c.args.subs.now.ok.0) in
    let own = sub_of_first_pact c.args.heading.now.bid.0 c.args.heading.now.epoch c.args.heading.now.lasts.now c.args.actor.0 c.args.tid.0 in
    let place : at ≡ leading c.args.actor.0 (map subs_actor xs) = c.place_of-at.ensures.leading ∙ ap (λ ys. leading c.args.actor.0 (map subs_actor ys)) c.as_slice.ensures.value in
    let same : (get_or xs at d).actor.0 ≡ c.args.actor.0 = ap (λ s. s.actor.0) (sym c.index.ensures) ∙ eqb-true d.actor.0 c.args.actor.0 (sym c.eq.ensures ∙ c.if-eq.true) in
    let old : c.index_mut-sub.result.now ≡ get_or xs at d = c.index_mut-sub.ensures.value ∙ get_or_default xs at c.index_mut-sub.result.now d low in
    on_ok_weaker c.add_tid.result
    (λ is. told_in_place c.args.tid.0 own xs at c.add_tid.new.sub d place low same (is ∙ ap (λ s. with_tid c.args.tid.0 (sub_batch s)) old))
    c.add_tid.ensures

pub returns-then-eq-clause-ascend : goal.returns-then-eq-clause-ascend
returns-then-eq-clause-ascend c =
    on_ok_weaker c.add_tid.result
    (ascends_after c.args.tid.0 (sub_of_first_pact c.args.heading.now.bid.0 c.args.heading.now.epoch c.args.heading.now.lasts.now c.args.actor.0 c.args.tid.0)
    (map sub_batch c.args.subs.now.items) (map sub_batch (set c.args.subs.now.items c.place_of-at.result c.add_tid.new.sub)) c.requires.ascend)
    (returns-then-eq-clause-told c)

pub returns-clause-told : goal.returns-clause-told
returns-clause-told c =
    let xs = c.args.subs.now.items in
    let at = c.place_of-at.result in
    let s = c.in_ok-sub.sub in
    let own = sub_of_first_pact c.args.heading.now.bid.0 c.args.heading.now.epoch c.args.heading.now.lasts.now c.args.actor.0 c.args.tid.0 in
    let place : at ≡ leading c.args.actor.0 (map subs_actor xs) = c.place_of-at.ensures.leading ∙ ap (λ ys. leading c.args.actor.0 (map subs_actor ys)) c.as_slice.ensures.value in
    let other : at < length xs → (get_or xs at s).actor.0 ≡ c.args.actor.0 → ⊥ =
    elim c.else-at-len.branch [
      | else-at-len-via-then-at-len+else-eq w ↦ λ low same.
          eqb-false w.index.result.now.actor.0 c.args.actor.0 (sym w.eq.ensures ∙ w.if-eq.false)
          (ap (λ x. x.actor.0) (w.index.ensures ∙ get_or_default xs at w.index.result.now s low) ∙ same)
      | else-at-len-via-else-at-len w ↦ λ low same. omega (arith, c.args.subs.now.ok.0)
    ] in
    ap (λ ys. map sub_batch ys) c.in_ok-insert.ensures.items
    ∙ told_inserted c.args.tid.0 own xs at s s place other c.in_ok-sub.ensures

pub returns-clause-ascend : goal.returns-clause-ascend
returns-clause-ascend c =
    ascends_after c.args.tid.0 (sub_of_first_pact c.args.heading.now.bid.0 c.args.heading.now.epoch c.args.heading.now.lasts.now c.args.actor.0 c.args.tid.0)
    (map sub_batch c.args.subs.now.items) (map sub_batch c.insert.new.self.items) c.requires.ascend (returns-clause-told c)
