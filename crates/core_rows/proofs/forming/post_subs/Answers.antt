use Rattle.std.proofs.Common.{◌≡◌, None, [], ◌∷◌, ◌++◌, length, map, ap, sym, subst, ◌∙◌, append_assoc, append-nil, arith}
use Rattle.std.specs.Vec.Iter.{into_iter_items}
use Rattle.snap_base.proofs.Lists.{nothing_left}
use Rattle.protocol.specs.Words.{sub_of}
use Rattle.post_box.specs.Posting.{sub_posted}
use Rattle.protocol.specs.Meant.{sub_batch}
use Rattle.core_rows.proofs.Begun.{middle, one_more}
use Rattle.core_rows.proofs.forming.post_subs.Goals as goal

pub post_sub-requires-clause-room : goal.post_sub-requires-clause-room
post_sub-requires-clause-room g c =
    let steps : into_iter_items c.loop-sub.sub-iterator ≡ c.in-Some.sub ∷ into_iter_items c.next.new.self = c.in-Some.ensures.steps.0 in
    omega (arith, c.loop-sub.invariant.room, ap length steps)

pub post_sub-requires-clause-fresh : goal.post_sub-requires-clause-fresh
post_sub-requires-clause-fresh g c =
    let at = c.loop-sub in
    let steps : into_iter_items at.sub-iterator ≡ c.in-Some.sub ∷ into_iter_items c.next.new.self = c.in-Some.ensures.steps.0 in
    let whole = sym c.into_iter-sub-iterator.ensures.into_iter_gives.0 ∙ (sym at.invariant.shown ∙ ap (λ z. at.yielded ++ z) steps) in
    subst (λ p. sub_of c.in-Some.sub.bid.0 c.in-Some.sub.actor.0 p.subs ≡ None) (sym at.invariant.posted)
    (c.requires.fresh (map sub_batch at.yielded) (map sub_batch (into_iter_items c.next.new.self)) (sub_batch c.in-Some.sub) (middle sub_batch _ at.yielded _ c.in-Some.sub whole))

pub loop-sub-preserved : goal.loop-sub-preserved
loop-sub-preserved g c =
    let at = c.loop-sub in
    let x = c.in-Some.sub in
    let steps : into_iter_items at.sub-iterator ≡ x ∷ into_iter_items c.next.new.self = c.in-Some.ensures.steps.0 in
    record {
      shown = append_assoc at.yielded (x ∷ []) _ ∙ (ap (λ z. at.yielded ++ z) (sym steps) ∙ at.invariant.shown);
      count = omega (arith, at.invariant.count, c.in-Some.ensures.steps.1, ap length steps);
      posted = c.post_sub.ensures.messages
          ∙ (ap (sub_posted (sub_batch x)) at.invariant.posted
          ∙ ap (λ z. record c.args.post.now.messages { subs = z }) (one_more sub_batch c.args.post.now.messages.subs at.yielded x));
      room = omega (arith, at.invariant.room, ap length steps, c.post_sub.ensures.spare);
      other = c.post_sub.ensures.other ∙ at.invariant.other;
    }

pub returns-clause-messages : goal.returns-clause-messages
returns-clause-messages g c =
    let at = c.loop-sub in
    let empty = nothing_left (into_iter_items at.sub-iterator) (sym at.invariant.count ∙ c.in-None.ensures.steps.0) in
    let all = sym (append-nil at.yielded) ∙ (ap (λ z. at.yielded ++ z) (sym empty) ∙ (at.invariant.shown ∙ c.into_iter-sub-iterator.ensures.into_iter_gives.0)) in
    at.invariant.posted ∙ ap (λ z. record c.args.post.now.messages { subs = c.args.post.now.messages.subs ++ map sub_batch z }) all
