use Rattle.std.proofs.Common.{◌≡◌, None, [], ◌∷◌, ◌++◌, length, map, ap, sym, subst, ◌∙◌, append_assoc, append-nil, arith}
use Rattle.std.specs.Vec.Iter.{into_iter_items}
use Rattle.snap_base.proofs.Lists.{nothing_left}
use Rattle.protocol.specs.Parts.{OfBatch}
use Rattle.protocol.specs.Words.{control_of}
use Rattle.post_box.specs.Posting.{control_posted}
use Rattle.core_rows.specs.Begun.{first_message}
use Rattle.core_rows.proofs.Begun.{middle, one_more}
use Rattle.core_rows.proofs.forming.post_firsts.Goals as goal

pub post_first-requires-clause-room : goal.post_first-requires-clause-room
post_first-requires-clause-room g c =
    let steps : into_iter_items c.loop-first.first-iterator ≡ c.in-Some.first ∷ into_iter_items c.next.new.self = c.in-Some.ensures.steps.0 in
    omega (arith, c.loop-first.invariant.room, ap length steps)

pub post_first-requires-clause-fresh : goal.post_first-requires-clause-fresh
post_first-requires-clause-fresh g c =
    let at = c.loop-first in
    let message = first_message (OfBatch c.args.k.0) in
    let steps : into_iter_items at.first-iterator ≡ c.in-Some.first ∷ into_iter_items c.next.new.self = c.in-Some.ensures.steps.0 in
    let whole = sym c.into_iter-first-iterator.ensures.into_iter_gives.0 ∙ (sym at.invariant.shown ∙ ap (λ z. at.yielded ++ z) steps) in
    subst (λ p. control_of c.in-Some.first.tid.0 p.controls ≡ None) (sym at.invariant.posted)
    (c.requires.fresh (map message at.yielded) (map message (into_iter_items c.next.new.self)) (message c.in-Some.first) (middle message _ at.yielded _ c.in-Some.first whole))

pub loop-first-preserved : goal.loop-first-preserved
loop-first-preserved g c =
    let at = c.loop-first in
    let x = c.in-Some.first in
    let message = first_message (OfBatch c.args.k.0) in
    let steps : into_iter_items at.first-iterator ≡ x ∷ into_iter_items c.next.new.self = c.in-Some.ensures.steps.0 in
    record {
      shown = append_assoc at.yielded (x ∷ []) _ ∙ (ap (λ z. at.yielded ++ z) (sym steps) ∙ at.invariant.shown);
      count = omega (arith, at.invariant.count, c.in-Some.ensures.steps.1, ap length steps);
      posted = c.post_first.ensures.messages
          ∙ (ap (control_posted (message x)) at.invariant.posted
          ∙ ap (λ z. record c.args.post.now.messages { controls = z }) (one_more message c.args.post.now.messages.controls at.yielded x));
      room = omega (arith, at.invariant.room, ap length steps, c.post_first.ensures.spare);
    }

pub returns : goal.returns
returns g c =
    let at = c.loop-first in
    let message = first_message (OfBatch c.args.k.0) in
    let empty = nothing_left (into_iter_items at.first-iterator) (sym at.invariant.count ∙ c.in-None.ensures.steps.0) in
    let all = sym (append-nil at.yielded) ∙ (ap (λ z. at.yielded ++ z) (sym empty) ∙ (at.invariant.shown ∙ c.into_iter-first-iterator.ensures.into_iter_gives.0)) in
    at.invariant.posted ∙ ap (λ z. record c.args.post.now.messages { controls = c.args.post.now.messages.controls ++ map message z }) all
