use Rattle.std.proofs.Common.{◌≡◌, ◌+◌, [], length, map, drop, get_or, subst, ap, sym, ◌∙◌, arith}
use Rattle.std.proofs.lemmas.List.{get_or_read, with_items_is, length-map}
use Rattle.std.specs.Vec.{with_items, with_item}
use Rattle.protocol.specs.OnRing.{planned, formed, with_lasts}
use Rattle.protocol.specs.Meant.{batch_pact, subs_actor}
use Rattle.token_ring.specs.contracts.ring.Ring.{the_view}
use Rattle.token_ring.proofs.Plans.{form_is}
use Rattle.token_ring.proofs.ring.Ring.form.Goals as goal

pub returns : goal.returns
returns c = λ w p.
    let r = c.self.inside in
    let f = c.f.inside in
    let waiting : c.index_mut-queue.result.now ≡ get_or r.pacts.items r.holder [] = get_or_read r.pacts.items r.holder c.index_mut-queue.result.now c.self.invariant.0 c.index_mut-queue.ensures.value [] in
    let count : c.len-count.result ≡ length c.args.f.now.pacts = omega (arith, c.len-count.ensures, f.txs.ok.0, length-map f.txs.items batch_pact, ap (λ g. length g.pacts) c.f.view_is) in
    let marked : c.mark.new.lasts ≡ with_lasts c.args.f.now.bid c.args.f.now.actors r.lasts.items =
    c.mark.ensures
    ∙ ap (λ xs. with_lasts f.bid.0 (map subs_actor xs) c.deref_mut.result.now) c.as_slice.ensures.value
    ∙ ap (λ xs. with_lasts f.bid.0 (map subs_actor f.subs.items) xs) c.deref_mut.ensures.value
    ∙ ap (λ g. with_lasts g.bid g.actors r.lasts.items) c.f.view_is in
    let lasts : (with_items r.lasts c.mark.new.lasts).items ≡ with_lasts c.args.f.now.bid c.args.f.now.actors r.lasts.items = with_items_is r.lasts c.mark.new.lasts (omega arith) ∙ marked in
    let left : c.leave.new.self ≡ drop c.len-count.result (get_or r.pacts.items r.holder []) = c.leave.ensures ∙ ap (λ q. drop c.len-count.result q) waiting in
    subst (λ ring. the_view (record r {
      next_tid = r.next_tid + c.len-count.result;
      next_bid = r.next_bid + 1;
      lasts = with_items r.lasts c.mark.new.lasts;
      pacts = with_item r.pacts r.holder c.leave.new.self;
    }) ≡ formed c.args.f.now w.batch ring)
    c.self.view_is
    (form_is w (the_view r) c.args.f.now c.len-count.result (with_items r.lasts c.mark.new.lasts).items c.leave.new.self
    (subst (λ ring. c.args.f.now ≡ planned w ring.next_bid ring) (sym c.self.view_is) p) count lasts left)
