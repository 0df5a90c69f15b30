use Rattle.std.proofs.Common.{◌≡◌, [], map, take, get_or, subst, ap, sym, ◌∙◌}
use Rattle.std.proofs.lemmas.List.{get_or_read}
use Rattle.protocol.specs.OnRing.{numbered, planned}
use Rattle.protocol.specs.Meant.{batch_pact, sub_batch, subs_actor}
use Rattle.token_ring.specs.Told.{told_all}
use Rattle.token_ring.specs.contracts.ring.Ring.{the_view}
use Rattle.token_ring.proofs.Plans.{plan_is}
use Rattle.token_ring.proofs.ring.Ring.plan.Goals as goal

pub returns-clause-ok : goal.returns-clause-ok
returns-clause-ok c = λ w txs most.
    let r = c.self.inside in
    let pacts = c.in_ok-pacts.pacts.items in
    let subs = c.in_ok-subs.subs.items in
    let waiting : c.index-queue.result.now ≡ get_or r.pacts.items r.holder [] = get_or_read r.pacts.items r.holder c.index-queue.result.now c.self.invariant.0 c.index-queue.ensures [] in
    let drawn : map batch_pact pacts ≡ numbered r.next_tid (take w.batch (get_or r.pacts.items r.holder [])) =
    c.in_ok-pacts.ensures
    ∙ ap (λ q. numbered r.next_tid (take c.args.most q)) waiting
    ∙ ap (λ m. numbered r.next_tid (take m (get_or r.pacts.items r.holder []))) (sym most) in
    let told : map sub_batch subs ≡ told_all r.next_bid r.epoch r.lasts.items w.txs (map batch_pact pacts) [] =
    c.in_ok-subs.ensures
    ∙ ap (λ xs. told_all r.next_bid r.epoch xs c.args.txs.now (map batch_pact c.as_slice-2.result.now) []) c.as_slice.ensures.value
    ∙ ap (λ ps. told_all r.next_bid r.epoch r.lasts.items c.args.txs.now (map batch_pact ps) []) c.as_slice-2.ensures.value
    ∙ ap (λ ts. told_all r.next_bid r.epoch r.lasts.items ts (map batch_pact pacts) []) (sym txs) in
    subst (λ ring. record { bid = r.next_bid; actors = map subs_actor subs; pacts = map batch_pact pacts; subs = map sub_batch subs } ≡ planned w ring.next_bid ring)
    c.self.view_is (plan_is w (the_view r) pacts subs drawn told)
