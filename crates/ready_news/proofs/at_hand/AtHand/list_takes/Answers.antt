use Rattle.std.proofs.Common.{map, ap, subst, ◌∙◌, OnOk}
use Rattle.ready_listing.specs.Listed.{Adds}
use Rattle.protocol.specs.Meant.{tid_number}
use Rattle.ready_news.specs.InPost.{takes_at, takes_by}
use Rattle.ready_news.proofs.Common.{adds_next, adds_each, adds_if, at_none, at_some}
use Rattle.ready_news.proofs.at_hand.AtHand.list_takes.Goals as goal

pub returns-in_default : goal.returns-in_default
returns-in_default c =
    subst (λ o. OnOk c.list_comings.result (Adds c.args.news.now.items c.list_comings.new.news.items (takes_by c.args.k.0 c.args.a.0 o c.args.self.now.post.now.messages))) (at_none (λ x. x.now.cell) _ _ c.cell.ensures c.in_default.not-Some) c.list_comings.ensures

pub loop-t-preserved : goal.loop-t-preserved
loop-t-preserved c =
    adds_next (takes_at c.args.a.0 c.args.self.now.post.now.messages) tid_number c.deref-t-items.result.now c.loop-t.t-index _ c.args.news.now.items c.loop-t.news.items c.push_if.new.news.items c.loop-t-test.true c.loop-t.invariant
    (adds_if _ c.loop-t.news.items c.push_if.new.news.items _ _ c.goes_to.ensures c.in_ok-push_if.ensures)

pub returns : goal.returns
returns c =
    subst (λ o. Adds c.args.news.now.items c.loop-t.news.items (takes_by c.args.k.0 c.args.a.0 o c.args.self.now.post.now.messages)) (at_some (λ y. y.now.cell) _ _ _ c.cell.ensures c.in-Some.is)
    (adds_each (takes_at c.args.a.0 c.args.self.now.post.now.messages) tid_number c.deref-t-items.result.now _ c.loop-t.t-index c.args.news.now.items c.loop-t.news.items (ap (map tid_number) c.deref-t-items.ensures.value ∙ c.in_ok-undone.ensures) c.loop-t-test.false c.loop-t.invariant)
