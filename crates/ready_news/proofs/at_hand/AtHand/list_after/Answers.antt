use Rattle.std.proofs.Common.{map, ap, ◌∙◌}
use Rattle.listing_facts.specs.post_box.Listed.{sub_listed}
use Rattle.ready_news.specs.InPost.{of_follower}
use Rattle.ready_news.proofs.Common.{adds_next, adds_each, adds_if}
use Rattle.ready_news.proofs.at_hand.AtHand.list_after.Goals as goal

pub loop-p-preserved : goal.loop-p-preserved
loop-p-preserved c =
    adds_next (of_follower c.args.k.0 c.args.self.now.post.now.messages) sub_listed c.deref-p-items.result.now c.loop-p.p-index _ c.args.news.now.items c.loop-p.news.items c.push_if.new.news.items c.loop-p-test.true c.loop-p.invariant
    (adds_if _ c.loop-p.news.items c.push_if.new.news.items _ _ c.is_behind.ensures c.in_ok-push_if.ensures)

pub returns : goal.returns
returns c = adds_each (of_follower c.args.k.0 c.args.self.now.post.now.messages) sub_listed c.deref-p-items.result.now _ c.loop-p.p-index c.args.news.now.items c.loop-p.news.items (ap (map sub_listed) c.deref-p-items.ensures.value ∙ c.in_ok-subs.ensures) c.loop-p-test.false c.loop-p.invariant
