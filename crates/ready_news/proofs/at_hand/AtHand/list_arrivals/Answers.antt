use Rattle.std.proofs.Common.{map, ap, ◌∙◌}
use Rattle.listing_facts.specs.post_box.Listed.{sub_listed}
use Rattle.ready_news.specs.InPost.{of_arrival}
use Rattle.ready_news.proofs.Common.{adds_next, adds_each}
use Rattle.ready_news.proofs.at_hand.AtHand.list_arrivals.Goals as goal

pub loop-p-preserved : goal.loop-p-preserved
loop-p-preserved c =
    adds_next of_arrival sub_listed c.deref-p-items.result.now c.loop-p.p-index _ c.args.news.now.items c.loop-p.news.items c.push_one.new.events.items c.loop-p-test.true c.loop-p.invariant
    c.in_ok-push_one.ensures

pub returns : goal.returns
returns c = adds_each of_arrival sub_listed c.deref-p-items.result.now _ c.loop-p.p-index c.args.news.now.items c.loop-p.news.items (ap (map sub_listed) c.deref-p-items.ensures.value ∙ c.in_ok-subs.ensures) c.loop-p-test.false c.loop-p.invariant
