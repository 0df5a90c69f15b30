use Rattle.std.proofs.Common.{map, ap, ◌∙◌}
use Rattle.listing_facts.specs.post_box.Listed.{control_listed}
use Rattle.ready_news.specs.InPost.{of_coming}
use Rattle.ready_news.proofs.Common.{adds_next, adds_each}
use Rattle.ready_news.proofs.at_hand.AtHand.list_comings.Goals as goal

pub loop-p-preserved : goal.loop-p-preserved
loop-p-preserved c =
    adds_next of_coming control_listed c.deref-p-items.result.now c.loop-p.p-index _ c.args.news.now.items c.loop-p.news.items c.push_two.new.events.items c.loop-p-test.true c.loop-p.invariant
    c.in_ok-push_two.ensures

pub returns : goal.returns
returns c = adds_each of_coming control_listed c.deref-p-items.result.now _ c.loop-p.p-index c.args.news.now.items c.loop-p.news.items (ap (map control_listed) c.deref-p-items.ensures.value ∙ c.in_ok-controls.ensures) c.loop-p-test.false c.loop-p.invariant
