use Rattle.std.proofs.Common.{map, ap, ◌∙◌}
use Rattle.protocol.specs.Meant.{actor_number}
use Rattle.ready_news.specs.InPost.{arrives_at}
use Rattle.ready_news.proofs.Common.{adds_next, adds_each}
use Rattle.ready_news.proofs.at_hand.AtHand.list_formed.Goals as goal

pub loop-a-preserved : goal.loop-a-preserved
loop-a-preserved c =
    adds_next (arrives_at c.args.k.0) actor_number c.deref-a-items.result.now c.loop-a.a-index _ c.args.news.now.items c.loop-a.news.items c.push_one.new.events.items c.loop-a-test.true c.loop-a.invariant
    c.in_ok-push_one.ensures

pub returns : goal.returns
returns c = adds_each (arrives_at c.args.k.0) actor_number c.deref-a-items.result.now _ c.loop-a.a-index c.args.news.now.items c.loop-a.news.items (ap (map actor_number) c.deref-a-items.ensures.value ∙ c.in_ok-actors.ensures) c.loop-a-test.false c.loop-a.invariant
