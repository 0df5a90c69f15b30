use Rattle.std.proofs.Common.{map, ap, ◌∙◌}
use Rattle.protocol.specs.Meant.{tid_number}
use Rattle.ready_news.specs.InBook.{deciding_of}
use Rattle.ready_news.proofs.Common.{adds_next, adds_each}
use Rattle.ready_news.proofs.at_hand.AtHand.list_decisions.Goals as goal

pub loop-t-preserved : goal.loop-t-preserved
loop-t-preserved c b s =
    adds_next (deciding_of b) tid_number c.deref-t-items.result.now c.loop-t.t-index _ c.args.news.now.items c.loop-t.news.items c.list_deciding.new.news.items c.loop-t-test.true (c.loop-t.invariant b s)
    (c.in_ok-list_deciding.ensures b s)

pub returns : goal.returns
returns c b s = adds_each (deciding_of b) tid_number c.deref-t-items.result.now _ c.loop-t.t-index c.args.news.now.items c.loop-t.news.items (ap (map tid_number) c.deref-t-items.ensures.value ∙ c.in_ok-tids.ensures b s) c.loop-t-test.false (c.loop-t.invariant b s)
