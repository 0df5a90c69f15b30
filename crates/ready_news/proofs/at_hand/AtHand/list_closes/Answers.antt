use Rattle.ready_news.specs.InCells.{close_at}
use Rattle.ready_news.proofs.Common.{adds_next, adds_if, desk_there}
use Rattle.ready_news.proofs.at_hand.AtHand.list_closes.Goals as goal

pub desk-desk-requires : goal.desk-desk-requires
desk-desk-requires c = desk_there c.args.self.now.hand.now c.requires

pub loop-declared-preserved : goal.loop-declared-preserved
loop-declared-preserved c =
    adds_next (close_at c.args.t.0 c.args.self.now.hand.now) (λ u. u.0.0) c.uses_of-declared-items.result.now c.loop-declared.declared-index _ c.args.news.now.items c.loop-declared.news.items c.push_if.new.news.items c.loop-declared-test.true c.loop-declared.invariant
    (adds_if _ c.loop-declared.news.items c.push_if.new.news.items _ _ c.owes.ensures c.in_ok-push_if.ensures)
