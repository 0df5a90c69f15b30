use Rattle.std.specs.List.{flat_map}
use Rattle.std.proofs.Common.{◌≡◌, ◌-◌, arith, subst}
use Rattle.ready_listing.specs.Listed.{Adds}
use Rattle.protocol.specs.Numbers.{from}
use Rattle.ready_news.specs.InAnswers.{of_later, of_txs}
use Rattle.ready_news.proofs.Common.{adds_number}
use Rattle.ready_news.proofs.at_hand.AtHand.list_later.Goals as goal

pub loop-k-preserved : goal.loop-k-preserved
loop-k-preserved c = record {
  above = omega (arith, c.loop-k.invariant.above);
  within = omega (arith, c.loop-k-test.true);
  listed = adds_number (of_txs c.args.self.now.desk.now) c.args.first.0 c.loop-k.k c.args.news.now.items c.loop-k.news.items c.list_txs.new.news.items c.loop-k.invariant.above c.loop-k.invariant.listed c.in_ok-list_txs.ensures;
}

pub returns : goal.returns
returns c =
    let f = c.args.first.0 in
    let same : c.loop-k.k - f ≡ c.next_bid-next.result.0 - f = omega (arith, c.loop-k.invariant.above, c.loop-k.invariant.within, c.loop-k-test.false) in
    subst (λ n. Adds c.args.news.now.items c.loop-k.news.items (of_later f n c.args.self.now.desk.now)) c.next_bid-next.ensures
    (subst (λ m. Adds c.args.news.now.items c.loop-k.news.items (flat_map (of_txs c.args.self.now.desk.now) (from f m))) same c.loop-k.invariant.listed)
