use Rattle.std.specs.List.{flat_map}
use Rattle.std.specs.Prelude.{◌≤◌, ◌-◌, max}
use Rattle.ready_listing.specs.Listed.{Adds}
use Rattle.protocol.specs.Numbers.{from}
use Rattle.ready_news.specs.InAnswers.{of_txs}
use Rattle.ready_news.proofs.at_hand.AtHand.list_later.Given as goal

abbrev pub invariant-loop-k : goal.invariant-loop-k
invariant-loop-k l = record {
  above : l.fn.first.0 ≤ l.k;
  within : l.k ≤ max l.fn.first.0 l.k-end;
  listed : Adds l.fn.news.items l.news.items (flat_map (of_txs l.self.desk.now) (from l.fn.first.0 (l.k - l.fn.first.0)));
}
