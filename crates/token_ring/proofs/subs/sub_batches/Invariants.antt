use Rattle.std.proofs.Common.{◌≡◌, [], map, drop}
use Rattle.protocol.specs.Meant.{sub_batch, batch_pact}
use Rattle.token_ring.specs.Told.{told_all, ActorsAscend}
use Rattle.token_ring.proofs.subs.sub_batches.Given as goal

abbrev pub invariant-loop-pact : goal.invariant-loop-pact
invariant-loop-pact l = record {
  told : told_all l.heading.bid.0 l.heading.epoch l.heading.lasts.now l.txs (map batch_pact (drop l.pact-index l.pacts)) (map sub_batch l.subs.items)
      ≡ told_all l.heading.bid.0 l.heading.epoch l.heading.lasts.now l.txs (map batch_pact l.pacts) [];
  ascend : ActorsAscend 0 (map sub_batch l.subs.items);
}
