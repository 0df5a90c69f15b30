use Rattle.std.proofs.Common.{◌≡◌, length, take}
use Rattle.trace_audit.specs.ByTransaction.{IsIndex, has_pact}
use Rattle.trace_audit.proofs.by_tx.batches_by_tx.Given as goal

abbrev pub invariant-loop-at : goal.invariant-loop-at
invariant-loop-at l = record {
  many : length l.places.items ≡ l.txs;
  index : IsIndex has_pact (take l.at l.batches) l.places.items;
}
