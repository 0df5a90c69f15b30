use Rattle.std.proofs.Common.{◌≡◌, length, take}
use Rattle.trace_audit.specs.ByTransaction.{IsIndex, is_act_for}
use Rattle.trace_audit.proofs.by_tx.acts_by_tx.Given as goal

abbrev pub invariant-loop-at : goal.invariant-loop-at
invariant-loop-at l = record {
  many : length l.places.items ≡ l.txs;
  index : IsIndex is_act_for (take l.at l.acts) l.places.items;
}
