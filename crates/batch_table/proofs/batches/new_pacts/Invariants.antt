use Rattle.std.proofs.Common.{◌≡◌, map, take}
use Rattle.protocol.specs.Meant.{batch_pact}
use Rattle.batch_table.proofs.batches.new_pacts.Given as goal

abbrev pub invariant-loop-pair : goal.invariant-loop-pair
invariant-loop-pair l = l.pacts.items ≡ map batch_pact (take l.pair-index l.txs)
