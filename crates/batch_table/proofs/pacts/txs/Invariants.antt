use Rattle.std.proofs.Common.{◌≡◌, map, take}
use Rattle.snap_base.specs.declared.ids.TxNo.{TxNo}
use Rattle.batch_table.proofs.pacts.txs.Given as goal

abbrev pub invariant-loop-pact : goal.invariant-loop-pact
invariant-loop-pact l = map (λ (n : TxNo). n.0) l.txs.items ≡ map (λ p. p.tx) (take l.pact-index l.pacts)
