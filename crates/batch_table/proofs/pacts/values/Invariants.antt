use Rattle.std.proofs.Common.{◌≡◌, map, take}
use Rattle.protocol.specs.Words.{value_of}
use Rattle.batch_table.proofs.pacts.values.Given as goal

abbrev pub invariant-loop-pact : goal.invariant-loop-pact
invariant-loop-pact l = l.values ≡ map (λ p. value_of p.result) (take l.pact-index l.pacts)
