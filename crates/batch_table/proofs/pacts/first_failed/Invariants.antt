use Rattle.std.proofs.Common.{◌≡◌, drop}
use Rattle.protocol.specs.Words as words
use Rattle.batch_table.proofs.pacts.first_failed.Given as goal

abbrev pub invariant-loop-pact : goal.invariant-loop-pact
invariant-loop-pact l = words.first_failed (drop l.pact-index l.pacts) ≡ words.first_failed l.pacts
