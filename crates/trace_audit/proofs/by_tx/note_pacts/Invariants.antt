use Rattle.std.proofs.Common.{◌≡◌, map, drop}
use Rattle.protocol.specs.Meant.{batch_pact}
use Rattle.trace_audit.specs.ByTransaction.{all_noted}
use Rattle.trace_audit.proofs.by_tx.note_pacts.Given as goal

abbrev pub invariant-loop-pact : goal.invariant-loop-pact
invariant-loop-pact l = all_noted l.at (map batch_pact (drop l.pact-index l.pacts)) l.places.items ≡ all_noted l.at (map batch_pact l.pacts) l.initial.places.items
