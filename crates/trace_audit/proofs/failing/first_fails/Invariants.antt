use Rattle.std.proofs.Common.{◌≡◌, drop, length, map}
use Rattle.aml_check.specs.Checked.{methods_of}
use Rattle.aml_check.specs.Meaning.{alone}
use Rattle.protocol.specs.Meant.{batch_pact}
use Rattle.trace_audit.specs.Failures.{first_fails}
use Rattle.trace_audit.proofs.failing.first_fails.Given as goal

abbrev pub invariant-loop-pact : goal.invariant-loop-pact
invariant-loop-pact l = record {
  left : first_fails (alone (methods_of l.program)) l.txs l.n.0 l.code l.world.items (map batch_pact (drop l.pact-index l.pacts))
      ≡ first_fails (alone (methods_of l.program)) l.txs l.n.0 l.code l.initial.world.items (map batch_pact l.pacts);
  actors : length l.world.items ≡ length l.initial.world.items;
}
