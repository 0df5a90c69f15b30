use Rattle.std.proofs.Common.{◌≡◌, map, take}
use Rattle.protocol.specs.Meant.{batch_pact}
use Rattle.log_set.specs.Told.{tid_of}
use Rattle.core_rows.proofs.forming.tids_drawn.Given as goal

abbrev pub invariant-loop-pact : goal.invariant-loop-pact
invariant-loop-pact l = l.tids.items ≡ map tid_of (map (λ p. p.tid) (map batch_pact (take l.pact-index l.pacts)))
