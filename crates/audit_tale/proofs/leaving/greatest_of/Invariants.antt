use Rattle.std.proofs.Common.{◌≡◌, drop, map, max}
use Rattle.protocol.specs.Words.{greatest}
use Rattle.audit_tale.specs.Knows.{bid_number}
use Rattle.audit_tale.proofs.leaving.greatest_of.Given as goal

abbrev pub invariant-loop-k : goal.invariant-loop-k
invariant-loop-k l = max l.most (greatest (map bid_number (drop l.k-index l.kept))) ≡ greatest (map bid_number l.kept)
