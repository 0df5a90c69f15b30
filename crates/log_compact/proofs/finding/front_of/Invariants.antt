use Rattle.log_compact.proofs.ReadFronts.{IsReadSoFar}
use Rattle.log_compact.proofs.finding.front_of.Given as goal

abbrev pub invariant-loop-item : goal.invariant-loop-item
invariant-loop-item l = IsReadSoFar l.items l.item-index l.front
