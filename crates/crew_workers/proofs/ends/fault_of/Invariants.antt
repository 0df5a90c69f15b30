use Rattle.crew_workers.specs.Ends.{AllOpen}
use Rattle.crew_workers.proofs.ends.fault_of.Given as goal

abbrev pub invariant-loop-l : goal.invariant-loop-l
invariant-loop-l g l = AllOpen l.l l.shares
