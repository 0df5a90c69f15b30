use Rattle.ready_list.specs.Rings.{NoneAhead}
use Rattle.ready_list.proofs.rings.next_from.Given as goal

abbrev pub invariant-loop-k : goal.invariant-loop-k
invariant-loop-k l = NoneAhead l.kinds l.k
