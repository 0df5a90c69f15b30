use Rattle.snap_recover.proofs.Replaying.{StatesThrough}
use Rattle.snap_recover.proofs.states.states_after.Given as goal

abbrev pub invariant-loop-i : goal.invariant-loop-i
invariant-loop-i l = StatesThrough l.logs l.i l.first l.states.items
