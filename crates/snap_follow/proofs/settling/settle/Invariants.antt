use Rattle.snap_follow.specs.Passes.{Settles, size}
use Rattle.snap_follow.proofs.settling.settle.Given as goal

abbrev pub invariant-pass : goal.invariant-pass
invariant-pass l = Settles l.first l.there l.taken l.now l.fn.set l.set

-- somebody is left out each time
abbrev pub decreases-pass : goal.decreases-pass
decreases-pass l = size l.set
