use Rattle.std.proofs.Common.{length}
use Rattle.work_text.specs.Lines.{said}
use Rattle.work_text.specs.Cursors.{ahead, IsShort}
use Rattle.work_text.proofs.StateLines.{AreGiven}
use Rattle.work_text.proofs.states.states.Given as goal

abbrev pub invariant-loop-line : goal.invariant-loop-line
invariant-loop-line l = record {
  given : AreGiven l.actors (said (ahead l.cursor)) l.last (said (ahead l.at)) l.states.items;
  short : IsShort l.at;
}

abbrev pub decreases-loop-line : goal.decreases-loop-line
decreases-loop-line l = length l.at.rest.now
