use Rattle.std.proofs.Common.{◌≤◌, length}
use Rattle.aml_check.specs.Checked.{methods_of}
use Rattle.work_text.specs.Lines.{said}
use Rattle.work_text.specs.Cursors.{ahead, IsShort}
use Rattle.work_text.proofs.AskedLines.{AreAsked}
use Rattle.work_text.proofs.reading.transactions.Given as goal

abbrev pub invariant-loop-line : goal.invariant-loop-line
invariant-loop-line l = record {
  are : AreAsked (methods_of l.program) l.actors (said (ahead l.cursor)) (said (ahead l.at)) l.txs.items;
  short : IsShort l.at;
  few : length l.txs.items ≤ 20000;
}

abbrev pub decreases-loop-line : goal.decreases-loop-line
decreases-loop-line l = length l.at.rest.now
