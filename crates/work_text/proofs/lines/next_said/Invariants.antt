use Rattle.std.proofs.Common.{◌≡◌, ◌≤◌, length}
use Rattle.work_text.specs.Lines.{next}
use Rattle.work_text.specs.Cursors.{ahead, end_of, IsShort}
use Rattle.work_text.proofs.lines.next_said.Given as goal

abbrev pub invariant-loop-line : goal.invariant-loop-line
invariant-loop-line l = record {
  same : next (ahead l.at) ≡ next (ahead l.cursor);
  end : end_of l.at ≡ end_of l.cursor;
  short : IsShort l.at;
  behind : length l.at.rest.now ≤ length l.cursor.rest.now;
}

abbrev pub decreases-loop-line : goal.decreases-loop-line
decreases-loop-line l = length l.at.rest.now
