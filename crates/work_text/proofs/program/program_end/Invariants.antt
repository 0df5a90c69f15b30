use Rattle.std.proofs.Common.{◌≡◌, ◌≢◌, ◌≤◌, ◌++◌, [], List, ℕ, length}
use Rattle.work_text.specs.Lines.{up_to_end, text_of}
use Rattle.work_text.specs.Cursors.{ahead, end_of, IsShort}
use Rattle.work_text.proofs.Ends.{with_fronts}
use Rattle.work_text.proofs.program.program_end.Given as goal

abbrev pub invariant-loop-line : goal.invariant-loop-line
invariant-loop-line l = record {
  same : (front : List (List ℕ)) × (up_to_end (ahead l.cursor) ≡ with_fronts front (up_to_end (ahead l.at))) × (l.at.rest.now ≢ [] → l.cursor.rest.now ≡ text_of front ++ l.at.rest.now);
  end : end_of l.at ≡ end_of l.cursor;
  short : IsShort l.at;
  behind : length l.at.rest.now ≤ length l.cursor.rest.now;
}

abbrev pub decreases-loop-line : goal.decreases-loop-line
decreases-loop-line l = length l.at.rest.now
