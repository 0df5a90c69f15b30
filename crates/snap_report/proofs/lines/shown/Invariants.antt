use Rattle.std.proofs.Common.{◌≡◌, ◌≤◌, take}
use Rattle.snap_report.specs.Lines.{shown_fields}
use Rattle.snap_report.proofs.lines.shown.Given as goal

abbrev pub invariant-loop-at : goal.invariant-loop-at
invariant-loop-at l = record {
  within : l.count ≤ l.at;
  shown : take l.count l.fields ≡ shown_fields (take l.at l.fields);
}
