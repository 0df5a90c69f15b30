use Rattle.std.proofs.Common.{◌≡◌, ◌+◌, ◌-◌, ◌≤◌, take, eqb}
use Rattle.std.specs.List.{count_by}
use Rattle.work_text.proofs.parse.line_at.Given as goal

abbrev pub invariant-loop-at : goal.invariant-loop-at
invariant-loop-at l = record {
  line : l.line ≡ 1 + count_by (λ b. eqb b 10) (take l.at l.bytes);
  within : l.at ≤ l.place;
  few : l.line ≤ 1 + l.at;
}

abbrev pub decreases-loop-at : goal.decreases-loop-at
decreases-loop-at l = l.place - l.at
