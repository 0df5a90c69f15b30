use Rattle.std.proofs.Common.{◌≡◌, ◌+◌, ◌≤◌, drop}
use Rattle.aml_values.specs.Rows.{behind}
use Rattle.aml_values.proofs.rows.position_behind.Given as goal

abbrev pub invariant-loop-at : goal.invariant-loop-at
invariant-loop-at l = (behind l.depth (drop l.at l.parts) ≡ behind 0 (drop l.fn.from l.fn.parts)) × (l.depth + l.fn.from ≤ l.at)
