use Rattle.std.proofs.Common.{◌≡◌, ◌≤◌, ◌-◌, Ok, [], drop, length}
use Rattle.aml_flat.specs.Flat.{operand_tree, row_tree}
use Rattle.aml_check.specs.Meaning.{value_of}
use Rattle.aml_values.specs.Rows.{row_value}
use Rattle.aml_values.proofs.flat.row.Given as goal

abbrev pub invariant-loop-at : goal.invariant-loop-at
invariant-loop-at l = (row_value l.own l.variables l.state (Ok l.so_far) [] (drop l.at l.parts) ≡ value_of l.own l.variables l.state (row_tree (operand_tree l.fn.first) [] l.fn.parts)) × (l.at ≤ length l.parts)

abbrev pub decreases-loop-at : goal.decreases-loop-at
decreases-loop-at l = length l.parts - l.at
