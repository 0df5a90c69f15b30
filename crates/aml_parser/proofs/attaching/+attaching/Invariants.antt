use Rattle.std.proofs.Common.{◌+◌, ◌*◌}
use Rattle.aml_parser.proofs.Chaining.{weight, weights}
use Rattle.aml_parser.proofs.attaching.+attaching.Given as goal

abbrev pub decreases-attach : goal.decreases-attach
decreases-attach l = 3 * weight l.expression

abbrev pub decreases-attach_chain : goal.decreases-attach_chain
decreases-attach_chain l = 3 * (weight l.first.value + weights l.rest.items) + 2

abbrev pub decreases-attach_last : goal.decreases-attach_last
decreases-attach_last l = 3 * (weight l.first.value + (weights l.rest.items + weight l.last.operand + 1)) + 1
