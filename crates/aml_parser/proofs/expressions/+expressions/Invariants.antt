use Rattle.std.proofs.Common.{◌+◌, ◌*◌, ◌-◌, ◌<◌, length}
use Rattle.aml_tokens.specs.Token.{tokens_of}
use Rattle.aml_tree.specs.Tree.{expression_tree}
use Rattle.aml_parser.specs.Reading.{Chains}
use Rattle.aml_parser.proofs.expressions.+expressions.Given as goal

abbrev pub decreases-expression : goal.decreases-expression
decreases-expression l = 8 * (32 - l.depth) + 5

abbrev pub decreases-chain : goal.decreases-chain
decreases-chain l = 8 * (32 - l.depth) + 4

abbrev pub decreases-operand : goal.decreases-operand
decreases-operand l = 8 * (32 - l.depth) + 3

abbrev pub decreases-primary : goal.decreases-primary
decreases-primary l = 8 * (32 - l.depth) + 2

abbrev pub decreases-primary_by : goal.decreases-primary_by
decreases-primary_by l = 8 * (32 - l.depth) + 1

abbrev pub decreases-group_at : goal.decreases-group_at
decreases-group_at l = 8 * (32 - l.depth) + 0

abbrev pub invariant-chain-loop-operator : goal.invariant-chain-loop-operator
invariant-chain-loop-operator l = record { chain : Chains (tokens_of l.tokens) l.depth l.at (expression_tree l.expression) l.compared l.end; onward : l.at < l.end }

abbrev pub decreases-chain-loop-operator : goal.decreases-chain-loop-operator
decreases-chain-loop-operator l = length l.tokens - l.end
