use Rattle.std.proofs.Common.{◌+◌, ◌*◌, ◌-◌, ◌≤◌, length}
use Rattle.aml_tokens.specs.Token.{tokens_of}
use Rattle.aml_tree.specs.Tree.{statements_tree}
use Rattle.aml_parser.specs.Reading.{TakesPart}
use Rattle.aml_parser.proofs.statements.+statements.Given as goal

abbrev pub decreases-block : goal.decreases-block
decreases-block l = 8 * (32 - l.depth) + 3

abbrev pub decreases-statement : goal.decreases-statement
decreases-statement l = 8 * (32 - l.depth) + 2

abbrev pub decreases-by_keyword : goal.decreases-by_keyword
decreases-by_keyword l = 8 * (32 - l.depth) + 1

abbrev pub decreases-if_at : goal.decreases-if_at
decreases-if_at l = 8 * (32 - l.depth) + 0

abbrev pub decreases-while_at : goal.decreases-while_at
decreases-while_at l = 8 * (32 - l.depth) + 0

abbrev pub invariant-block-loop-line : goal.invariant-block-loop-line
invariant-block-loop-line l = record { so_far : TakesPart (tokens_of l.tokens) l.depth (statements_tree l.statements.items) l.names l.at l.declared l.end; onward : l.at ≤ l.end }

abbrev pub decreases-block-loop-line : goal.decreases-block-loop-line
decreases-block-loop-line l = length l.tokens - l.end
