use Rattle.std.proofs.Common.{◌-◌, ◌≤◌, length, map}
use Rattle.aml_tokens.specs.Token.{tokens_of}
use Rattle.aml_tree.specs.Tree.{expression_tree}
use Rattle.aml_parser.proofs.ArgumentSteps.{Arguing}
use Rattle.aml_parser.proofs.expressions.arguments.Given as goal

abbrev pub invariant-loop-arguments : goal.invariant-loop-arguments
invariant-loop-arguments l = record { so_far : Arguing (tokens_of l.tokens) l.depth l.at (map expression_tree l.arguments.items) l.end; onward : l.at ≤ l.end }

abbrev pub decreases-loop-arguments : goal.decreases-loop-arguments
decreases-loop-arguments l = length l.tokens - l.end
