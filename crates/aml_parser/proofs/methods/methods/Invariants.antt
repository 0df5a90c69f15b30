use Rattle.std.proofs.Common.{◌-◌, length, map}
use Rattle.aml_tokens.specs.Token.{tokens_of}
use Rattle.aml_tree.specs.Tree.{method_tree}
use Rattle.aml_parser.proofs.ProgramSteps.{Listing}
use Rattle.aml_parser.proofs.methods.methods.Given as goal

abbrev pub invariant-loop-alloc : goal.invariant-loop-alloc
invariant-loop-alloc l = record { so_far : Listing (tokens_of l.tokens) (map method_tree l.methods.items) l.end }

abbrev pub decreases-loop-alloc : goal.decreases-loop-alloc
decreases-loop-alloc l = length l.tokens - l.end
