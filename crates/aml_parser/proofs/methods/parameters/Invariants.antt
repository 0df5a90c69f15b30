use Rattle.std.proofs.Common.{◌-◌, ◌≤◌, length}
use Rattle.aml_tokens.specs.Token.{tokens_of}
use Rattle.aml_parser.proofs.ParameterSteps.{Naming}
use Rattle.aml_parser.proofs.methods.parameters.Given as goal

abbrev pub invariant-loop-parameters : goal.invariant-loop-parameters
invariant-loop-parameters l = record { so_far : Naming (tokens_of l.tokens) l.at l.parameters.items l.count l.end; onward : l.at ≤ l.end }

abbrev pub decreases-loop-parameters : goal.decreases-loop-parameters
decreases-loop-parameters l = length l.tokens - l.end
