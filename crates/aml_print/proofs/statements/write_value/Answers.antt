use Rattle.std.proofs.Common.{[], ◌∷◌}
use Rattle.aml_tokens.specs.declared.tokens.Symbol.TheVariants as symbol
use Rattle.aml_tokens.specs.Token.{Sign}
use Rattle.aml_tree.specs.Tree.{expression_tree}
use Rattle.aml_tree.specs.Grammar.{spelling}
use Rattle.aml_print.proofs.PrintingSteps.{and_then}
use Rattle.aml_print.proofs.statements.write_value.Goals as goal

pub returns : goal.returns
returns c =
    and_then c.args.writer.now c.write_expression.new.writer c.write_symbol.new.writer (spelling (expression_tree c.args.value.now)) (Sign symbol.Semicolon ∷ []) c.in_ok-write_expression.ensures c.in_ok-write_symbol.ensures
