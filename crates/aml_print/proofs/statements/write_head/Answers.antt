use Rattle.std.proofs.Common.{[], ◌∷◌, ◌++◌}
use Rattle.aml_tokens.specs.declared.tokens.Symbol.TheVariants as symbol
use Rattle.aml_tokens.specs.Token.{Sign}
use Rattle.aml_tree.specs.Tree.{expression_tree}
use Rattle.aml_tree.specs.Grammar.{spelling}
use Rattle.aml_print.proofs.PrintingSteps.{and_then}
use Rattle.aml_print.proofs.statements.write_head.Goals as goal

pub returns : goal.returns
returns c =
    let words = spelling (expression_tree c.args.condition.now) in
    let w1 = c.write_symbol.new.writer in
    let w3 = c.write_symbol-2.new.writer in
    and_then c.args.writer.now w1 w3 (Sign c.args.keyword ∷ []) (words ++ Sign symbol.OpenBrace ∷ []) c.in_ok-write_symbol.ensures
    (and_then w1 c.write_expression.new.writer w3 words (Sign symbol.OpenBrace ∷ []) c.in_ok-write_expression.ensures c.in_ok-write_symbol-2.ensures)
