use Rattle.std.proofs.Common.{[], ◌∷◌, ◌++◌, ◌∙◌}
use Rattle.aml_tokens.specs.declared.tokens.Symbol.TheVariants as symbol
use Rattle.aml_tokens.specs.Token.{Field, Sign}
use Rattle.aml_tree.specs.Tree.{expression_tree}
use Rattle.aml_tree.specs.Grammar.{spelling, block_spelling}
use Rattle.aml_print.proofs.PrintingSteps.{goes, goes_past}
use Rattle.aml_print.proofs.statements.write_set_field.Goals as goal

pub returns : goal.returns
returns c = λ rest.
    let words = spelling (expression_tree c.args.value.now) in
    let behind = words ++ Sign symbol.Semicolon ∷ block_spelling rest in
    let w1 = c.write_field.new.writer in
    let w2 = c.write_symbol.new.writer in
    goes c.args.writer.now w1 (Field c.args.field c.args.line ∷ []) (Sign symbol.Assign ∷ behind) c.in_ok-write_field.ensures
    ∙ goes w1 w2 (Sign symbol.Assign ∷ []) behind c.in_ok-write_symbol.ensures
    ∙ goes_past w2 c.write_value.new.writer words (Sign symbol.Semicolon) (block_spelling rest) c.in_ok-write_value.ensures
