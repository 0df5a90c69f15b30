use Rattle.std.proofs.Common.{[], ◌∷◌, ◌++◌, ◌∙◌}
use Rattle.aml_tokens.specs.declared.tokens.Symbol.TheVariants as symbol
use Rattle.aml_tokens.specs.Token.{Name, Sign, Let}
use Rattle.aml_tree.specs.Tree.{expression_tree}
use Rattle.aml_tree.specs.Grammar.{spelling, block_spelling}
use Rattle.aml_print.proofs.PrintingSteps.{goes, goes_past}
use Rattle.aml_print.proofs.statements.write_let.Goals as goal

pub returns : goal.returns
returns c = λ rest.
    let words = spelling (expression_tree c.args.value.now) in
    let behind = words ++ Sign symbol.Semicolon ∷ block_spelling rest in
    let w1 = c.write_let_word.new.writer in
    let w2 = c.write_word.new.writer in
    let w3 = c.write_symbol.new.writer in
    goes c.args.writer.now w1 (Let c.args.line ∷ []) (Name c.args.variable.now ∷ Sign symbol.Assign ∷ behind) c.in_ok-write_let_word.ensures
    ∙ goes w1 w2 (Name c.args.variable.now ∷ []) (Sign symbol.Assign ∷ behind) c.in_ok-write_word.ensures
    ∙ goes w2 w3 (Sign symbol.Assign ∷ []) behind c.in_ok-write_symbol.ensures
    ∙ goes_past w3 c.write_value.new.writer words (Sign symbol.Semicolon) (block_spelling rest) c.in_ok-write_value.ensures
