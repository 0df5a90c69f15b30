use Rattle.std.proofs.Common.{◌≡◌, ℕ, [], ◌∷◌, ap, ◌∙◌}
use Rattle.aml_tokens.specs.declared.tokens.Symbol.TheVariants as symbol
use Rattle.aml_tokens.specs.Token.{Number, Sign}
use Rattle.aml_tree.specs.Grammar.{block_spelling}
use Rattle.aml_print.specs.Printing.{after}
use Rattle.aml_print.proofs.PrintingSteps.{goes}
use Rattle.aml_print.proofs.statements.write_fail.Goals as goal

pub returns : goal.returns
returns c = λ rest.
    let w0 = c.args.writer.now in
    let w1 = c.write_symbol.new.writer in
    let w2 = c.write_number.new.writer in
    let number : w2 ≡ after w1 (Number c.args.code ∷ []) = c.in_ok-write_number.ensures ∙ ap (λ (n : ℕ). after w1 (Number n ∷ [])) c.from.ensures in
    goes w0 w1 (Sign symbol.Fail ∷ []) (Number c.args.code ∷ Sign symbol.Semicolon ∷ block_spelling rest) c.in_ok-write_symbol.ensures
    ∙ goes w1 w2 (Number c.args.code ∷ []) (Sign symbol.Semicolon ∷ block_spelling rest) number
    ∙ goes w2 c.write_symbol-2.new.writer (Sign symbol.Semicolon ∷ []) (block_spelling rest) c.in_ok-write_symbol-2.ensures
