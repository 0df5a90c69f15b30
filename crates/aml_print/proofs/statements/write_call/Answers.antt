use Rattle.std.proofs.Common.{[], ◌∷◌, ◌++◌, ◌∙◌, map}
use Rattle.aml_tokens.specs.declared.tokens.Symbol.TheVariants as symbol
use Rattle.aml_tokens.specs.Token.{Name, Sign, Let}
use Rattle.aml_tree.specs.Tree.{expression_tree}
use Rattle.aml_tree.specs.Grammar.{spelling, listed, block_spelling}
use Rattle.aml_print.proofs.PrintingSteps.{goes}
use Rattle.aml_print.proofs.statements.write_call.Goals as goal

pub returns : goal.returns
returns c = λ rest.
    let target = spelling (expression_tree c.args.target.now) in
    let given = listed (map spelling (map expression_tree c.args.arguments.now)) in
    let last = Sign symbol.Semicolon ∷ block_spelling rest in
    let called = Name c.args.method.now ∷ Sign symbol.Open ∷ (given ++ Sign symbol.Close ∷ last) in
    let w1 = c.write_let_word.new.writer in
    let w2 = c.write_word.new.writer in
    let w3 = c.write_symbol.new.writer in
    let w4 = c.write_symbol-2.new.writer in
    let w5 = c.write_expression.new.writer in
    let w6 = c.write_word-2.new.writer in
    let w7 = c.write_symbol-3.new.writer in
    let w8 = c.write_arguments.new.writer in
    let w9 = c.write_symbol-4.new.writer in
    goes c.args.writer.now w1 (Let c.args.line ∷ []) (Name c.args.variable.now ∷ Sign symbol.Assign ∷ Sign symbol.Call ∷ (target ++ called)) c.in_ok-write_let_word.ensures
    ∙ goes w1 w2 (Name c.args.variable.now ∷ []) (Sign symbol.Assign ∷ Sign symbol.Call ∷ (target ++ called)) c.in_ok-write_word.ensures
    ∙ goes w2 w3 (Sign symbol.Assign ∷ []) (Sign symbol.Call ∷ (target ++ called)) c.in_ok-write_symbol.ensures
    ∙ goes w3 w4 (Sign symbol.Call ∷ []) (target ++ called) c.in_ok-write_symbol-2.ensures
    ∙ goes w4 w5 target called c.in_ok-write_expression.ensures
    ∙ goes w5 w6 (Name c.args.method.now ∷ []) (Sign symbol.Open ∷ (given ++ Sign symbol.Close ∷ last)) c.in_ok-write_word-2.ensures
    ∙ goes w6 w7 (Sign symbol.Open ∷ []) (given ++ Sign symbol.Close ∷ last) c.in_ok-write_symbol-3.ensures
    ∙ goes w7 w8 given (Sign symbol.Close ∷ last) c.in_ok-write_arguments.ensures
    ∙ goes w8 w9 (Sign symbol.Close ∷ []) last c.in_ok-write_symbol-4.ensures
    ∙ goes w9 c.write_symbol-5.new.writer (Sign symbol.Semicolon ∷ []) (block_spelling rest) c.in_ok-write_symbol-5.ensures
