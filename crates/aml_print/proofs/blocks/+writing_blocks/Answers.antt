use Rattle.std.proofs.Common.{◌≡◌, [], ◌∷◌, ◌++◌, ap, ◌∙◌}
use Rattle.aml_tokens.specs.declared.tokens.Symbol.TheVariants as symbol
use Rattle.aml_tokens.specs.declared.tokens.Word.{Word}
use Rattle.aml_tokens.specs.Token.{Sign}
use Rattle.aml_tree.specs.Tree.{Onto, If, IfElse, While, expression_tree, statement_tree, block_tree}
use Rattle.aml_tree.specs.Grammar.{spelling, block_spelling}
use Rattle.aml_print.specs.Printing.{after}
use Rattle.aml_print.proofs.PrintingSteps.{goes, goes_past}
use Rattle.aml_print.proofs.PrintingTrees.{tree_of_if, tree_of_if_else, tree_of_while}
use Rattle.aml_print.proofs.blocks.+writing_blocks.Goals as goal

pub write_statement-returns-in_ok-write_block-in-If : goal.write_statement-returns-in_ok-write_block-in-If
write_statement-returns-in_ok-write_block-in-If t c = λ rest.
    let condition = spelling (expression_tree c.in-If.condition) in
    let first = block_spelling (block_tree c.in-If.first) in
    let e : statement_tree c.args.statement.now ≡ If (expression_tree c.in-If.condition) (block_tree c.in-If.first) = rw c.in-If.is (tree_of_if c.in-If.condition c.in-If.first) in
    ap (λ (o : Onto Word Word). after c.args.writer.now (block_spelling (o rest))) e
    ∙ goes_past c.args.writer.now c.write_head.new.writer (Sign symbol.If ∷ condition) (Sign symbol.OpenBrace) (first ++ block_spelling rest) c.in_ok-write_head-in-If.ensures
    ∙ goes c.write_head.new.writer c.write_block.new.writer first (block_spelling rest) c.in_ok-write_block-in-If.ensures

pub write_statement-returns-in_ok-write_block-in-IfElse-2 : goal.write_statement-returns-in_ok-write_block-in-IfElse-2
write_statement-returns-in_ok-write_block-in-IfElse-2 t c = λ rest.
    let condition = spelling (expression_tree c.in-IfElse.condition) in
    let first = block_spelling (block_tree c.in-IfElse.first) in
    let other = block_spelling (block_tree c.in-IfElse.other) in
    let e : statement_tree c.args.statement.now ≡ IfElse (expression_tree c.in-IfElse.condition) (block_tree c.in-IfElse.first) (block_tree c.in-IfElse.other) = rw c.in-IfElse.is (tree_of_if_else c.in-IfElse.condition c.in-IfElse.first c.in-IfElse.other) in
    let w1 = c.write_head-in-IfElse.new.writer in
    let w2 = c.write_block-in-IfElse.new.writer in
    let w3 = c.write_symbol.new.writer in
    let w4 = c.write_symbol-in-IfElse.new.writer in
    ap (λ (o : Onto Word Word). after c.args.writer.now (block_spelling (o rest))) e
    ∙ goes_past c.args.writer.now w1 (Sign symbol.If ∷ condition) (Sign symbol.OpenBrace) (first ++ Sign symbol.Else ∷ Sign symbol.OpenBrace ∷ (other ++ block_spelling rest)) c.in_ok-write_head-in-IfElse.ensures
    ∙ goes w1 w2 first (Sign symbol.Else ∷ Sign symbol.OpenBrace ∷ (other ++ block_spelling rest)) c.in_ok-write_block-in-IfElse.ensures
    ∙ goes w2 w3 (Sign symbol.Else ∷ []) (Sign symbol.OpenBrace ∷ (other ++ block_spelling rest)) c.in_ok-write_symbol-in-IfElse.ensures
    ∙ goes w3 w4 (Sign symbol.OpenBrace ∷ []) (other ++ block_spelling rest) c.in_ok-write_symbol-in-IfElse-2.ensures
    ∙ goes w4 c.write_block-in-IfElse-2.new.writer other (block_spelling rest) c.in_ok-write_block-in-IfElse-2.ensures

pub write_statement-returns-in_ok-write_block-in-While : goal.write_statement-returns-in_ok-write_block-in-While
write_statement-returns-in_ok-write_block-in-While t c = λ rest.
    let condition = spelling (expression_tree c.in-While.condition) in
    let body = block_spelling (block_tree c.in-While.body) in
    let e : statement_tree c.args.statement.now ≡ While (expression_tree c.in-While.condition) (block_tree c.in-While.body) = rw c.in-While.is (tree_of_while c.in-While.condition c.in-While.body) in
    ap (λ (o : Onto Word Word). after c.args.writer.now (block_spelling (o rest))) e
    ∙ goes_past c.args.writer.now c.write_head-in-While.new.writer (Sign symbol.While ∷ condition) (Sign symbol.OpenBrace) (body ++ block_spelling rest) c.in_ok-write_head-in-While.ensures
    ∙ goes c.write_head-in-While.new.writer c.write_block-in-While.new.writer body (block_spelling rest) c.in_ok-write_block-in-While.ensures
