use Rattle.std.proofs.Common.{◌≡◌, [], ◌∷◌, ◌++◌, sym, ap, ◌∙◌, take}
use Rattle.aml_tokens.specs.declared.tokens.Symbol.TheVariants as symbol
use Rattle.aml_tokens.specs.declared.tokens.Symbol.{Symbol}
use Rattle.aml_tokens.specs.Token.{Sign}
use Rattle.aml_tree.specs.Tree.{Group, Negative, expression_tree, chain_tree, link_trees}
use Rattle.aml_tree.specs.Grammar.{spelling, sign}
use Rattle.aml_print.specs.Printing.{after, links_spelling}
use Rattle.aml_print.proofs.PrintingSteps.{none_written, and_then, flat_more, chain_spelled}
use Rattle.aml_print.proofs.PrintingTrees.{tree_of_group, tree_of_negative, tree_of_chain}
use Rattle.aml_print.proofs.expressions.+writing_expressions.Goals as goal

pub write_expression-returns-in_ok-write_symbol-in-Group-2 : goal.write_expression-returns-in_ok-write_symbol-in-Group-2
write_expression-returns-in_ok-write_symbol-in-Group-2 t c =
    let inner = expression_tree c.in-Group.inner.value in
    let e : expression_tree c.args.expression.now ≡ Group (expression_tree c.in-Group.inner.value) = rw c.in-Group.is (tree_of_group c.in-Group.inner) in
    let w1 = c.write_symbol-in-Group.new.writer in
    let w2 = c.write_expression.new.writer in
    let w3 = c.write_symbol-in-Group-2.new.writer in
    rw e
    (and_then c.args.writer.now w1 w3 (Sign symbol.Open ∷ []) (spelling inner ++ Sign symbol.Close ∷ []) c.in_ok-write_symbol-in-Group.ensures
    (and_then w1 w2 w3 (spelling inner) (Sign symbol.Close ∷ []) (rw c.deref.ensures at c.in_ok-write_expression-in-Group.ensures) c.in_ok-write_symbol-in-Group-2.ensures))

pub write_expression-returns-in_ok-write_expression-in-Negative : goal.write_expression-returns-in_ok-write_expression-in-Negative
write_expression-returns-in_ok-write_expression-in-Negative t c =
    let inner = expression_tree c.in-Negative.inner.value in
    let e : expression_tree c.args.expression.now ≡ Negative (expression_tree c.in-Negative.inner.value) = rw c.in-Negative.is (tree_of_negative c.in-Negative.inner) in
    rw e
    (and_then c.args.writer.now c.write_symbol-in-Negative.new.writer c.write_expression-in-Negative.new.writer (Sign symbol.Minus ∷ []) (spelling inner) c.in_ok-write_symbol-in-Negative.ensures
    (rw c.deref-in-Negative.ensures at c.in_ok-write_expression-in-Negative.ensures))

pub write_expression-returns-in_ok-write_links-in-Chain : goal.write_expression-returns-in_ok-write_links-in-Chain
write_expression-returns-in_ok-write_links-in-Chain t c =
    let first = expression_tree c.in-Chain.first.value in
    let links = link_trees c.in-Chain.rest.items in
    let e : expression_tree c.args.expression.now ≡ chain_tree (expression_tree c.in-Chain.first.value) (link_trees c.in-Chain.rest.items) = rw c.in-Chain.is (tree_of_chain c.in-Chain.first c.in-Chain.rest) in
    and_then c.args.writer.now c.write_expression-in-Chain.new.writer c.write_links.new.writer (spelling first) (links_spelling links)
    (rw c.deref-in-Chain.ensures at c.in_ok-write_expression-in-Chain.ensures) (rw c.as_slice.ensures.value at c.in_ok-write_links-in-Chain.ensures)
    ∙ ap (after c.args.writer.now) (sym (ap spelling e ∙ chain_spelled links first))

pub write_links-loop-link-init : goal.write_links-loop-link-init
write_links-loop-link-init t c = none_written c.args.writer.now

pub write_links-loop-link-preserved : goal.write_links-loop-link-preserved
write_links-loop-link-preserved t c =
    let rest = c.args.rest.now in
    let i = c.loop-link.link-index in
    let link = c.link-item.result in
    let words = spelling (expression_tree link.operand) in
    let w1 = c.write_symbol.new.writer in
    let w2 = c.write_expression.new.writer in
    let operator : w1 ≡ after c.loop-link.writer (Sign (sign link.operator) ∷ []) = c.in_ok-write_symbol.ensures ∙ ap (λ (s : Symbol). after c.loop-link.writer (Sign s ∷ [])) c.sign.ensures in
    and_then c.args.writer.now c.loop-link.writer w2 (links_spelling (link_trees (take i rest))) (Sign (sign link.operator) ∷ words) c.loop-link.invariant
    (and_then c.loop-link.writer w1 w2 (Sign (sign link.operator) ∷ []) words operator c.in_ok-write_expression.ensures)
    ∙ ap (after c.args.writer.now) (sym (flat_more (λ l. Sign (sign l.operator) ∷ spelling l.operand) (λ l. record { operator = l.operator; operand = expression_tree l.operand }) rest i link c.loop-link-test.true c.link-item.is))
