use Rattle.std.proofs.Common.{◌≡◌, sym, ◌∙◌}
use Rattle.aml_tree.specs.Tree.{chain_tree, expression_tree, link_trees}
use Rattle.aml_tree.specs.TreeRules.{tree_of_chain}
use Rattle.aml_flat.proofs.Rows.{leftmost_chain}
use Rattle.aml_flat.proofs.expressions.+first_operand.Goals as goal

pub returns-in-Chain : goal.returns-in-Chain
returns-in-Chain t c =
    let e : expression_tree c.args.e.now ≡ chain_tree (expression_tree c.in-Chain.first.value) (link_trees c.in-Chain.rest.items) = rw c.in-Chain.is (tree_of_chain c.in-Chain.first c.in-Chain.rest) in
    rw e ((rw c.deref.ensures at c.first_operand.ensures) ∙ sym (leftmost_chain (expression_tree c.in-Chain.first.value) (link_trees c.in-Chain.rest.items)))
