use Rattle.aml_tree.specs.TreeRules.{tree_of_chain}
use Rattle.std.proofs.Common.{◌≡◌}
use Rattle.std.proofs.lemmas.Result.{err_from_is_err_and}
use Rattle.aml_tree.specs.Tree.{expression_tree, link_trees, chain_tree}
use Rattle.aml_resolver.specs.Faults.{faults}
use Rattle.aml_resolver.proofs.Chains.{chain_refuses, links_refuse, chain_resolves, mapped_refuse}
use Rattle.aml_resolver.proofs.expressions.+expressions.Goals as goal

pub expression-returns-in_err-head-in-Chain : goal.expression-returns-in_err-head-in-Chain
expression-returns-in_err-head-in-Chain t c =
    let p = err_from_is_err_and c.from_residual-in_err-head-in-Chain.result c.from_residual-in_err-head-in-Chain.ensures.1 in
    let e : expression_tree c.args.e.now ≡ chain_tree (expression_tree c.in-Chain.first.value) (link_trees c.in-Chain.rest.items) = rw c.in-Chain.is (tree_of_chain c.in-Chain.first c.in-Chain.rest) in
    rw (p.1, p.2, e) (chain_refuses c.args.names.now (expression_tree c.in-Chain.first.value) (link_trees c.in-Chain.rest.items) c.in_err-head-in-Chain.field-0.0 (rw c.deref-in-Chain.ensures at c.in_err-head-in-Chain.ensures))

pub expression-returns-in_err-joined-in-Chain : goal.expression-returns-in_err-joined-in-Chain
expression-returns-in_err-joined-in-Chain t c =
    let p = err_from_is_err_and c.from_residual-in_err-joined-in-Chain.result c.from_residual-in_err-joined-in-Chain.ensures.1 in
    let e : expression_tree c.args.e.now ≡ chain_tree (expression_tree c.in-Chain.first.value) (link_trees c.in-Chain.rest.items) = rw c.in-Chain.is (tree_of_chain c.in-Chain.first c.in-Chain.rest) in
    rw (p.1, p.2, e) (links_refuse c.args.names.now (expression_tree c.in-Chain.first.value) (link_trees c.in-Chain.rest.items) c.in_err-joined-in-Chain.field-0.0 (rw c.deref-in-Chain.ensures at c.in_ok-head-in-Chain.ensures).0 (rw c.deref-in-Chain-2.ensures.value at c.in_err-joined-in-Chain.ensures))

pub expression-returns-in_ok-chain-in-Chain : goal.expression-returns-in_ok-chain-in-Chain
expression-returns-in_ok-chain-in-Chain t c =
    let e : expression_tree c.args.e.now ≡ chain_tree (expression_tree c.in-Chain.first.value) (link_trees c.in-Chain.rest.items) = rw c.in-Chain.is (tree_of_chain c.in-Chain.first c.in-Chain.rest) in
    rw e (chain_resolves c.args.names.now (expression_tree c.in-Chain.first.value) (link_trees c.in-Chain.rest.items) (expression_tree c.in_ok-head-in-Chain.head) (expression_tree c.in_ok-chain-in-Chain.field-0) (link_trees c.in_ok-joined-in-Chain.joined.items) (rw c.deref-in-Chain.ensures at c.in_ok-head-in-Chain.ensures) (rw c.deref-in-Chain-2.ensures.value at c.in_ok-joined-in-Chain.ensures) c.in_ok-chain-in-Chain.ensures)

pub links-returns-in_err-operand : goal.links-returns-in_err-operand
links-returns-in_err-operand t c =
    let p = err_from_is_err_and c.from_residual.result c.from_residual.ensures.1 in
    rw (p.1, p.2) (mapped_refuse (λ l. faults c.args.names.now l.operand) (λ l. record { operator = l.operator; operand = expression_tree l.operand }) c.args.rest.now c.loop-link.link-index c.link-item.result c.in_err-operand.field-0.0 c.loop-link-test.true c.link-item.is c.loop-link.invariant.faultless c.in_err-operand.ensures)
