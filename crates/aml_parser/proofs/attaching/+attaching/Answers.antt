use Rattle.std.proofs.Common.{◌≡◌, ap, sym, ◌∙◌, false, nat_lt, arith}
use Rattle.aml_tokens.specs.declared.tokens.Word.{Word}
use Rattle.aml_tree.specs.declared.trees.Expression.{Expression}
use Rattle.aml_tree.specs.Tree.{Binary, expression_tree, link_trees, chain_tree}
use Rattle.aml_tree.specs.Grammar.{level}
use Rattle.aml_parser.proofs.Attached.{not_less_is}
use Rattle.aml_parser.proofs.Chaining.{weight, weights_apart, chain_last, chain_apart}
use Rattle.aml_parser.proofs.attaching.+attaching.Goals as goal

pub attach_chain-attach_last-requires : goal.attach_chain-attach_last-requires
attach_chain-attach_last-requires t c =
    let e = weights_apart c.args.rest.items c.pop.new.self.items c.in-Some.last c.in-Some.ensures.items in
    (omega (arith, c.decreases, e), tt)

pub attach_chain-returns-in-Some : goal.attach_chain-returns-in-Some
attach_chain-returns-in-Some t c =
    rw (chain_apart (expression_tree c.args.first.value) c.args.rest.items c.pop.new.self.items c.in-Some.last c.in-Some.ensures.items) c.attach_last.ensures

pub attach_chain-attach-requires : goal.attach_chain-attach-requires
attach_chain-attach-requires t c =
    let same = ap (λ (x : Expression Word). weight x) c.into_inner.ensures in
    (omega (arith, c.decreases, same), tt)

pub attach_last-returns : goal.attach_last-returns
attach_last-returns t c =
    let first = expression_tree c.args.first.value in
    let looser : nat_lt (level c.args.operator) (level c.args.last.operator) ≡ false = not_less_is (level c.args.operator) (level c.args.last.operator) (omega (arith, c.if-level.false, c.level.ensures, c.level-2.ensures)) in
    let pushed : chain_tree first (link_trees c.put_link.new.rest.items) ≡ Binary c.args.last.operator (chain_tree first (link_trees c.args.rest.items)) (expression_tree c.args.last.operand) =
    ap (chain_tree first) c.in_ok-put_link.ensures ∙ chain_last (link_trees c.args.rest.items) first (record { operator = c.args.last.operator; operand = expression_tree c.args.last.operand }) in
    rw (looser, sym pushed) c.with_link-2.ensures
