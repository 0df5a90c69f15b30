use Rattle.std.proofs.Common.{◌∙◌, ap}
use Rattle.aml_tree.specs.Tree.{expression_tree, link_trees, chain_tree}
use Rattle.aml_parser.proofs.Chaining.{chain_last}
use Rattle.aml_parser.proofs.attaching.with_link.Goals as goal

pub returns : goal.returns
returns c =
    c.chained.ensures
    ∙ ap (chain_tree (expression_tree c.args.first.value)) c.in_ok-put_link.ensures
    ∙ chain_last (link_trees c.args.rest.items) (expression_tree c.args.first.value) (record { operator = c.args.operator; operand = expression_tree c.args.operand })
