-- The trees of values with parts, by their variants.
use Rattle.std.proofs.Common.{◌≡◌, sym, ap, ◌∙◌, Vec, Global}
use Rattle.std.specs.Prelude.{Box}
use Rattle.aml_tree.specs.declared.trees.Link.{Link}
use Rattle.aml_tree.specs.declared.trees.Expression.{Expression}
use Rattle.aml_tree.specs.declared.trees.Expression as expression
use Rattle.aml_tree.specs.declared.trees.Expression.TheOpen.{Expression-F}
use Rattle.aml_tree.specs.declared.trees.Expression.TheFolds.{fold-roll-Expression}
use Rattle.aml_tree.specs.declared.trees.Expression.TheVariants.{rolls-Group, rolls-Negative, rolls-Chain}
use Rattle.aml_tree.specs.declared.trees.Block.{Block}
use Rattle.aml_tree.specs.declared.trees.Statement.{Statement}
use Rattle.aml_tree.specs.declared.trees.Statement as variant
use Rattle.aml_tree.specs.declared.trees.Statement.TheOpen.{Statement-F}
use Rattle.aml_tree.specs.declared.trees.Statement.TheFolds.{fold-roll-Statement}
use Rattle.aml_tree.specs.declared.trees.Statement.TheVariants.{rolls-If, rolls-IfElse, rolls-While}
use Rattle.aml_tree.specs.Tree.{Expr, Group, Negative, Onto, If, IfElse, While, expression_step, expression_tree, chain_tree, link_trees, statement_step, statement_tree, block_tree}

pub tree_of_group : {V : Type 0} (inner : Box (Expression V) Global) → expression_tree (expression.Group inner) ≡ Group (expression_tree inner.value)
tree_of_group {V} inner = ap expression_tree (sym (rolls-Group {X1 = V} inner)) ∙ fold-roll-Expression V (Expr V) expression_step (Expression-F.Group inner)

pub tree_of_negative : {V : Type 0} (inner : Box (Expression V) Global) → expression_tree (expression.Negative inner) ≡ Negative (expression_tree inner.value)
tree_of_negative {V} inner = ap expression_tree (sym (rolls-Negative {X1 = V} inner)) ∙ fold-roll-Expression V (Expr V) expression_step (Expression-F.Negative inner)

pub tree_of_chain : {V : Type 0} (first : Box (Expression V) Global) (rest : Vec (Link (Expression V)) Global) → expression_tree (expression.Chain first rest) ≡ chain_tree (expression_tree first.value) (link_trees rest.items)
tree_of_chain {V} first rest = ap expression_tree (sym (rolls-Chain {X1 = V} first rest)) ∙ fold-roll-Expression V (Expr V) expression_step (Expression-F.Chain first rest)

pub tree_of_if : {V M : Type 0} (condition : Expression V) (first : Block (Statement V M)) → statement_tree {V = V} {M = M} (variant.If condition first) ≡ If (expression_tree condition) (block_tree first)
tree_of_if {V} {M} condition first = ap statement_tree (sym (rolls-If {X1 = V} {X2 = M} condition first)) ∙ fold-roll-Statement V M (Onto V M) statement_step (Statement-F.If condition first)

pub tree_of_if_else : {V M : Type 0} (condition : Expression V) (first other : Block (Statement V M)) → statement_tree {V = V} {M = M} (variant.IfElse condition first other) ≡ IfElse (expression_tree condition) (block_tree first) (block_tree other)
tree_of_if_else {V} {M} condition first other = ap statement_tree (sym (rolls-IfElse {X1 = V} {X2 = M} condition first other)) ∙ fold-roll-Statement V M (Onto V M) statement_step (Statement-F.IfElse condition first other)

pub tree_of_while : {V M : Type 0} (condition : Expression V) (body : Block (Statement V M)) → statement_tree {V = V} {M = M} (variant.While condition body) ≡ While (expression_tree condition) (block_tree body)
tree_of_while {V} {M} condition body = ap statement_tree (sym (rolls-While {X1 = V} {X2 = M} condition body)) ∙ fold-roll-Statement V M (Onto V M) statement_step (Statement-F.While condition body)
