-- Rules of trees by variant: what the tree of an expression or a statement is, and what a statement makes of the rest of its
-- block. They are of every type of names, so they stand here, each with its proof.
use Rattle.std.specs.Prelude.{◌≡◌, ◌+◌, Box, List, [], ◌∷◌, ◌++◌, Vec, map, refl}
use Rattle.std.proofs.Common.{Global, sym, ap, ◌∙◌, subst, add-zero, zero-add}
use Rattle.aml_tree.specs.Limits.{lets}
use Rattle.aml_tree.specs.Tree.{Call, Code, End, Expr, Fail, If, IfElse, Let, Onto, Return, Set, SetField, While, block_tree, chain_tree, expression_step, expression_tree, link_trees, statement_step, statement_tree, statements_tree}
use Rattle.aml_tree.specs.declared.trees.Block.{Block}
use Rattle.aml_tree.specs.declared.trees.Expression.TheFolds.{fold-roll-Expression}
use Rattle.aml_tree.specs.declared.trees.Expression.TheOpen.{Expression-F}
use Rattle.aml_tree.specs.declared.trees.Expression.TheVariants.{rolls-Chain}
use Rattle.aml_tree.specs.declared.trees.Expression.{Chain, Expression}
use Rattle.aml_tree.specs.declared.trees.Link.{Link}
use Rattle.aml_tree.specs.declared.trees.Statement as variant
use Rattle.aml_tree.specs.declared.trees.Statement.TheFolds.{fold-roll-Statement, fold_out-Statement}
use Rattle.aml_tree.specs.declared.trees.Statement.TheOpen.{Statement-F}
use Rattle.aml_tree.specs.declared.trees.Statement.TheVariants.{rolls-Call, rolls-Fail, rolls-If, rolls-IfElse, rolls-Let, rolls-Return, rolls-Set, rolls-SetField, rolls-While}
use Rattle.aml_tree.specs.declared.trees.Statement.{Statement}

pub tree_of_chain : {V : Type 0} (first : Box (Expression V) Global) (rest : Vec (Link (Expression V)) Global) → expression_tree (Chain first rest) ≡ chain_tree (expression_tree first.value) (link_trees rest.items)
tree_of_chain {V} first rest = ap expression_tree (sym (rolls-Chain {X1 = V} first rest)) ∙ fold-roll-Expression V (Expr V) expression_step (Expression-F.Chain first rest)

pub tree_of_let : {V M : Type 0} (line : _) (v : V) (value : Expression V) → statement_tree {V = V} {M = M} (variant.Let line v value) ≡ Let line v (expression_tree value)
tree_of_let {V} {M} line v value = ap statement_tree (sym (rolls-Let {X1 = V} {X2 = M} line v value)) ∙ fold-roll-Statement V M (Onto V M) statement_step (Statement-F.Let line v value)

pub tree_of_call : {V M : Type 0} (line : _) (v : V) (target : Expression V) (m : M) (arguments : Vec (Expression V) Global) → statement_tree {V = V} {M = M} (variant.Call line v target m arguments) ≡ Call line v (expression_tree target) m (map expression_tree arguments.items)
tree_of_call {V} {M} line v target m arguments = ap statement_tree (sym (rolls-Call {X1 = V} {X2 = M} line v target m arguments)) ∙ fold-roll-Statement V M (Onto V M) statement_step (Statement-F.Call line v target m arguments)

pub tree_of_set : {V M : Type 0} (v : V) (value : Expression V) → statement_tree {V = V} {M = M} (variant.Set v value) ≡ Set v (expression_tree value)
tree_of_set {V} {M} v value = ap statement_tree (sym (rolls-Set {X1 = V} {X2 = M} v value)) ∙ fold-roll-Statement V M (Onto V M) statement_step (Statement-F.Set v value)

pub tree_of_field : {V M : Type 0} (line k : _) (value : Expression V) → statement_tree {V = V} {M = M} (variant.SetField line k value) ≡ SetField line k (expression_tree value)
tree_of_field {V} {M} line k value = ap statement_tree (sym (rolls-SetField {X1 = V} {X2 = M} line k value)) ∙ fold-roll-Statement V M (Onto V M) statement_step (Statement-F.SetField line k value)

pub tree_of_if : {V M : Type 0} (condition : Expression V) (first : Block (Statement V M)) → statement_tree {V = V} {M = M} (variant.If condition first) ≡ If (expression_tree condition) (block_tree first)
tree_of_if {V} {M} condition first = ap statement_tree (sym (rolls-If {X1 = V} {X2 = M} condition first)) ∙ fold-roll-Statement V M (Onto V M) statement_step (Statement-F.If condition first)

pub tree_of_if_else : {V M : Type 0} (condition : Expression V) (first other : Block (Statement V M)) → statement_tree {V = V} {M = M} (variant.IfElse condition first other) ≡ IfElse (expression_tree condition) (block_tree first) (block_tree other)
tree_of_if_else {V} {M} condition first other = ap statement_tree (sym (rolls-IfElse {X1 = V} {X2 = M} condition first other)) ∙ fold-roll-Statement V M (Onto V M) statement_step (Statement-F.IfElse condition first other)

pub tree_of_while : {V M : Type 0} (condition : Expression V) (body : Block (Statement V M)) → statement_tree {V = V} {M = M} (variant.While condition body) ≡ While (expression_tree condition) (block_tree body)
tree_of_while {V} {M} condition body = ap statement_tree (sym (rolls-While {X1 = V} {X2 = M} condition body)) ∙ fold-roll-Statement V M (Onto V M) statement_step (Statement-F.While condition body)

pub tree_of_fail : {V M : Type 0} (code : _) → statement_tree {V = V} {M = M} (variant.Fail code) ≡ Fail code
tree_of_fail {V} {M} code = ap statement_tree (sym (rolls-Fail {X1 = V} {X2 = M} code)) ∙ fold-roll-Statement V M (Onto V M) statement_step (Statement-F.Fail code)

pub tree_of_return : {V M : Type 0} (value : Expression V) → statement_tree {V = V} {M = M} (variant.Return value) ≡ Return (expression_tree value)
tree_of_return {V} {M} value = ap statement_tree (sym (rolls-Return {X1 = V} {X2 = M} value)) ∙ fold-roll-Statement V M (Onto V M) statement_step (Statement-F.Return value)

-- one more statement at the end of a block
pub put_last : {V M : Type 0} (ss : List (Statement V M)) (s : Statement V M) (rest : Code V M) → statements_tree (ss ++ s ∷ []) rest ≡ statements_tree ss (statement_tree s rest)
put_last [] s rest = refl
put_last (t ∷ ss) s rest = ap (statement_tree t) (put_last ss s rest)

abbrev pub IsLayer : {V M : Type 0} → Onto V M → Type 0
IsLayer {V} {M} onto = (x : Statement-F V M (Onto V M)) × (onto ≡ statement_step x)

pub layer : {V M : Type 0} (s : Statement V M) → IsLayer (statement_tree s)
layer {V} {M} s = (_, fold_out-Statement V M (Onto V M) statement_step s)

lets_step : {V M : Type 0} (x : Statement-F V M (Onto V M)) (rest : Code V M) → lets (statement_step x rest) ≡ lets (statement_step x (End 0)) + lets rest
lets_step (Statement-F.Let line v value) rest = refl
lets_step (Statement-F.Call line v target m arguments) rest = refl
lets_step (Statement-F.Set v value) rest = sym (zero-add (lets rest))
lets_step (Statement-F.SetField line k value) rest = sym (zero-add (lets rest))
lets_step (Statement-F.If condition first) rest = ap (λ n. n + lets rest) (sym (add-zero _))
lets_step (Statement-F.IfElse condition first other) rest = ap (λ n. n + lets rest) (sym (add-zero _))
lets_step (Statement-F.While condition body) rest = ap (λ n. n + lets rest) (sym (add-zero _))
lets_step (Statement-F.Fail code) rest = sym (zero-add (lets rest))
lets_step (Statement-F.Return value) rest = sym (zero-add (lets rest))

pub lets_onto : {V M : Type 0} (s : Statement V M) (rest : Code V M) → lets (statement_tree s rest) ≡ lets (statement_tree s (End 0)) + lets rest
lets_onto s rest = subst (λ onto. lets (onto rest) ≡ lets (onto (End 0)) + lets rest) (sym (layer s).1) (lets_step (layer s).0 rest)
