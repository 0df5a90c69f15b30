-- What the parts of a row make of a value, as they are put one behind the other.
use Rattle.std.proofs.Common.{◌≡◌, ℕ, ◌+◌, ◌<◌, ◌≤◌, List, [], ◌∷◌, ◌++◌, length, take, get_or, refl, sym, ap, ◌∙◌, subst, append_assoc, Global}
use Rattle.std.proofs.lemmas.List.{append-nil, map-append, take_all, take_more}
use Rattle.std.specs.Prelude.{Box}
use Rattle.aml_tree.specs.declared.trees.Expression as expression
use Rattle.aml_tree.specs.declared.trees.Expression.{Expression}
use Rattle.aml_tree.specs.declared.trees.Expression.TheFolds.{fold-roll-Expression}
use Rattle.aml_tree.specs.declared.trees.Expression.TheOpen.{Expression-F}
use Rattle.aml_tree.specs.declared.trees.Expression.TheVariants.{rolls-Group, rolls-Negative}
use Rattle.aml_tree.specs.declared.trees.Link.{Link}
use Rattle.aml_tree.specs.declared.trees.Operator.{Operator}
use Rattle.aml_tree.specs.Tree.{Expr, Group, Negative, Binary, chain_tree, expression_step, expression_tree, link_trees}
use Rattle.aml_flat.specs.declared.operations.Operand.{Operand}
use Rattle.aml_flat.specs.declared.operations.Part.{Part}
use Rattle.aml_flat.specs.declared.operations.Part.TheVariants as part
use Rattle.aml_flat.specs.Flat.{Makes, MakesChain, MakesWhole, leftmost, operand_tree, row_tree}

pub tree_of_group : (inner : Box (Expression ℕ) Global) → expression_tree (expression.Group inner) ≡ Group (expression_tree inner.value)
tree_of_group inner = ap expression_tree (sym (rolls-Group {X1 = ℕ} inner)) ∙ fold-roll-Expression ℕ (Expr ℕ) expression_step (Expression-F.Group inner)

pub tree_of_negative : (inner : Box (Expression ℕ) Global) → expression_tree (expression.Negative inner) ≡ Negative (expression_tree inner.value)
tree_of_negative inner = ap expression_tree (sym (rolls-Negative {X1 = ℕ} inner)) ∙ fold-roll-Expression ℕ (Expr ℕ) expression_step (Expression-F.Negative inner)

pub leftmost_chain : (x : Expr ℕ) (ls : List (Link (Expr ℕ))) → leftmost (chain_tree x ls) ≡ leftmost x
leftmost_chain x [] = refl
leftmost_chain x (l ∷ ls) = leftmost_chain (Binary l.operator x l.operand) ls

pub chain_on : (x : Expr ℕ) (ls ks : List (Link (Expr ℕ))) → chain_tree x (ls ++ ks) ≡ chain_tree (chain_tree x ls) ks
chain_on x [] ks = refl
chain_on x (l ∷ ls) ks = chain_on (Binary l.operator x l.operand) ls ks

pub makes_none : (before : List Part) (x : Expr ℕ) → Makes before before x x
makes_none before x = ([], sym (append-nil before), λ ws rest. refl)

pub makes_on : (a b c : List Part) (x y z : Expr ℕ) → Makes a b x y → Makes b c y z → Makes a c x z
makes_on a b c x y z first second = (
  first.0 ++ second.0,
  second.1 ∙ ap (λ ps. ps ++ second.0) first.1 ∙ append_assoc a first.0 second.0,
  λ ws rest. ap (row_tree x ws) (append_assoc first.0 second.0 rest) ∙ first.2 ws (second.0 ++ rest) ∙ second.2 ws rest,
)

pub makes_group : (a b : List Part) (e : Expr ℕ) → b ≡ a ++ part.Group ∷ [] → Makes a b e (Group e)
makes_group a b e h = (part.Group ∷ [], h, λ ws rest. refl)

pub makes_negative : (a b : List Part) (e : Expr ℕ) → b ≡ a ++ part.Negate ∷ [] → Makes a b e (Negative e)
makes_negative a b e h = (part.Negate ∷ [], h, λ ws rest. refl)

pub makes_join : (a b : List Part) (o : Operator) (one : Operand) (e : Expr ℕ) → operand_tree one ≡ e → b ≡ a ++ part.Join o one ∷ [] → MakesChain a b (record { operator = o; operand = e } ∷ [])
makes_join a b o one e is h x = (part.Join o one ∷ [], h, λ ws rest. ap (λ y. row_tree (Binary o x y) ws rest) is)

-- a right side, from its `Open` to its `Close`
pub makes_right_side : (a b c d : List Part) (o : Operator) (first : Operand) (e : Expr ℕ) → operand_tree first ≡ leftmost e → b ≡ a ++ part.Open o first ∷ [] → MakesWhole b c e → d ≡ c ++ part.Close ∷ [] → MakesChain a d (record { operator = o; operand = e } ∷ [])
makes_right_side a b c d o first e begins opened whole closed x = (
  part.Open o first ∷ whole.0 ++ part.Close ∷ [],
  closed ∙ ap (λ ps. ps ++ part.Close ∷ []) (whole.1 ∙ ap (λ ps. ps ++ whole.0) opened ∙ append_assoc a (part.Open o first ∷ []) whole.0) ∙ append_assoc a (part.Open o first ∷ whole.0) (part.Close ∷ []),
  λ ws rest. ap (λ ps. row_tree (operand_tree first) ((o, x) ∷ ws) ps) (append_assoc whole.0 (part.Close ∷ []) rest) ∙ ap (λ y. row_tree y ((o, x) ∷ ws) (whole.0 ++ part.Close ∷ rest)) begins ∙ whole.2 ((o, x) ∷ ws) (part.Close ∷ rest),
)

pub makes_chain_on : (a b c : List Part) (ls ks : List (Link (Expr ℕ))) → MakesChain a b ls → MakesChain b c ks → MakesChain a c (ls ++ ks)
makes_chain_on a b c ls ks first second x =
    let P : Expr ℕ → Type 0 = λ y. Makes a c x y in
    subst P (sym (chain_on x ls ks)) (makes_on a b c x (chain_tree x ls) (chain_tree (chain_tree x ls) ks) (first x) (second (chain_tree x ls)))

pub makes_chain : (a b c : List Part) (e : Expr ℕ) (ls : List (Link (Expr ℕ))) → MakesWhole a b e → MakesChain b c ls → MakesWhole a c (chain_tree e ls)
makes_chain a b c e ls whole chain =
    let P : Expr ℕ → Type 0 = λ y. Makes a c y (chain_tree e ls) in
    subst P (sym (leftmost_chain e ls)) (makes_on a b c (leftmost e) e (chain_tree e ls) whole (chain e))

pub row_whole : (ps : List Part) (e : Expr ℕ) → MakesWhole [] ps e → row_tree (leftmost e) [] ps ≡ e
row_whole ps e h = ap (row_tree (leftmost e) []) (h.1 ∙ sym (append-nil h.0)) ∙ h.2 [] []

pub makes_next : (a b c : List Part) (ls : List (Link (Expression ℕ))) (i : ℕ) (l : Link (Expression ℕ)) → i < length ls → l ≡ get_or ls i l → MakesChain a b (link_trees (take i ls)) → MakesChain b c (record { operator = l.operator; operand = expression_tree l.operand } ∷ [])
    → MakesChain a c (link_trees (take (i + 1) ls))
makes_next a b c ls i l h is so_far next =
    let one : Link (Expr ℕ) = record { operator = l.operator; operand = expression_tree l.operand } in
    let tree : Link (Expression ℕ) → Link (Expr ℕ) = λ k. record { operator = k.operator; operand = expression_tree k.operand } in
    let e : link_trees (take (i + 1) ls) ≡ link_trees (take i ls) ++ one ∷ [] = ap link_trees (take_more ls i l h ∙ ap (λ k. take i ls ++ k ∷ []) (sym is)) ∙ map-append tree (take i ls) (l ∷ []) in
    subst (MakesChain a c) (sym e) (makes_chain_on a b c (link_trees (take i ls)) (one ∷ []) so_far next)

pub makes_all : (a b : List Part) (ls : List (Link (Expression ℕ))) (i : ℕ) → length ls ≤ i → MakesChain a b (link_trees (take i ls)) → MakesChain a b (link_trees ls)
makes_all a b ls i past h = subst (λ (ks : List (Link (Expression ℕ))). MakesChain a b (link_trees ks)) (take_all i ls past) h
