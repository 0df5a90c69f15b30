-- Chains of the code, by their last link.
use Rattle.std.proofs.Common.{◌≡◌, ℕ, ◌+◌, ◌<◌, length, map, arith, List, [], ◌∷◌, ◌++◌, refl, ap, ◌∙◌}
use Rattle.aml_tree.specs.declared.trees.Link.{Link}
use Rattle.std.proofs.lemmas.List.{map_push}
use Rattle.aml_tokens.specs.declared.tokens.Word.{Word}
use Rattle.aml_tree.specs.declared.trees.Expression.{Expression, fold-Expression}
use Rattle.aml_tree.specs.declared.trees.Expression.TheOpen.{Expression-F}
use Rattle.aml_tree.specs.Tree.{Expr, Binary, chain_tree, link_trees, expression_tree}

pub chain_last : {V : Type 0} (ls : List (Link (Expr V))) (e : Expr V) (l : Link (Expr V)) → chain_tree e (ls ++ l ∷ []) ≡ Binary l.operator (chain_tree e ls) l.operand
chain_last [] e l = refl
chain_last (k ∷ ls) e l = chain_last ls (Binary k.operator e k.operand) l

-- how many chains and links a value of the code has
abbrev links_weight : List (Link ℕ) → ℕ
links_weight [] = 0
links_weight (l ∷ ls) = l.operand + 1 + links_weight ls

abbrev weight_step : {V : Type 0} → Expression-F V ℕ → ℕ
weight_step (Expression-F.Number n) = 0
weight_step (Expression-F.Variable v) = 0
weight_step (Expression-F.Field k line) = 0
weight_step Expression-F.Own = 0
weight_step (Expression-F.Group e) = 0
weight_step (Expression-F.Negative e) = 0
weight_step (Expression-F.Chain first rest) = first.value + links_weight rest.items + 1

abbrev pub weight : {V : Type 0} → Expression V → ℕ
weight {V} = fold-Expression V ℕ weight_step

abbrev pub weights : {V : Type 0} → List (Link (Expression V)) → ℕ
weights ls = links_weight (map (λ l. record { operator = l.operator; operand = weight l.operand }) ls)

pub weights_apart : (old new : List (Link (Expression Word))) (l : Link (Expression Word)) → old ≡ new ++ l ∷ [] → weights old ≡ weights new + weight l.operand + 1
weights_apart old new l same = ap weights same ∙ pushed new
  where
    pushed : (ls : List (Link (Expression Word))) → weights (ls ++ l ∷ []) ≡ weights ls + weight l.operand + 1
    pushed [] = omega arith
    pushed (k ∷ ls) = let more = pushed ls in omega (arith, more)

pub chain_apart : (e : Expr Word) (old new : List (Link (Expression Word))) (l : Link (Expression Word)) → old ≡ new ++ l ∷ [] → chain_tree e (link_trees old) ≡ Binary l.operator (chain_tree e (link_trees new)) (expression_tree l.operand)
chain_apart e old new l same =
    ap (λ (ls : List (Link (Expression Word))). chain_tree e (link_trees ls)) same
    ∙ ap (chain_tree e) (map_push (λ (l : Link (Expression Word)). record { operator = l.operator; operand = expression_tree l.operand }) new l)
    ∙ chain_last (link_trees new) e (record { operator = l.operator; operand = expression_tree l.operand })

pub chain_none : (e : Expr Word) (old : List (Link (Expression Word))) → old ≡ [] → chain_tree e (link_trees old) ≡ e
chain_none e old same = ap (λ (ls : List (Link (Expression Word))). chain_tree e (link_trees ls)) same

pub no_items : {X : Type 0} (xs : List X) → (0 < length xs → ⊥) → xs ≡ []
no_items [] none = refl
no_items (x ∷ xs) none = absurd (none (omega arith))
