-- The method at a place of a program's tree is the tree of the method at that place.
use Rattle.std.proofs.Common.{◌≡◌, ℕ, ◌<◌, ◌≤◌, ◌≢◌, List, [], ◌∷◌, length, map, get_or, sym, ap, ◌∙◌, subst, arith}
use Rattle.std.proofs.lemmas.List.{get_or-map, length-map}
use Rattle.std.proofs.lemmas.List.Elements.{All-get_or, All-from_recursion}
use Rattle.aml_tree.specs.declared.trees.Method.{Method}
use Rattle.aml_tree.specs.declared.trees.Program.{Program}
use Rattle.aml_tree.specs.Tree.{CheckedMethod, method_tree, program_tree}
use Rattle.aml_check.specs.Names.{method_at, no_method}
use Rattle.aml_check.specs.Closed.{IsClosedMethod, IsClosedProgram}

method_at-map : (ms : List (Method ℕ ℕ)) (k : ℕ) (d : Method ℕ ℕ) → k < length ms → method_at (map method_tree ms) k ≡ method_tree (get_or ms k d)
method_at-map ms k d h = get_or-map method_tree ms k d no_method h

closed_at : (p : List CheckedMethod) (k : ℕ) → IsClosedProgram p → k < length p → IsClosedMethod p (method_at p k)
closed_at p k closed h = All-get_or (IsClosedMethod p) p k no_method h (All-from_recursion (IsClosedMethod p) p closed.methods)

pub parameters_fit : (p : Program ℕ ℕ) (k : ℕ) (d : Method ℕ ℕ) → IsClosedProgram (program_tree p) → k < length (program_tree p) → length (get_or p.methods k d).parameters ≤ 8
parameters_fit p k d closed h =
    let inside : k < length p.methods = omega (arith, length-map p.methods (method_tree {V = ℕ} {M = ℕ})) in
    let P : CheckedMethod → Type 0 = λ t. length t.parameters ≤ 8 in
    subst P (method_at-map p.methods k d inside) (closed_at (program_tree p) k closed h).parameters

-- a list with a place has an element
some_method : (ms : List (Method ℕ ℕ)) (k : ℕ) → k < length ms → Method ℕ ℕ
some_method [] k h = absurd (omega arith)
some_method (m ∷ ms) k h = m

pub named_here : (p : Program ℕ ℕ) (k : ℕ) (name : List ℕ) → k < length p.methods → ((m : Method ℕ ℕ) → (get_or p.methods k m).name.name ≡ name) → (k < length (program_tree p)) × ((method_at (program_tree p) k).name.name ≡ name)
named_here p k name h is =
    let d = some_method p.methods k h in
    (omega (arith, length-map p.methods (method_tree {V = ℕ} {M = ℕ})), ap (λ (t : CheckedMethod). t.name.name) (method_at-map p.methods k d h) ∙ is d)

pub named_nowhere : (p : Program ℕ ℕ) (name : List ℕ) → ((k : ℕ) (m : Method ℕ ℕ) → k < length p.methods → (get_or p.methods k m).name.name ≢ name) → (k : ℕ) → k < length (program_tree p) → (method_at (program_tree p) k).name.name ≢ name
named_nowhere p name none k h e =
    let inside : k < length p.methods = omega (arith, length-map p.methods (method_tree {V = ℕ} {M = ℕ})) in
    let d = some_method p.methods k inside in
    none k d inside (sym (ap (λ (t : CheckedMethod). t.name.name) (method_at-map p.methods k d inside)) ∙ e)
