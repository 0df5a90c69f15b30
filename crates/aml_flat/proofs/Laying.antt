-- What operations say stays said once more of them follow, and is read back from one of them.
use Rattle.std.proofs.Common.{◌≡◌, ℕ, zero, suc, ◌+◌, ◌≤◌, ◌<◌, Option, Some, None, List, [], ◌∷◌, ◌++◌, length, map, take, get_or, refl, sym, ap, ◌∙◌, subst, arith, append_assoc, length-append, min, ◌⊎◌, inl, inr}
use Rattle.std.specs.List.{slice_get}
use Rattle.std.proofs.lemmas.Option.{slice_get_cases}
use Rattle.std.proofs.lemmas.List.{take_more, length-take, map-append, length-map, append-nil}
use Rattle.aml_tree.specs.declared.trees.Statement.{Statement}
use Rattle.aml_tree.specs.declared.trees.Statement.TheOpen.{Statement-F}
use Rattle.aml_tree.specs.TreeRules.{layer}
use Rattle.aml_tree.specs.declared.trees.Method.{Method}
use Rattle.aml_tree.specs.Tree.{block_tree, method_tree, statement_step, statement_tree, statements_tree, statements_onto, Expr, Code, End, Let, Call, Set, SetField, If, IfElse, While, Fail, Return, Onto, CheckedMethod}
use Rattle.aml_flat.specs.declared.operations.BlockPlace.{BlockPlace}
use Rattle.aml_flat.specs.declared.operations.FlatExpression.{FlatExpression}
use Rattle.aml_flat.specs.declared.operations.Operation.{Operation}
use Rattle.aml_flat.specs.declared.operations.Operation.TheVariants as op
use Rattle.aml_flat.specs.Flat.{count_of, flat_tree, LiesAt, Says, Lies, Extends, SaysStatement, SayStatements, AllLie}

-- ---- an operation is there

says_none : (ops : List Operation) (from at : ℕ) (b : Code ℕ ℕ) → Says ops from at b None → ⊥
says_none ops from at (End line) h = h
says_none ops from at (Let line v value rest) h = h
says_none ops from at (Call line v target m arguments rest) h = h
says_none ops from at (Set v value rest) h = h
says_none ops from at (SetField line k value rest) h = h
says_none ops from at (If condition first rest) h = h
says_none ops from at (IfElse condition first other rest) h = h
says_none ops from at (While condition body rest) h = h
says_none ops from at (Fail code rest) h = h
says_none ops from at (Return value rest) h = h

pub record Found (ops : List Operation) (from : ℕ) : Type 0 where
  pub operation : Operation
  pub within : from < length ops
  pub is : slice_get ops from ≡ Some operation

found_by : (ops : List Operation) (from at : ℕ) (b : Code ℕ ℕ) → Lies ops from at b → ((x : Operation) × (from < length ops) × (slice_get ops from ≡ Some x) × (get_or ops from x ≡ x)) ⊎ ((length ops ≤ from) × (slice_get ops from ≡ None)) → Found ops from
found_by ops from at b h (inl x) = record { operation = x.0; within = x.1; is = x.2 }
found_by ops from at b h (inr none) = absurd (says_none ops from at b (let P : Option Operation → Type 0 = λ o. Says ops from at b o in subst P none.1 h))

pub found : (ops : List Operation) (from at : ℕ) (b : Code ℕ ℕ) → Lies ops from at b → Found ops from
found ops from at b h = found_by ops from at b h (slice_get_cases ops from).1

-- ---- more operations

get_longer : (xs ys : List Operation) (i : ℕ) → i < length xs → slice_get (xs ++ ys) i ≡ slice_get xs i
get_longer [] ys i h = absurd (omega (arith, h))
get_longer (x ∷ xs) ys zero h = refl
get_longer (x ∷ xs) ys (suc i) h = get_longer xs ys i (omega (arith, h))

moved : (ops more : List Operation) (from at : ℕ) (b : Code ℕ ℕ) → Lies ops from at b → Says (ops ++ more) from at b (slice_get ops from) → Lies (ops ++ more) from at b
moved ops more from at b h longer = let P : Option Operation → Type 0 = λ o. Says (ops ++ more) from at b o in subst P (sym (get_longer ops more from (found ops from at b h).within)) longer

says_longer : (ops more : List Operation) (from at : ℕ) (b : Code ℕ ℕ) (o : Option Operation) → Says ops from at b o → Says (ops ++ more) from at b o
says_longer ops more from at (End line) None h = absurd h
says_longer ops more from at (End line) (Some op.End) h = tt
says_longer ops more from at (End line) (Some (op.Let e)) h = absurd h
says_longer ops more from at (End line) (Some (op.Call place e method es)) h = absurd h
says_longer ops more from at (End line) (Some (op.Set variable e)) h = absurd h
says_longer ops more from at (End line) (Some (op.SetField field e)) h = absurd h
says_longer ops more from at (End line) (Some (op.If place e to)) h = absurd h
says_longer ops more from at (End line) (Some (op.IfElse place e to otherwise)) h = absurd h
says_longer ops more from at (End line) (Some (op.While place e to)) h = absurd h
says_longer ops more from at (End line) (Some (op.Fail c)) h = absurd h
says_longer ops more from at (End line) (Some (op.Return e)) h = absurd h
says_longer ops more from at (Let line v value rest) None h = absurd h
says_longer ops more from at (Let line v value rest) (Some op.End) h = absurd h
says_longer ops more from at (Let line v value rest) (Some (op.Let e)) h = (h.0, moved ops more (from + 1) (at + 1) rest h.1 (says_longer ops more (from + 1) (at + 1) rest (slice_get ops (from + 1)) h.1))
says_longer ops more from at (Let line v value rest) (Some (op.Call place e method es)) h = absurd h
says_longer ops more from at (Let line v value rest) (Some (op.Set variable e)) h = absurd h
says_longer ops more from at (Let line v value rest) (Some (op.SetField field e)) h = absurd h
says_longer ops more from at (Let line v value rest) (Some (op.If place e to)) h = absurd h
says_longer ops more from at (Let line v value rest) (Some (op.IfElse place e to otherwise)) h = absurd h
says_longer ops more from at (Let line v value rest) (Some (op.While place e to)) h = absurd h
says_longer ops more from at (Let line v value rest) (Some (op.Fail c)) h = absurd h
says_longer ops more from at (Let line v value rest) (Some (op.Return e)) h = absurd h
says_longer ops more from at (Call line v target m arguments rest) None h = absurd h
says_longer ops more from at (Call line v target m arguments rest) (Some op.End) h = absurd h
says_longer ops more from at (Call line v target m arguments rest) (Some (op.Let e)) h = absurd h
says_longer ops more from at (Call line v target m arguments rest) (Some (op.Call place e method es)) h = (h.0, h.1, h.2, h.3, moved ops more (from + 1) (at + 1) rest h.4 (says_longer ops more (from + 1) (at + 1) rest (slice_get ops (from + 1)) h.4))
says_longer ops more from at (Call line v target m arguments rest) (Some (op.Set variable e)) h = absurd h
says_longer ops more from at (Call line v target m arguments rest) (Some (op.SetField field e)) h = absurd h
says_longer ops more from at (Call line v target m arguments rest) (Some (op.If place e to)) h = absurd h
says_longer ops more from at (Call line v target m arguments rest) (Some (op.IfElse place e to otherwise)) h = absurd h
says_longer ops more from at (Call line v target m arguments rest) (Some (op.While place e to)) h = absurd h
says_longer ops more from at (Call line v target m arguments rest) (Some (op.Fail c)) h = absurd h
says_longer ops more from at (Call line v target m arguments rest) (Some (op.Return e)) h = absurd h
says_longer ops more from at (Set v value rest) None h = absurd h
says_longer ops more from at (Set v value rest) (Some op.End) h = absurd h
says_longer ops more from at (Set v value rest) (Some (op.Let e)) h = absurd h
says_longer ops more from at (Set v value rest) (Some (op.Call place e method es)) h = absurd h
says_longer ops more from at (Set v value rest) (Some (op.Set variable e)) h = (h.0, h.1, moved ops more (from + 1) (at + 1) rest h.2 (says_longer ops more (from + 1) (at + 1) rest (slice_get ops (from + 1)) h.2))
says_longer ops more from at (Set v value rest) (Some (op.SetField field e)) h = absurd h
says_longer ops more from at (Set v value rest) (Some (op.If place e to)) h = absurd h
says_longer ops more from at (Set v value rest) (Some (op.IfElse place e to otherwise)) h = absurd h
says_longer ops more from at (Set v value rest) (Some (op.While place e to)) h = absurd h
says_longer ops more from at (Set v value rest) (Some (op.Fail c)) h = absurd h
says_longer ops more from at (Set v value rest) (Some (op.Return e)) h = absurd h
says_longer ops more from at (SetField line k value rest) None h = absurd h
says_longer ops more from at (SetField line k value rest) (Some op.End) h = absurd h
says_longer ops more from at (SetField line k value rest) (Some (op.Let e)) h = absurd h
says_longer ops more from at (SetField line k value rest) (Some (op.Call place e method es)) h = absurd h
says_longer ops more from at (SetField line k value rest) (Some (op.Set variable e)) h = absurd h
says_longer ops more from at (SetField line k value rest) (Some (op.SetField field e)) h = (h.0, h.1, moved ops more (from + 1) (at + 1) rest h.2 (says_longer ops more (from + 1) (at + 1) rest (slice_get ops (from + 1)) h.2))
says_longer ops more from at (SetField line k value rest) (Some (op.If place e to)) h = absurd h
says_longer ops more from at (SetField line k value rest) (Some (op.IfElse place e to otherwise)) h = absurd h
says_longer ops more from at (SetField line k value rest) (Some (op.While place e to)) h = absurd h
says_longer ops more from at (SetField line k value rest) (Some (op.Fail c)) h = absurd h
says_longer ops more from at (SetField line k value rest) (Some (op.Return e)) h = absurd h
says_longer ops more from at (If condition first rest) None h = absurd h
says_longer ops more from at (If condition first rest) (Some op.End) h = absurd h
says_longer ops more from at (If condition first rest) (Some (op.Let e)) h = absurd h
says_longer ops more from at (If condition first rest) (Some (op.Call place e method es)) h = absurd h
says_longer ops more from at (If condition first rest) (Some (op.Set variable e)) h = absurd h
says_longer ops more from at (If condition first rest) (Some (op.SetField field e)) h = absurd h
says_longer ops more from at (If condition first rest) (Some (op.If place e to)) h = (h.0, h.1, (h.2.0, moved ops more to.first 0 first h.2.1 (says_longer ops more to.first 0 first (slice_get ops to.first) h.2.1)), moved ops more (from + 1) (at + 1) rest h.3 (says_longer ops more (from + 1) (at + 1) rest (slice_get ops (from + 1)) h.3))
says_longer ops more from at (If condition first rest) (Some (op.IfElse place e to otherwise)) h = absurd h
says_longer ops more from at (If condition first rest) (Some (op.While place e to)) h = absurd h
says_longer ops more from at (If condition first rest) (Some (op.Fail c)) h = absurd h
says_longer ops more from at (If condition first rest) (Some (op.Return e)) h = absurd h
says_longer ops more from at (IfElse condition first other rest) None h = absurd h
says_longer ops more from at (IfElse condition first other rest) (Some op.End) h = absurd h
says_longer ops more from at (IfElse condition first other rest) (Some (op.Let e)) h = absurd h
says_longer ops more from at (IfElse condition first other rest) (Some (op.Call place e method es)) h = absurd h
says_longer ops more from at (IfElse condition first other rest) (Some (op.Set variable e)) h = absurd h
says_longer ops more from at (IfElse condition first other rest) (Some (op.SetField field e)) h = absurd h
says_longer ops more from at (IfElse condition first other rest) (Some (op.If place e to)) h = absurd h
says_longer ops more from at (IfElse condition first other rest) (Some (op.IfElse place e to otherwise)) h = (h.0, h.1, (h.2.0, moved ops more to.first 0 first h.2.1 (says_longer ops more to.first 0 first (slice_get ops to.first) h.2.1)), (h.3.0, moved ops more otherwise.first 0 other h.3.1 (says_longer ops more otherwise.first 0 other (slice_get ops otherwise.first) h.3.1)), moved ops more (from + 1) (at + 1) rest h.4 (says_longer ops more (from + 1) (at + 1) rest (slice_get ops (from + 1)) h.4))
says_longer ops more from at (IfElse condition first other rest) (Some (op.While place e to)) h = absurd h
says_longer ops more from at (IfElse condition first other rest) (Some (op.Fail c)) h = absurd h
says_longer ops more from at (IfElse condition first other rest) (Some (op.Return e)) h = absurd h
says_longer ops more from at (While condition body rest) None h = absurd h
says_longer ops more from at (While condition body rest) (Some op.End) h = absurd h
says_longer ops more from at (While condition body rest) (Some (op.Let e)) h = absurd h
says_longer ops more from at (While condition body rest) (Some (op.Call place e method es)) h = absurd h
says_longer ops more from at (While condition body rest) (Some (op.Set variable e)) h = absurd h
says_longer ops more from at (While condition body rest) (Some (op.SetField field e)) h = absurd h
says_longer ops more from at (While condition body rest) (Some (op.If place e to)) h = absurd h
says_longer ops more from at (While condition body rest) (Some (op.IfElse place e to otherwise)) h = absurd h
says_longer ops more from at (While condition body rest) (Some (op.While place e to)) h = (h.0, h.1, (h.2.0, moved ops more to.first 0 body h.2.1 (says_longer ops more to.first 0 body (slice_get ops to.first) h.2.1)), moved ops more (from + 1) (at + 1) rest h.3 (says_longer ops more (from + 1) (at + 1) rest (slice_get ops (from + 1)) h.3))
says_longer ops more from at (While condition body rest) (Some (op.Fail c)) h = absurd h
says_longer ops more from at (While condition body rest) (Some (op.Return e)) h = absurd h
says_longer ops more from at (Fail code rest) None h = absurd h
says_longer ops more from at (Fail code rest) (Some op.End) h = absurd h
says_longer ops more from at (Fail code rest) (Some (op.Let e)) h = absurd h
says_longer ops more from at (Fail code rest) (Some (op.Call place e method es)) h = absurd h
says_longer ops more from at (Fail code rest) (Some (op.Set variable e)) h = absurd h
says_longer ops more from at (Fail code rest) (Some (op.SetField field e)) h = absurd h
says_longer ops more from at (Fail code rest) (Some (op.If place e to)) h = absurd h
says_longer ops more from at (Fail code rest) (Some (op.IfElse place e to otherwise)) h = absurd h
says_longer ops more from at (Fail code rest) (Some (op.While place e to)) h = absurd h
says_longer ops more from at (Fail code rest) (Some (op.Fail c)) h = (h.0, moved ops more (from + 1) (at + 1) rest h.1 (says_longer ops more (from + 1) (at + 1) rest (slice_get ops (from + 1)) h.1))
says_longer ops more from at (Fail code rest) (Some (op.Return e)) h = absurd h
says_longer ops more from at (Return value rest) None h = absurd h
says_longer ops more from at (Return value rest) (Some op.End) h = absurd h
says_longer ops more from at (Return value rest) (Some (op.Let e)) h = absurd h
says_longer ops more from at (Return value rest) (Some (op.Call place e method es)) h = absurd h
says_longer ops more from at (Return value rest) (Some (op.Set variable e)) h = absurd h
says_longer ops more from at (Return value rest) (Some (op.SetField field e)) h = absurd h
says_longer ops more from at (Return value rest) (Some (op.If place e to)) h = absurd h
says_longer ops more from at (Return value rest) (Some (op.IfElse place e to otherwise)) h = absurd h
says_longer ops more from at (Return value rest) (Some (op.While place e to)) h = absurd h
says_longer ops more from at (Return value rest) (Some (op.Fail c)) h = absurd h
says_longer ops more from at (Return value rest) (Some (op.Return e)) h = (h.0, moved ops more (from + 1) (at + 1) rest h.1 (says_longer ops more (from + 1) (at + 1) rest (slice_get ops (from + 1)) h.1))

pub lies_longer : (ops more : List Operation) (from at : ℕ) (b : Code ℕ ℕ) → Lies ops from at b → Lies (ops ++ more) from at b
lies_longer ops more from at b h = moved ops more from at b h (says_longer ops more from at b (slice_get ops from) h)

pub lies_extended : (ops longer : List Operation) (from at : ℕ) (b : Code ℕ ℕ) → Extends ops longer → Lies ops from at b → Lies longer from at b
lies_extended ops longer from at b e h = let P : List Operation → Type 0 = λ os. Lies os from at b in subst P (sym e.1) (lies_longer ops e.0 from at b h)

pub extends_self : (ops : List Operation) → Extends ops ops
extends_self ops = ([], sym (append-nil ops))

pub extends_on : (a b c : List Operation) → Extends a b → Extends b c → Extends a c
extends_on a b c x y = (x.0 ++ y.0, y.1 ∙ ap (λ os. os ++ y.0) x.1 ∙ append_assoc a x.0 y.0)

pub statement_longer : (ops longer : List Operation) (at : ℕ) (o : Operation) (s : Onto ℕ ℕ) → Extends ops longer → SaysStatement ops at o s → SaysStatement longer at o s
statement_longer ops longer at o s e h more from rest lies =
    let same : longer ++ more ≡ ops ++ (e.0 ++ more) = ap (λ os. os ++ more) e.1 ∙ append_assoc ops e.0 more in
    let P : List Operation → Type 0 = λ os. Lies os (from + 1) (at + 1) rest in
    let Q : List Operation → Type 0 = λ os. Says os from at (s rest) (Some o) in
    subst Q (sym same) (h (e.0 ++ more) from rest (subst P same lies))

pub statements_longer : (ops longer : List Operation) (at : ℕ) (os : List Operation) (ss : List (Onto ℕ ℕ)) → Extends ops longer → SayStatements ops at os ss → SayStatements longer at os ss
statements_longer ops longer at [] [] e h = tt
statements_longer ops longer at [] (s ∷ ss) e h = absurd h
statements_longer ops longer at (o ∷ os) [] e h = absurd h
statements_longer ops longer at (o ∷ os) (s ∷ ss) e h = (statement_longer ops longer at o s e h.0, statements_longer ops longer (at + 1) os ss e h.1)

says_length : (ops : List Operation) (at : ℕ) (os : List Operation) (ss : List (Onto ℕ ℕ)) → SayStatements ops at os ss → length os ≡ length ss
says_length ops at [] [] h = refl
says_length ops at [] (s ∷ ss) h = absurd h
says_length ops at (o ∷ os) [] h = absurd h
says_length ops at (o ∷ os) (s ∷ ss) h = ap suc (says_length ops (at + 1) os ss h.1)

statements_more : (ops : List Operation) (at n : ℕ) (os : List Operation) (ss : List (Onto ℕ ℕ)) (o : Operation) (s : Onto ℕ ℕ) → n ≡ at + length os → SayStatements ops at os ss → SaysStatement ops n o s → SayStatements ops at (os ++ o ∷ []) (ss ++ s ∷ [])
statements_more ops at n [] [] o s is h one = let P : ℕ → Type 0 = λ i. SaysStatement ops i o s in (subst P (let e : n ≡ at = omega (arith, is) in e) one, tt)
statements_more ops at n [] (t ∷ ss) o s is h one = absurd h
statements_more ops at n (p ∷ os) [] o s is h one = absurd h
statements_more ops at n (p ∷ os) (t ∷ ss) o s is h one = (h.0, statements_more ops (at + 1) n os ss o s (omega (arith, is)) h.1 one)

-- ---- a block

get_at : (xs ys : List Operation) (x : Operation) → slice_get (xs ++ x ∷ ys) (length xs) ≡ Some x
get_at [] ys x = refl
get_at (z ∷ xs) ys x = get_at xs ys x

abbrev ended : List Operation → List Operation
ended os = os ++ op.End ∷ []

lies_all : (ops before os : List Operation) (from at line : ℕ) (ss : List (Onto ℕ ℕ)) → from ≡ length (ops ++ before) → SayStatements ops at os ss → Lies (ops ++ (before ++ ended os)) from at (statements_onto ss (End line))
lies_all ops before [] from at line [] here h =
    let all : List Operation = ops ++ (before ++ ended []) in
    let get : slice_get all from ≡ Some op.End = ap (λ xs. slice_get xs from) (sym (append_assoc ops before (ended []))) ∙ ap (slice_get ((ops ++ before) ++ ended [])) here ∙ get_at (ops ++ before) [] op.End in
    let P : Option Operation → Type 0 = λ o. Says all from at (End line) o in
    subst P (sym get) tt
lies_all ops before [] from at line (s ∷ ss) here h = absurd h
lies_all ops before (o ∷ os) from at line [] here h = absurd h
lies_all ops before (o ∷ os) from at line (s ∷ ss) here h =
    let all : List Operation = ops ++ (before ++ (o ∷ ended os)) in
    let rest : Code ℕ ℕ = statements_onto ss (End line) in
    let same : ops ++ ((before ++ o ∷ []) ++ ended os) ≡ all = ap (λ xs. ops ++ xs) (append_assoc before (o ∷ []) (ended os)) in
    let one : length (ops ++ (before ++ o ∷ [])) ≡ length (ops ++ before) + 1 = simp length-append (omega arith) in
    let L : List Operation → Type 0 = λ xs. Lies xs (from + 1) (at + 1) rest in
    let on : Lies all (from + 1) (at + 1) rest = subst L same (lies_all ops (before ++ o ∷ []) os (from + 1) (at + 1) line ss (let e : from + 1 ≡ length (ops ++ (before ++ o ∷ [])) = omega (arith, one, here) in e) h.1) in
    let get : slice_get all from ≡ Some o = ap (λ xs. slice_get xs from) (sym (append_assoc ops before (o ∷ ended os))) ∙ ap (slice_get ((ops ++ before) ++ (o ∷ ended os))) here ∙ get_at (ops ++ before) (ended os) o in
    let P : Option Operation → Type 0 = λ x. Says all from at (s rest) x in
    subst P (sym get) (h.0 (before ++ (o ∷ ended os)) from rest on)

pub block_lies : (ops longer os : List Operation) (from line : ℕ) (ss : List (Onto ℕ ℕ)) → from ≡ length ops → longer ≡ ops ++ (os ++ op.End ∷ []) → SayStatements ops 0 os ss → Lies longer from 0 (statements_onto ss (End line))
block_lies ops longer os from line ss here is h =
    let P : List Operation → Type 0 = λ xs. Lies xs from 0 (statements_onto ss (End line)) in
    subst P (sym is) (lies_all ops [] os from 0 line ss (here ∙ ap length (sym (append-nil ops))) h)

pub next_says : (ops longer row next : List Operation) (o : Operation) (ss : List (Statement ℕ ℕ)) (i : ℕ) (s : Statement ℕ ℕ) → i < length ss → s ≡ get_or ss i s → Extends ops longer → SayStatements ops 0 row (map statement_tree (take i ss)) → SaysStatement longer i o (statement_tree s) → next ≡ row ++ o ∷ []
    → SayStatements longer 0 next (map statement_tree (take (i + 1) ss))
next_says ops longer row next o ss i s h is e so_far one new =
    let some : length row ≡ i = says_length ops 0 row (map statement_tree (take i ss)) so_far ∙ length-map (take i ss) statement_tree ∙ length-take i ss ∙ (let m : min i (length ss) ≡ i = omega (arith, h) in m) in
    let both : take (i + 1) ss ≡ take i ss ++ s ∷ [] = take_more ss i s h ∙ ap (λ t. take i ss ++ t ∷ []) (sym is) in
    let trees : map statement_tree (take (i + 1) ss) ≡ map statement_tree (take i ss) ++ statement_tree s ∷ [] = ap (map statement_tree) both ∙ map-append statement_tree (take i ss) (s ∷ []) in
    let P : List (Onto ℕ ℕ) → Type 0 = λ ts. SayStatements longer 0 next ts in
    let Q : List Operation → Type 0 = λ os. SayStatements longer 0 os (map statement_tree (take i ss) ++ statement_tree s ∷ []) in
    subst P (sym trees) (subst Q (sym new) (statements_more longer 0 i row (map statement_tree (take i ss)) o (statement_tree s) (let z : i ≡ 0 + length row = omega (arith, some) in z) (statements_longer ops longer 0 row (map statement_tree (take i ss)) e so_far) one))

-- ---- statements with inner blocks

at_longer : (ops more : List Operation) (q : BlockPlace) (b : Code ℕ ℕ) → LiesAt ops q b → LiesAt (ops ++ more) q b
at_longer ops more q b h = (h.0, lies_longer ops more q.first 0 b h.1)

pub at_extended : (ops longer : List Operation) (q : BlockPlace) (b : Code ℕ ℕ) → Extends ops longer → LiesAt ops q b → LiesAt longer q b
at_extended ops longer q b e h = (h.0, lies_extended ops longer q.first 0 b e h.1)

pub says_if : (ops : List Operation) (at : ℕ) (to : BlockPlace) (e : FlatExpression) (c : Expr ℕ) (first : Code ℕ ℕ) → flat_tree e ≡ c → LiesAt ops to first → SaysStatement ops at (op.If at e to) (If c first)
says_if ops at to e c first is h more from rest lies = (refl, is, at_longer ops more to first h, lies)

pub says_if_else : (ops : List Operation) (at : ℕ) (to otherwise : BlockPlace) (e : FlatExpression) (c : Expr ℕ) (first other : Code ℕ ℕ) → flat_tree e ≡ c → LiesAt ops to first → LiesAt ops otherwise other → SaysStatement ops at (op.IfElse at e to otherwise) (IfElse c first other)
says_if_else ops at to otherwise e c first other is h k more from rest lies = (refl, is, at_longer ops more to first h, at_longer ops more otherwise other k, lies)

pub says_while : (ops : List Operation) (at : ℕ) (to : BlockPlace) (e : FlatExpression) (c : Expr ℕ) (body : Code ℕ ℕ) → flat_tree e ≡ c → LiesAt ops to body → SaysStatement ops at (op.While at e to) (While c body)
says_while ops at to e c body is h more from rest lies = (refl, is, at_longer ops more to body h, lies)

count_step : (x : Statement-F ℕ ℕ (Onto ℕ ℕ)) (rest : Code ℕ ℕ) → count_of (statement_step x rest) ≡ 1 + count_of rest
count_step (Statement-F.Let line v value) rest = refl
count_step (Statement-F.Call line v target m arguments) rest = refl
count_step (Statement-F.Set v value) rest = refl
count_step (Statement-F.SetField line k value) rest = refl
count_step (Statement-F.If condition first) rest = refl
count_step (Statement-F.IfElse condition first other) rest = refl
count_step (Statement-F.While condition body) rest = refl
count_step (Statement-F.Fail code) rest = refl
count_step (Statement-F.Return value) rest = refl

pub counted_statements : (ss : List (Statement ℕ ℕ)) (line : ℕ) → length ss ≡ count_of (statements_tree ss (End line))
counted_statements [] line = refl
counted_statements (s ∷ ss) line =
    let l = layer s in
    let P : Onto ℕ ℕ → Type 0 = λ o. count_of (o (statements_tree ss (End line))) ≡ 1 + count_of (statements_tree ss (End line)) in
    let one = subst P (sym l.1) (count_step l.0 (statements_tree ss (End line))) in
    omega (arith, one, counted_statements ss line)

-- ---- methods

all_longer : (ops longer : List Operation) (qs : List BlockPlace) (ms : List CheckedMethod) → Extends ops longer → AllLie ops qs ms → AllLie longer qs ms
all_longer ops longer [] [] e h = tt
all_longer ops longer [] (m ∷ ms) e h = absurd h
all_longer ops longer (q ∷ qs) [] e h = absurd h
all_longer ops longer (q ∷ qs) (m ∷ ms) e h = (at_extended ops longer q m.body e h.0, all_longer ops longer qs ms e h.1)

all_more : (ops : List Operation) (qs : List BlockPlace) (ms : List CheckedMethod) (q : BlockPlace) (m : CheckedMethod) → AllLie ops qs ms → LiesAt ops q m.body → AllLie ops (qs ++ q ∷ []) (ms ++ m ∷ [])
all_more ops [] [] q m h one = (one, tt)
all_more ops [] (n ∷ ms) q m h one = absurd h
all_more ops (t ∷ qs) [] q m h one = absurd h
all_more ops (t ∷ qs) (n ∷ ms) q m h one = (h.0, all_more ops qs ms q m h.1 one)

pub next_lies : (ops longer : List Operation) (qs next : List BlockPlace) (q : BlockPlace) (ms : List (Method ℕ ℕ)) (i : ℕ) (m : Method ℕ ℕ) → i < length ms → m ≡ get_or ms i m → Extends ops longer → AllLie ops qs (map method_tree (take i ms)) → LiesAt longer q (block_tree m.body) → next ≡ qs ++ q ∷ []
    → AllLie longer next (map method_tree (take (i + 1) ms))
next_lies ops longer qs next q ms i m h is e so_far one new =
    let both : take (i + 1) ms ≡ take i ms ++ m ∷ [] = take_more ms i m h ∙ ap (λ t. take i ms ++ t ∷ []) (sym is) in
    let trees : map method_tree (take (i + 1) ms) ≡ map method_tree (take i ms) ++ method_tree m ∷ [] = ap (map method_tree) both ∙ map-append method_tree (take i ms) (m ∷ []) in
    let P : List CheckedMethod → Type 0 = λ ts. AllLie longer next ts in
    let Q : List BlockPlace → Type 0 = λ xs. AllLie longer xs (map method_tree (take i ms) ++ method_tree m ∷ []) in
    subst P (sym trees) (subst Q (sym new) (all_more longer qs (map method_tree (take i ms)) q (method_tree m) (all_longer ops longer qs (map method_tree (take i ms)) e so_far) one))

-- ---- read back

-- what an operation says of the block that begins with it
abbrev pub Told : List Operation → ℕ → ℕ → Code ℕ ℕ → Operation → Type 0
Told ops from at b op.End = (line : ℕ) × (b ≡ End line)
Told ops from at b (op.Let e) = (line v : ℕ) × (rest : Code ℕ ℕ) × (b ≡ Let line v (flat_tree e) rest) × Lies ops (from + 1) (at + 1) rest
Told ops from at b (op.Call place e method es) = (line v : ℕ) × (rest : Code ℕ ℕ) × (place ≡ at) × (b ≡ Call line v (flat_tree e) method (map flat_tree es.items) rest) × Lies ops (from + 1) (at + 1) rest
Told ops from at b (op.Set variable e) = (rest : Code ℕ ℕ) × (b ≡ Set variable (flat_tree e) rest) × Lies ops (from + 1) (at + 1) rest
Told ops from at b (op.SetField field e) = (line : ℕ) × (rest : Code ℕ ℕ) × (b ≡ SetField line field (flat_tree e) rest) × Lies ops (from + 1) (at + 1) rest
Told ops from at b (op.If place e to) = (first rest : Code ℕ ℕ) × (place ≡ at) × (b ≡ If (flat_tree e) first rest) × LiesAt ops to first × Lies ops (from + 1) (at + 1) rest
Told ops from at b (op.IfElse place e to otherwise) = (first other rest : Code ℕ ℕ) × (place ≡ at) × (b ≡ IfElse (flat_tree e) first other rest) × LiesAt ops to first × LiesAt ops otherwise other × Lies ops (from + 1) (at + 1) rest
Told ops from at b (op.While place e to) = (body rest : Code ℕ ℕ) × (place ≡ at) × (b ≡ While (flat_tree e) body rest) × LiesAt ops to body × Lies ops (from + 1) (at + 1) rest
Told ops from at b (op.Fail c) = (rest : Code ℕ ℕ) × (b ≡ Fail c rest) × Lies ops (from + 1) (at + 1) rest
Told ops from at b (op.Return e) = (rest : Code ℕ ℕ) × (b ≡ Return (flat_tree e) rest) × Lies ops (from + 1) (at + 1) rest

told_by : (ops : List Operation) (from at : ℕ) (b : Code ℕ ℕ) (o : Operation) → Says ops from at b (Some o) → Told ops from at b o
told_by ops from at (End line) op.End h = (line, refl)
told_by ops from at (End line) (op.Let e) h = absurd h
told_by ops from at (End line) (op.Call place e method es) h = absurd h
told_by ops from at (End line) (op.Set variable e) h = absurd h
told_by ops from at (End line) (op.SetField field e) h = absurd h
told_by ops from at (End line) (op.If place e to) h = absurd h
told_by ops from at (End line) (op.IfElse place e to otherwise) h = absurd h
told_by ops from at (End line) (op.While place e to) h = absurd h
told_by ops from at (End line) (op.Fail c) h = absurd h
told_by ops from at (End line) (op.Return e) h = absurd h
told_by ops from at (Let line v value rest) op.End h = absurd h
told_by ops from at (Let line v value rest) (op.Let e) h = (line, v, rest, ap (λ x. Let line v x rest) (sym h.0), h.1)
told_by ops from at (Let line v value rest) (op.Call place e method es) h = absurd h
told_by ops from at (Let line v value rest) (op.Set variable e) h = absurd h
told_by ops from at (Let line v value rest) (op.SetField field e) h = absurd h
told_by ops from at (Let line v value rest) (op.If place e to) h = absurd h
told_by ops from at (Let line v value rest) (op.IfElse place e to otherwise) h = absurd h
told_by ops from at (Let line v value rest) (op.While place e to) h = absurd h
told_by ops from at (Let line v value rest) (op.Fail c) h = absurd h
told_by ops from at (Let line v value rest) (op.Return e) h = absurd h
told_by ops from at (Call line v target m arguments rest) op.End h = absurd h
told_by ops from at (Call line v target m arguments rest) (op.Let e) h = absurd h
told_by ops from at (Call line v target m arguments rest) (op.Call place e method es) h = (line, v, rest, h.0, ap (λ x. Call line v x m arguments rest) (sym h.1) ∙ ap (λ x. Call line v (flat_tree e) x arguments rest) (sym h.2) ∙ ap (λ x. Call line v (flat_tree e) method x rest) (sym h.3), h.4)
told_by ops from at (Call line v target m arguments rest) (op.Set variable e) h = absurd h
told_by ops from at (Call line v target m arguments rest) (op.SetField field e) h = absurd h
told_by ops from at (Call line v target m arguments rest) (op.If place e to) h = absurd h
told_by ops from at (Call line v target m arguments rest) (op.IfElse place e to otherwise) h = absurd h
told_by ops from at (Call line v target m arguments rest) (op.While place e to) h = absurd h
told_by ops from at (Call line v target m arguments rest) (op.Fail c) h = absurd h
told_by ops from at (Call line v target m arguments rest) (op.Return e) h = absurd h
told_by ops from at (Set v value rest) op.End h = absurd h
told_by ops from at (Set v value rest) (op.Let e) h = absurd h
told_by ops from at (Set v value rest) (op.Call place e method es) h = absurd h
told_by ops from at (Set v value rest) (op.Set variable e) h = (rest, ap (λ x. Set x value rest) (sym h.0) ∙ ap (λ x. Set variable x rest) (sym h.1), h.2)
told_by ops from at (Set v value rest) (op.SetField field e) h = absurd h
told_by ops from at (Set v value rest) (op.If place e to) h = absurd h
told_by ops from at (Set v value rest) (op.IfElse place e to otherwise) h = absurd h
told_by ops from at (Set v value rest) (op.While place e to) h = absurd h
told_by ops from at (Set v value rest) (op.Fail c) h = absurd h
told_by ops from at (Set v value rest) (op.Return e) h = absurd h
told_by ops from at (SetField line k value rest) op.End h = absurd h
told_by ops from at (SetField line k value rest) (op.Let e) h = absurd h
told_by ops from at (SetField line k value rest) (op.Call place e method es) h = absurd h
told_by ops from at (SetField line k value rest) (op.Set variable e) h = absurd h
told_by ops from at (SetField line k value rest) (op.SetField field e) h = (line, rest, ap (λ x. SetField line x value rest) (sym h.0) ∙ ap (λ x. SetField line field x rest) (sym h.1), h.2)
told_by ops from at (SetField line k value rest) (op.If place e to) h = absurd h
told_by ops from at (SetField line k value rest) (op.IfElse place e to otherwise) h = absurd h
told_by ops from at (SetField line k value rest) (op.While place e to) h = absurd h
told_by ops from at (SetField line k value rest) (op.Fail c) h = absurd h
told_by ops from at (SetField line k value rest) (op.Return e) h = absurd h
told_by ops from at (If condition first rest) op.End h = absurd h
told_by ops from at (If condition first rest) (op.Let e) h = absurd h
told_by ops from at (If condition first rest) (op.Call place e method es) h = absurd h
told_by ops from at (If condition first rest) (op.Set variable e) h = absurd h
told_by ops from at (If condition first rest) (op.SetField field e) h = absurd h
told_by ops from at (If condition first rest) (op.If place e to) h = (first, rest, h.0, ap (λ x. If x first rest) (sym h.1), h.2, h.3)
told_by ops from at (If condition first rest) (op.IfElse place e to otherwise) h = absurd h
told_by ops from at (If condition first rest) (op.While place e to) h = absurd h
told_by ops from at (If condition first rest) (op.Fail c) h = absurd h
told_by ops from at (If condition first rest) (op.Return e) h = absurd h
told_by ops from at (IfElse condition first other rest) op.End h = absurd h
told_by ops from at (IfElse condition first other rest) (op.Let e) h = absurd h
told_by ops from at (IfElse condition first other rest) (op.Call place e method es) h = absurd h
told_by ops from at (IfElse condition first other rest) (op.Set variable e) h = absurd h
told_by ops from at (IfElse condition first other rest) (op.SetField field e) h = absurd h
told_by ops from at (IfElse condition first other rest) (op.If place e to) h = absurd h
told_by ops from at (IfElse condition first other rest) (op.IfElse place e to otherwise) h = (first, other, rest, h.0, ap (λ x. IfElse x first other rest) (sym h.1), h.2, h.3, h.4)
told_by ops from at (IfElse condition first other rest) (op.While place e to) h = absurd h
told_by ops from at (IfElse condition first other rest) (op.Fail c) h = absurd h
told_by ops from at (IfElse condition first other rest) (op.Return e) h = absurd h
told_by ops from at (While condition body rest) op.End h = absurd h
told_by ops from at (While condition body rest) (op.Let e) h = absurd h
told_by ops from at (While condition body rest) (op.Call place e method es) h = absurd h
told_by ops from at (While condition body rest) (op.Set variable e) h = absurd h
told_by ops from at (While condition body rest) (op.SetField field e) h = absurd h
told_by ops from at (While condition body rest) (op.If place e to) h = absurd h
told_by ops from at (While condition body rest) (op.IfElse place e to otherwise) h = absurd h
told_by ops from at (While condition body rest) (op.While place e to) h = (body, rest, h.0, ap (λ x. While x body rest) (sym h.1), h.2, h.3)
told_by ops from at (While condition body rest) (op.Fail c) h = absurd h
told_by ops from at (While condition body rest) (op.Return e) h = absurd h
told_by ops from at (Fail code rest) op.End h = absurd h
told_by ops from at (Fail code rest) (op.Let e) h = absurd h
told_by ops from at (Fail code rest) (op.Call place e method es) h = absurd h
told_by ops from at (Fail code rest) (op.Set variable e) h = absurd h
told_by ops from at (Fail code rest) (op.SetField field e) h = absurd h
told_by ops from at (Fail code rest) (op.If place e to) h = absurd h
told_by ops from at (Fail code rest) (op.IfElse place e to otherwise) h = absurd h
told_by ops from at (Fail code rest) (op.While place e to) h = absurd h
told_by ops from at (Fail code rest) (op.Fail c) h = (rest, ap (λ x. Fail x rest) (sym h.0), h.1)
told_by ops from at (Fail code rest) (op.Return e) h = absurd h
told_by ops from at (Return value rest) op.End h = absurd h
told_by ops from at (Return value rest) (op.Let e) h = absurd h
told_by ops from at (Return value rest) (op.Call place e method es) h = absurd h
told_by ops from at (Return value rest) (op.Set variable e) h = absurd h
told_by ops from at (Return value rest) (op.SetField field e) h = absurd h
told_by ops from at (Return value rest) (op.If place e to) h = absurd h
told_by ops from at (Return value rest) (op.IfElse place e to otherwise) h = absurd h
told_by ops from at (Return value rest) (op.While place e to) h = absurd h
told_by ops from at (Return value rest) (op.Fail c) h = absurd h
told_by ops from at (Return value rest) (op.Return e) h = (rest, ap (λ x. Return x rest) (sym h.0), h.1)

pub told : (ops : List Operation) (from at : ℕ) (b : Code ℕ ℕ) (o : Operation) → slice_get ops from ≡ Some o → Lies ops from at b → Told ops from at b o
told ops from at b o is h = let P : Option Operation → Type 0 = λ x. Says ops from at b x in told_by ops from at b o (subst P is h)
