-- What the parts of a row make of values is what the row's tree gives.
use Rattle.std.proofs.Common.{◌≡◌, ℕ, zero, suc, ◌+◌, ◌<◌, ℤ, Result, Ok, Err, Option, Some, None, List, [], ◌∷◌, ◌++◌, length, drop, get_or, map, refl, sym, ap, ◌∙◌, subst, arith, ◌⊎◌, inl, inr}
use Rattle.std.specs.List.{AllByRecursion}
use Rattle.std.proofs.lemmas.List.{drop_more}
use Rattle.snap_base.specs.declared.transactions.State.{State}
use Rattle.aml_tree.specs.declared.trees.Operator.{Operator}
use Rattle.aml_tree.specs.Tree.{Expr, Group, Negative, Binary}
use Rattle.aml_flat.specs.declared.operations.Operand.{Operand}
use Rattle.aml_flat.specs.declared.operations.Part.{Part}
use Rattle.aml_flat.specs.declared.operations.Part.TheVariants as part
use Rattle.aml_flat.specs.Flat.{Waiting, ended, operand_tree, row_tree}
use Rattle.aml_check.specs.Closed.{IsClosedExpression}
use Rattle.aml_check.specs.Meaning.{◌>>=◌, decided, unless_decided, joined, value_of}
use Rattle.aml_values.specs.Rows.{AreClosed, Becomes, EndsAs, Fails, IsClosedPart, IsOpen, Lefts, behind, made, negated, row_value, value_at_end}
use Rattle.aml_values.proofs.TwoValues.{decided_joined}

-- ---- the value of a row's tree

abbrev lefts : ℕ → List ℤ → State → Waiting → Lefts
lefts own vs s ws = map (λ (w : Operator × Expr ℕ). let l : Operator × Result ℤ ℕ = (w.0, value_of own vs s w.1) in l) ws

end_value : (own : ℕ) (vs : List ℤ) (s : State) (x : Expr ℕ) (ws : Waiting) → value_of own vs s (ended x ws) ≡ value_at_end (value_of own vs s x) (lefts own vs s ws)
end_value own vs s x [] = refl
end_value own vs s x (w ∷ ws) = end_value own vs s (Binary w.0 w.1 x) ws

tree_value : (own : ℕ) (vs : List ℤ) (s : State) (x : Expr ℕ) (ws : Waiting) (ps : List Part) → value_of own vs s (row_tree x ws ps) ≡ row_value own vs s (value_of own vs s x) (lefts own vs s ws) ps
tree_value own vs s x ws [] = end_value own vs s x ws
tree_value own vs s x ws (part.Join o a ∷ ps) = tree_value own vs s (Binary o x (operand_tree a)) ws ps
tree_value own vs s x ws (part.Open o a ∷ ps) = tree_value own vs s (operand_tree a) ((o, x) ∷ ws) ps
tree_value own vs s x [] (part.Close ∷ ps) = tree_value own vs s x [] ps
tree_value own vs s x (w ∷ ws) (part.Close ∷ ps) = tree_value own vs s (Binary w.0 w.1 x) ws ps
tree_value own vs s x ws (part.Negate ∷ ps) = tree_value own vs s (Negative x) ws ps
tree_value own vs s x ws (part.Group ∷ ps) = tree_value own vs s (Group x) ws ps

pub whole_value : (own : ℕ) (vs : List ℤ) (s : State) (x : Expr ℕ) (v : ℤ) (ps : List Part) → Ok v ≡ value_of own vs s x → row_value own vs s (Ok v) [] ps ≡ value_of own vs s (row_tree x [] ps)
whole_value own vs s x v ps is = ap (λ (r : Result ℤ ℕ). row_value own vs s r [] ps) is ∙ sym (tree_value own vs s x [] ps)

-- ---- a closed row

abbrev ClosedWaiting : ℕ → Waiting → Type 0
ClosedWaiting n ws = AllByRecursion (λ (w : Operator × Expr ℕ). IsClosedExpression n w.1) ws

end_closed : (n : ℕ) (x : Expr ℕ) (ws : Waiting) → IsClosedExpression n (ended x ws) → IsClosedExpression n x × ClosedWaiting n ws
end_closed n x [] h = (h, tt)
end_closed n x (w ∷ ws) h = let r = end_closed n (Binary w.0 w.1 x) ws h in (r.0.1, (r.0.0, r.1))

pub record IsClosedRow (n : ℕ) (x : Expr ℕ) (ws : Waiting) (ps : List Part) : Type 0 where
  pub first : IsClosedExpression n x
  pub waiting : ClosedWaiting n ws
  pub parts : AreClosed n ps

pub closed_row : (n : ℕ) (x : Expr ℕ) (ws : Waiting) (ps : List Part) → IsClosedExpression n (row_tree x ws ps) → IsClosedRow n x ws ps
closed_row n x ws [] h = let r = end_closed n x ws h in record { first = r.0; waiting = r.1; parts = tt }
closed_row n x ws (part.Join o a ∷ ps) h = let r = closed_row n (Binary o x (operand_tree a)) ws ps h in record { first = r.first.0; waiting = r.waiting; parts = (r.first.1, r.parts) }
closed_row n x ws (part.Open o a ∷ ps) h = let r = closed_row n (operand_tree a) ((o, x) ∷ ws) ps h in record { first = r.waiting.0; waiting = r.waiting.1; parts = (r.first, r.parts) }
closed_row n x [] (part.Close ∷ ps) h = let r = closed_row n x [] ps h in record { first = r.first; waiting = tt; parts = (tt, r.parts) }
closed_row n x (w ∷ ws) (part.Close ∷ ps) h = let r = closed_row n (Binary w.0 w.1 x) ws ps h in record { first = r.first.1; waiting = (r.first.0, r.waiting); parts = (tt, r.parts) }
closed_row n x ws (part.Negate ∷ ps) h = let r = closed_row n (Negative x) ws ps h in record { first = r.first; waiting = r.waiting; parts = (tt, r.parts) }
closed_row n x ws (part.Group ∷ ps) h = let r = closed_row n (Group x) ws ps h in record { first = r.first; waiting = r.waiting; parts = (tt, r.parts) }

-- what holds of every element's view holds of one's
pub view_at : {A B : Type 0} (P : B → Type 0) (f : A → B) (xs : List A) (i : ℕ) (x : A) → i < length xs → x ≡ get_or xs i x → AllByRecursion P (map f xs) → P (f x)
view_at P f [] i x h is all = absurd (omega (arith, h))
view_at P f (y ∷ ys) zero x h is all = let Q : _ → Type 0 = λ z. P (f z) in subst Q (sym is) all.0
view_at P f (y ∷ ys) (suc i) x h is all = view_at P f ys i x (omega (arith, h)) is all.1

pub part_closed : (n : ℕ) (ps : List Part) (i : ℕ) (p : Part) → i < length ps → p ≡ get_or ps i p → AreClosed n ps → IsClosedPart n p
part_closed n [] i p h is all = absurd (omega (arith, h))
part_closed n (q ∷ ps) zero p h is all = subst (IsClosedPart n) (sym is) all.0
part_closed n (q ∷ ps) (suc i) p h is all = part_closed n ps i p (omega (arith, h)) is all.1

-- ---- a failure

-- it comes to this failure, whatever parts follow
abbrev Doomed : ℕ → Result ℤ ℕ → Lefts → Type 0
Doomed code r [] = r ≡ Err code
Doomed code r (w ∷ ws) = Doomed code w.1 ws ⊎ ((r ≡ Err code) × IsOpen w × Doomed code (Err code) ws)

doomed_with : (code : ℕ) (r q : Result ℤ ℕ) (ws : Lefts) → (r ≡ Err code → q ≡ Err code) → Doomed code r ws → Doomed code q ws
doomed_with code r q [] on h = on h
doomed_with code r q (w ∷ ws) on (inl left) = inl left
doomed_with code r q (w ∷ ws) on (inr h) = inr (on h.0, h.1, h.2)

made_fails : (code : ℕ) (o : Operator) (r b : Result ℤ ℕ) → r ≡ Err code → made o r b ≡ Err code
made_fails code o r b h = ap (λ (q : Result ℤ ℕ). made o q b) h

made_right_fails : (code : ℕ) (r : Result ℤ ℕ) (w : Operator × Result ℤ ℕ) → r ≡ Err code → IsOpen w → made w.0 w.1 r ≡ Err code
made_right_fails code r w h still =
    ap (λ (l : Result ℤ ℕ). made w.0 l r) still.1
    ∙ ap (λ (d : Option ℤ). unless_decided d (r >>= λ y. joined w.0 still.0 y)) still.2
    ∙ ap (λ (q : Result ℤ ℕ). q >>= λ y. joined w.0 still.0 y) h

doomed_closed : (code : ℕ) (r : Result ℤ ℕ) (w : Operator × Result ℤ ℕ) (ws : Lefts) → Doomed code r (w ∷ ws) → Doomed code (made w.0 w.1 r) ws
doomed_closed code r w ws (inl left) = doomed_with code w.1 (made w.0 w.1 r) ws (made_fails code w.0 w.1 r) left
doomed_closed code r w ws (inr h) = let P : Result ℤ ℕ → Type 0 = λ q. Doomed code q ws in subst P (sym (made_right_fails code r w h.0 h.1)) h.2

doomed_end : (code : ℕ) (r : Result ℤ ℕ) (ws : Lefts) → Doomed code r ws → value_at_end r ws ≡ Err code
doomed_end code r [] h = h
doomed_end code r (w ∷ ws) h = doomed_end code (made w.0 w.1 r) ws (doomed_closed code r w ws h)

doomed_row : (own : ℕ) (vs : List ℤ) (s : State) (code : ℕ) (r : Result ℤ ℕ) (ws : Lefts) (ps : List Part) → Doomed code r ws → row_value own vs s r ws ps ≡ Err code
doomed_row own vs s code r ws [] h = doomed_end code r ws h
doomed_row own vs s code r ws (part.Join o a ∷ ps) h =
    let b = value_of own vs s (operand_tree a) in doomed_row own vs s code (made o r b) ws ps (doomed_with code r (made o r b) ws (made_fails code o r b) h)
doomed_row own vs s code r ws (part.Open o a ∷ ps) h = doomed_row own vs s code (value_of own vs s (operand_tree a)) ((o, r) ∷ ws) ps (inl h)
doomed_row own vs s code r [] (part.Close ∷ ps) h = doomed_row own vs s code r [] ps h
doomed_row own vs s code r (w ∷ ws) (part.Close ∷ ps) h = doomed_row own vs s code (made w.0 w.1 r) ws ps (doomed_closed code r w ws h)
doomed_row own vs s code r ws (part.Negate ∷ ps) h = doomed_row own vs s code (negated r) ws ps (doomed_with code r (negated r) ws (ap negated) h)
doomed_row own vs s code r ws (part.Group ∷ ps) h = doomed_row own vs s code r ws ps h

open_doomed : (code : ℕ) (ws : Lefts) → AllByRecursion IsOpen ws → Doomed code (Err code) ws
open_doomed code [] h = refl
open_doomed code (w ∷ ws) h = inr (refl, h.0, open_doomed code ws h.1)

failed : (own : ℕ) (vs : List ℤ) (s : State) (code : ℕ) (ws : Lefts) (ps : List Part) → AllByRecursion IsOpen ws → row_value own vs s (Err code) ws ps ≡ Err code
failed own vs s code ws ps h = doomed_row own vs s code (Err code) ws ps (open_doomed code ws h)

-- ---- a right side that is passed over

passed_end : (o : Operator) (x truth : ℤ) (r : Result ℤ ℕ) (gs ws : Lefts) → decided o x ≡ Some truth → value_at_end r (gs ++ (o, Ok x) ∷ ws) ≡ value_at_end (Ok truth) ws
passed_end o x truth r [] ws h = ap (λ (d : Option ℤ). value_at_end (unless_decided d (r >>= λ y. joined o x y)) ws) h
passed_end o x truth r (g ∷ gs) ws h = passed_end o x truth (made g.0 g.1 r) gs ws h

passed : (own : ℕ) (vs : List ℤ) (s : State) (o : Operator) (x truth : ℤ) (r : Result ℤ ℕ) (gs ws : Lefts) (ps : List Part) → decided o x ≡ Some truth
    → row_value own vs s r (gs ++ (o, Ok x) ∷ ws) ps ≡ row_value own vs s (Ok truth) ws (behind (length gs) ps)
passed own vs s o x truth r gs ws [] h = passed_end o x truth r gs ws h
passed own vs s o x truth r gs ws (part.Join p a ∷ ps) h = passed own vs s o x truth (made p r (value_of own vs s (operand_tree a))) gs ws ps h
passed own vs s o x truth r gs ws (part.Open p a ∷ ps) h = passed own vs s o x truth (value_of own vs s (operand_tree a)) ((p, r) ∷ gs) ws ps h
passed own vs s o x truth r [] ws (part.Close ∷ ps) h = ap (λ (d : Option ℤ). row_value own vs s (unless_decided d (r >>= λ y. joined o x y)) ws ps) h
passed own vs s o x truth r (g ∷ gs) ws (part.Close ∷ ps) h = passed own vs s o x truth (made g.0 g.1 r) gs ws ps h
passed own vs s o x truth r gs ws (part.Negate ∷ ps) h = passed own vs s o x truth (negated r) gs ws ps h
passed own vs s o x truth r gs ws (part.Group ∷ ps) h = passed own vs s o x truth r gs ws ps h

pub passed_over : (own : ℕ) (vs : List ℤ) (s : State) (o : Operator) (start : Operand) (x truth : ℤ) (ps qs : List Part) → Some truth ≡ decided o x → qs ≡ behind 0 ps → Becomes own vs s x (part.Open o start ∷ ps) truth qs
passed_over own vs s o start x truth ps qs h is ws =
    passed own vs s o x truth (value_of own vs s (operand_tree start)) [] ws ps (sym h) ∙ ap (row_value own vs s (Ok truth) ws) (sym is)

-- ---- one part

-- the parts at a position are the one there and those behind it
pub part_here : (ps : List Part) (i : ℕ) (d p : Part) → i < length ps → get_or ps i d ≡ p → drop i ps ≡ p ∷ drop (i + 1) ps
part_here ps i d p h is = drop_more ps i d h ∙ ap (λ q. q ∷ drop (i + 1) ps) is

made_joined : (o : Operator) (x v : ℤ) (b : Result ℤ ℕ) → Ok v ≡ b → made o (Ok x) b ≡ joined o x v
made_joined o x v b is = ap (λ (r : Result ℤ ℕ). made o (Ok x) r) (sym is) ∙ decided_joined o x v

pub becomes_on : (own : ℕ) (vs : List ℤ) (s : State) (x y z : ℤ) (ps qs rs : List Part) → Becomes own vs s x ps y qs → Becomes own vs s y qs z rs → Becomes own vs s x ps z rs
becomes_on own vs s x y z ps qs rs first second ws = first ws ∙ second ws

pub becomes_here : (own : ℕ) (vs : List ℤ) (s : State) (x y z : ℤ) (ps qs rs : List Part) (p : Part) → qs ≡ p ∷ rs → Becomes own vs s x ps y qs → Becomes own vs s y (p ∷ rs) z rs → Becomes own vs s x ps z rs
becomes_here own vs s x y z ps qs rs p is first second ws = first ws ∙ ap (row_value own vs s (Ok y) ws) is ∙ second ws

pub fails_on : (own : ℕ) (vs : List ℤ) (s : State) (x y : ℤ) (ps qs : List Part) (code : ℕ) → Becomes own vs s x ps y qs → Fails own vs s y qs code → Fails own vs s x ps code
fails_on own vs s x y ps qs code first second ws still = first ws ∙ second ws still

pub ends_on : (own : ℕ) (vs : List ℤ) (s : State) (x y z : ℤ) (ps qs rs : List Part) → Becomes own vs s x ps y qs → EndsAs own vs s y qs z rs → EndsAs own vs s x ps z rs
ends_on own vs s x y z ps qs rs first second = (λ w ws. first (w ∷ ws) ∙ second.0 w ws, first [] ∙ second.1)

pub joins : (own : ℕ) (vs : List ℤ) (s : State) (o : Operator) (a : Operand) (x v y : ℤ) (ps : List Part) → Ok v ≡ value_of own vs s (operand_tree a) → Ok y ≡ joined o x v → Becomes own vs s x (part.Join o a ∷ ps) y ps
joins own vs s o a x v y ps right is ws = ap (λ (r : Result ℤ ℕ). row_value own vs s r ws ps) (made_joined o x v (value_of own vs s (operand_tree a)) right ∙ sym is)

pub join_fails : (own : ℕ) (vs : List ℤ) (s : State) (o : Operator) (a : Operand) (x v : ℤ) (code : ℕ) (ps : List Part) → Ok v ≡ value_of own vs s (operand_tree a) → Err code ≡ joined o x v → Fails own vs s x (part.Join o a ∷ ps) code
join_fails own vs s o a x v code ps right is ws still =
    ap (λ (r : Result ℤ ℕ). row_value own vs s r ws ps) (made_joined o x v (value_of own vs s (operand_tree a)) right ∙ sym is) ∙ failed own vs s code ws ps still

pub negates : (own : ℕ) (vs : List ℤ) (s : State) (x y : ℤ) (ps : List Part) → Ok y ≡ negated (Ok x) → Becomes own vs s x (part.Negate ∷ ps) y ps
negates own vs s x y ps is ws = ap (λ (r : Result ℤ ℕ). row_value own vs s r ws ps) (sym is)

pub negate_fails : (own : ℕ) (vs : List ℤ) (s : State) (x : ℤ) (code : ℕ) (ps : List Part) → Err code ≡ negated (Ok x) → Fails own vs s x (part.Negate ∷ ps) code
negate_fails own vs s x code ps is ws still = ap (λ (r : Result ℤ ℕ). row_value own vs s r ws ps) (sym is) ∙ failed own vs s code ws ps still

pub groups : (own : ℕ) (vs : List ℤ) (s : State) (x : ℤ) (ps : List Part) → Becomes own vs s x (part.Group ∷ ps) x ps
groups own vs s x ps ws = refl

pub closes : (own : ℕ) (vs : List ℤ) (s : State) (x : ℤ) (ps : List Part) → EndsAs own vs s x (part.Close ∷ ps) x ps
closes own vs s x ps = (λ w ws. refl, refl)

pub ends : (own : ℕ) (vs : List ℤ) (s : State) (x : ℤ) → EndsAs own vs s x [] x []
ends own vs s x = (λ w ws. refl, refl)

-- ---- a right side

pub opens : (own : ℕ) (vs : List ℤ) (s : State) (o : Operator) (start : Operand) (x first v y : ℤ) (ps qs : List Part) → Ok first ≡ value_of own vs s (operand_tree start) → EndsAs own vs s first ps v qs → Ok y ≡ joined o x v
    → Becomes own vs s x (part.Open o start ∷ ps) y qs
opens own vs s o start x first v y ps qs begins side is ws =
    let l : Operator × Result ℤ ℕ = (o, Ok x) in
    ap (λ (r : Result ℤ ℕ). row_value own vs s r (l ∷ ws) ps) (sym begins)
    ∙ side.0 l ws
    ∙ ap (λ (r : Result ℤ ℕ). row_value own vs s r ws qs) (decided_joined o x v ∙ sym is)

pub opened_fails : (own : ℕ) (vs : List ℤ) (s : State) (o : Operator) (start : Operand) (x first v : ℤ) (code : ℕ) (ps qs : List Part) → Ok first ≡ value_of own vs s (operand_tree start) → EndsAs own vs s first ps v qs → Err code ≡ joined o x v
    → Fails own vs s x (part.Open o start ∷ ps) code
opened_fails own vs s o start x first v code ps qs begins side is ws still =
    let l : Operator × Result ℤ ℕ = (o, Ok x) in
    ap (λ (r : Result ℤ ℕ). row_value own vs s r (l ∷ ws) ps) (sym begins)
    ∙ side.0 l ws
    ∙ ap (λ (r : Result ℤ ℕ). row_value own vs s r ws qs) (decided_joined o x v ∙ sym is)
    ∙ failed own vs s code ws qs still

pub right_side_fails : (own : ℕ) (vs : List ℤ) (s : State) (o : Operator) (start : Operand) (x first : ℤ) (code : ℕ) (ps : List Part) → None ≡ decided o x → Ok first ≡ value_of own vs s (operand_tree start) → Fails own vs s first ps code
    → Fails own vs s x (part.Open o start ∷ ps) code
right_side_fails own vs s o start x first code ps undecided begins side ws still =
    let l : Operator × Result ℤ ℕ = (o, Ok x) in
    ap (λ (r : Result ℤ ℕ). row_value own vs s r (l ∷ ws) ps) (sym begins) ∙ side (l ∷ ws) ((x, refl, sym undecided), still)
