-- What flat code leads to: each operation, by what the tree's statement there does.
use Rattle.std.proofs.Common.{◌≡◌, ◌≢◌, ℕ, zero, suc, ◌+◌, ◌-◌, ◌≤◌, ◌<◌, min, Bool, true, false, if◌then◌else◌, ℤ, Result, Ok, Err, Some, List, [], ◌∷◌, ◌++◌, length, map, take, reverse, get_or, set, refl, sym, ap, ◌∙◌, subst, arith, append_assoc}
use Rattle.std.specs.List.{slice_get}
use Rattle.std.proofs.lemmas.List.{reverse-append, reverse-reverse, get_or-set_same, get_or-set_other, append-nil}
use Rattle.snap_base.specs.declared.transactions.State.{State}
use Rattle.aml_tree.specs.Tree.{Expr, Code, While, CheckedMethod}
use Rattle.aml_flat.specs.declared.operations.Operand.TheVariants as operand
use Rattle.aml_flat.specs.declared.operations.FlatExpression.{FlatExpression}
use Rattle.aml_flat.specs.declared.operations.FlatExpression.TheVariants as flat
use Rattle.aml_flat.specs.declared.operations.Operation.{Operation}
use Rattle.aml_flat.specs.declared.operations.Operation.TheVariants as op
use Rattle.aml_flat.specs.Flat.{flat_tree}
use Rattle.aml_flat.proofs.Laying.{Told, told}
use Rattle.aml_check.specs.Closed.{IsClosedBlock, IsClosedExpression}
use Rattle.aml_check.specs.Meaning.{is_nonzero, values_of, with_field}
use Rattle.aml_resume.specs.declared.places.Spot.{Spot}
use Rattle.aml_resume.specs.Pausing.{Pause, Through, Returned, Calling, Failed, unless_failed, counted_value, counting, around, spot, loop_pause, block_pause, given_at_end}
use Rattle.aml_resume.specs.Resuming.{IsCounted}
use Rattle.aml_resume.specs.Machine.{Outer, onward, IsLeft, AreLeft, Leads}
use Rattle.aml_resume.proofs.Pauses.{counted_one, paused_counts}

-- ---- open blocks

abbrev pub spots_of : List Outer → List Spot
spots_of os = map (λ (o : Outer). o.spot) os

onward_returned : (own : ℕ) (os : List Outer) (v : ℤ) (s : State) (n : ℕ) → onward own os (Returned v s n) ≡ Returned v s n
onward_returned own [] v s n = refl
onward_returned own (o ∷ os) v s n = onward_returned own os v s n

onward_failed : (own : ℕ) (os : List Outer) (code : ℕ) (s : State) (n : ℕ) → onward own os (Failed code s n) ≡ Failed code s n
onward_failed own [] code s n = refl
onward_failed own (o ∷ os) code s n = onward_failed own os code s n

around_path : (q : Spot) (qs ps : List Spot) → reverse qs ++ (q ∷ ps) ≡ reverse (q ∷ qs) ++ ps
around_path q qs ps = sym (ap (λ xs. xs ++ ps) (reverse-append (q ∷ []) qs) ∙ append_assoc (reverse qs) (q ∷ []) ps)

onward_calling : (own : ℕ) (os : List Outer) (target : ℤ) (m : ℕ) (xs : List ℤ) (path : List Spot) (next : ℕ) (vs : List ℤ) (s : State) (n : ℕ)
    → onward own os (Calling target m xs (record { path = path; next = next; variables = vs }) s n) ≡ Calling target m xs (record { path = reverse (spots_of os) ++ path; next = next; variables = vs }) s n
onward_calling own [] target m xs path next vs s n = refl
onward_calling own (o ∷ os) target m xs path next vs s n =
    onward_calling own os target m xs (o.spot ∷ path) next vs s n
    ∙ ap (λ (qs : List Spot). Calling target m xs (record { path = qs; next = next; variables = vs }) s n) (around_path o.spot (spots_of os) path)

more_left : (p : List CheckedMethod) (ops : List Operation) (positions : List ℕ) (n m : ℕ) (os : List Outer) → n ≤ m → AreLeft p ops positions n os → AreLeft p ops positions m os
more_left p ops positions n m [] less h = tt
more_left p ops positions n m (o ∷ os) less h = (omega (arith, less, h.0), h.1, h.2)

pub left_set : (p : List CheckedMethod) (ops : List Operation) (positions : List ℕ) (i x n : ℕ) (os : List Outer) → length os ≤ i → AreLeft p ops positions n os → AreLeft p ops (set positions i x) n os
left_set p ops positions i x n [] less h = tt
left_set p ops positions i x n (o ∷ os) less h =
    let other : length os ≢ i = λ e. absurd (omega (arith, e, less)) in
    let same : get_or (set positions i x) (length os) 0 ≡ get_or positions (length os) 0 = get_or-set_other positions i (length os) x 0 other in
    let P : ℕ → Type 0 = λ y. IsLeft p ops y o.at (length os) o.spot.keep o.code in
    (h.0, subst P (sym same) h.1, left_set p ops positions i x o.spot.keep os (omega (arith, less)) h.2)

-- ---- how a method that leads to a whole goes on

pub stays : (p : List CheckedMethod) (ops : List Operation) (own : ℕ) (path : List Spot) (positions : List ℕ) (from : ℕ) (vs : List ℤ) (s : State) (n : ℕ) (whole : Pause) (l : Leads p ops own path positions from vs s n whole)
    → (to at : ℕ) (rest : Code ℕ ℕ) (ws : List ℤ) (t : State) (k : ℕ) → IsLeft p ops to at (length l.outer) (length ws) rest → length vs ≤ length ws → block_pause own l.at l.left vs s n ≡ block_pause own at rest ws t k
    → Leads p ops own path positions to ws t k whole
stays p ops own path positions from vs s n whole l to at rest ws t k here longer goes = record {
  outer = l.outer;
  at = at;
  left = rest;
  here = here;
  behind = more_left p ops positions (length vs) (length ws) l.outer longer l.behind;
  spots = l.spots;
  meant = l.meant ∙ ap (λ (x : Pause). given_at_end (onward own l.outer x)) goes;
}

pub opens : (p : List CheckedMethod) (ops : List Operation) (own : ℕ) (path : List Spot) (positions : List ℕ) (from : ℕ) (vs : List ℤ) (s : State) (n : ℕ) (whole : Pause) (l : Leads p ops own path positions from vs s n whole)
    → (to : ℕ) (inner : Code ℕ ℕ) (q : Spot) (behind at : ℕ) (rest : Code ℕ ℕ) (k : ℕ) (longer : List Spot) (later : List ℕ)
    → IsLeft p ops to 0 (length l.outer + 1) (length vs) inner → IsLeft p ops behind at (length l.outer) (length vs) rest → q.keep ≡ length vs → longer ≡ q ∷ path → later ≡ set positions (length l.outer) behind → length l.outer < length positions
    → block_pause own l.at l.left vs s n ≡ around q (block_pause own 0 inner vs s k) (block_pause own at rest)
    → Leads p ops own longer later to vs s k whole
opens p ops own path positions from vs s n whole l to inner q behind at rest k longer later here left keep new moved room goes =
    let os : List Outer = record { spot = q; at = at; code = rest } ∷ l.outer in
    let L : ℕ → ℕ → Type 0 = λ x m. IsLeft p ops x at (length l.outer) m rest in
    let first : IsLeft p ops (get_or (set positions (length l.outer) behind) (length l.outer) 0) at (length l.outer) q.keep rest =
    subst (λ x. L x q.keep) (sym (get_or-set_same positions (length l.outer) behind 0 room)) (subst (L behind) (sym keep) left) in
    let A : List ℕ → Type 0 = λ xs. AreLeft p ops xs (length vs) os in
    let fits : q.keep ≤ length vs = omega (arith, keep) in
    let others : AreLeft p ops (set positions (length l.outer) behind) q.keep l.outer = left_set p ops positions (length l.outer) behind q.keep l.outer (omega arith) (more_left p ops positions (length vs) q.keep l.outer (omega (arith, keep)) l.behind) in
    let I : ℕ → Type 0 = λ m. IsLeft p ops to 0 m (length vs) inner in
    record {
      outer = os;
      at = 0;
      left = inner;
      here = subst I (let e : length l.outer + 1 ≡ suc (length l.outer) = omega arith in e) here;
      behind = subst A (sym moved) (fits, first, others);
      spots = new ∙ ap (λ qs. q ∷ qs) l.spots;
      meant = l.meant ∙ ap (λ (x : Pause). given_at_end (onward own l.outer x)) goes;
    }

pub ends_failed : (p : List CheckedMethod) (ops : List Operation) (own : ℕ) (path : List Spot) (positions : List ℕ) (from : ℕ) (vs : List ℤ) (s : State) (n : ℕ) (whole : Pause) (l : Leads p ops own path positions from vs s n whole)
    → (code : ℕ) (t : State) (k : ℕ) → block_pause own l.at l.left vs s n ≡ Failed code t k → whole ≡ Failed code t k
ends_failed p ops own path positions from vs s n whole l code t k goes =
    l.meant ∙ ap (λ (x : Pause). given_at_end (onward own l.outer x)) goes ∙ ap given_at_end (onward_failed own l.outer code t k)

pub ends_returned : (p : List CheckedMethod) (ops : List Operation) (own : ℕ) (path : List Spot) (positions : List ℕ) (from : ℕ) (vs : List ℤ) (s : State) (n : ℕ) (whole : Pause) (l : Leads p ops own path positions from vs s n whole)
    → (v : ℤ) (t : State) (k : ℕ) → block_pause own l.at l.left vs s n ≡ Returned v t k → whole ≡ Returned v t k
ends_returned p ops own path positions from vs s n whole l v t k goes =
    l.meant ∙ ap (λ (x : Pause). given_at_end (onward own l.outer x)) goes ∙ ap given_at_end (onward_returned own l.outer v t k)

pub ends_calling : (p : List CheckedMethod) (ops : List Operation) (own : ℕ) (path : List Spot) (positions : List ℕ) (from : ℕ) (vs : List ℤ) (s : State) (n : ℕ) (whole : Pause) (l : Leads p ops own path positions from vs s n whole)
    → (target : ℤ) (m : ℕ) (xs : List ℤ) (items : List Spot) (next : ℕ) (t : State) (k : ℕ) → path ≡ reverse items → block_pause own l.at l.left vs s n ≡ Calling target m xs (record { path = []; next = next; variables = vs }) t k
    → whole ≡ Calling target m xs (record { path = items; next = next; variables = vs }) t k
ends_calling p ops own path positions from vs s n whole l target m xs items next t k is goes =
    let same : reverse (spots_of l.outer) ++ [] ≡ items = append-nil (reverse (spots_of l.outer)) ∙ ap reverse (sym l.spots ∙ is) ∙ reverse-reverse items in
    l.meant
    ∙ ap (λ (x : Pause). given_at_end (onward own l.outer x)) goes
    ∙ ap given_at_end (onward_calling own l.outer target m xs [] next vs t k)
    ∙ ap (λ (qs : List Spot). Calling target m xs (record { path = qs; next = next; variables = vs }) t k) same

-- ---- a loop may have more turns than there are statements left

same_counted : (s : State) (j : ℕ) (o : Result (ℤ × ℕ) ℕ) (f g : ℤ × ℕ → Pause) → ((x : ℤ) (k : ℕ) → o ≡ Ok (x, k) → f (x, k) ≡ g (x, k)) → unless_failed s j o f ≡ unless_failed s j o g
same_counted s j (Ok (x, k)) f g h = h x k refl
same_counted s j (Err code) f g h = refl

same_test : (b : Bool) (x y z : Pause) → x ≡ y → (if b then x else z) ≡ (if b then y else z)
same_test true x y z h = h
same_test false x y z h = refl

same_around : (q : Spot) (n : ℕ) (x : Pause) (f g : List ℤ → State → ℕ → Pause) → IsCounted n x → ((ws : List ℤ) (t : State) (k : ℕ) → n ≤ k → k ≤ 10000 → f ws t k ≡ g ws t k) → around q x f ≡ around q x g
same_around q n (Through ws t k) f g h on = on (take q.keep ws) t k h.0 h.1
same_around q n (Returned v t k) f g h on = refl
same_around q n (Calling target m xs standing t k) f g h on = refl
same_around q n (Failed code t k) f g h on = refl

abbrev pub turn : ℕ → ℕ → ℕ → Expr ℕ → (List ℤ → State → ℕ → Pause) → (List ℤ → State → ℕ → Pause) → List ℤ → State → ℤ × ℕ → Pause
turn m at own e body next vs t x = if is_nonzero x.0 then around (spot at false vs) (body vs t x.1) (loop_pause m at own e body next) else next vs t x.1

pause_enough : (f g at own : ℕ) (e : Expr ℕ) (body next : List ℤ → State → ℕ → Pause) → ((ws : List ℤ) (t : State) (k : ℕ) → k ≤ 10000 → IsCounted k (body ws t k)) → (vs : List ℤ) (s : State) (n : ℕ) → n ≤ 10000 → 10001 ≤ f + n → 10001 ≤ g + n
    → loop_pause f at own e body next vs s n ≡ loop_pause g at own e body next vs s n
pause_enough zero g at own e body next h vs s n few enough more = absurd (omega (arith, few, enough))
pause_enough (suc f) zero at own e body next h vs s n few enough more = absurd (omega (arith, few, more))
pause_enough (suc f) (suc g) at own e body next h vs s n few enough more =
    same_counted s (min (n + 1) 10000) (counted_value own vs s n e) (turn f at own e body next vs s) (turn g at own e body next vs s) (λ x k is.
    let one = counted_one own vs s n e x k is in
    same_test (is_nonzero x) (around (spot at false vs) (body vs s k) (loop_pause f at own e body next)) (around (spot at false vs) (body vs s k) (loop_pause g at own e body next)) (next vs s k)
    (same_around (spot at false vs) k (body vs s k) (loop_pause f at own e body next) (loop_pause g at own e body next) (h vs s k one.1) (λ ws t j later less.
    pause_enough f g at own e body next h ws t j less (omega (arith, enough, one.0, later)) (omega (arith, more, one.0, later)))))

-- behind a turn the loop goes on as the loop does from there
pub turn_again : (own at : ℕ) (e : Expr ℕ) (body rest : Code ℕ ℕ) (vs : List ℤ) (s : State) (n k : ℕ) → n ≤ 10000 → k ≡ n + 1 → k ≤ 10000
    → around (spot at false vs) (block_pause own 0 body vs s k) (loop_pause (10000 - n) at own e (block_pause own 0 body) (block_pause own (at + 1) rest)) ≡ around (spot at false vs) (block_pause own 0 body vs s k) (block_pause own at (While e body rest))
turn_again own at e body rest vs s n k few one less =
    same_around (spot at false vs) k (block_pause own 0 body vs s k) (loop_pause (10000 - n) at own e (block_pause own 0 body) (block_pause own (at + 1) rest)) (block_pause own at (While e body rest)) (paused_counts own 0 body vs s k less) (λ ws t j later most.
    pause_enough (10000 - n) (10001 - j) at own e (block_pause own 0 body) (block_pause own (at + 1) rest) (λ us u i fits. paused_counts own 0 body us u i fits) ws t j most (omega (arith, few, one, later)) (omega (arith, most)))

-- ---- a statement begins with an expression

-- the expression with which an operation begins
abbrev pub expression_of : Operation → FlatExpression
expression_of op.End = flat.One operand.Own
expression_of (op.Let e) = e
expression_of (op.Call place e method es) = e
expression_of (op.Set variable e) = e
expression_of (op.SetField field e) = e
expression_of (op.If place e to) = e
expression_of (op.IfElse place e to otherwise) = e
expression_of (op.While place e to) = e
expression_of (op.Fail c) = flat.One operand.Own
expression_of (op.Return e) = e

abbrev pub Begins : Operation → Type 0
Begins op.End = ⊥
Begins (op.Let e) = Unit {0}
Begins (op.Call place e method es) = Unit {0}
Begins (op.Set variable e) = Unit {0}
Begins (op.SetField field e) = Unit {0}
Begins (op.If place e to) = Unit {0}
Begins (op.IfElse place e to otherwise) = Unit {0}
Begins (op.While place e to) = Unit {0}
Begins (op.Fail c) = ⊥
Begins (op.Return e) = Unit {0}

abbrev Going : ℕ → ℕ → Code ℕ ℕ → Operation → List ℤ → State → ℕ → Type 0
Going own at b o vs s n = (go : ℤ × ℕ → Pause) × (block_pause own at b vs s n ≡ counting own vs s n (flat_tree (expression_of o)) go)

pub while_is : (own at : ℕ) (e : Expr ℕ) (body rest : Code ℕ ℕ) (vs : List ℤ) (s : State) (n : ℕ) → n ≤ 10000 → block_pause own at (While e body rest) vs s n ≡ counting own vs s n e (turn (10000 - n) at own e (block_pause own 0 body) (block_pause own (at + 1) rest) vs s)
while_is own at e body rest vs s n few = ap (λ m. loop_pause m at own e (block_pause own 0 body) (block_pause own (at + 1) rest) vs s n) (let i : 10001 - n ≡ suc (10000 - n) = omega (arith, few) in i)

goes_by : (own : ℕ) (ops : List Operation) (from at : ℕ) (b : Code ℕ ℕ) (o : Operation) (vs : List ℤ) (s : State) (n : ℕ) → n ≤ 10000 → Begins o → Told ops from at b o → Going own at b o vs s n
goes_by own ops from at b op.End vs s n few h t = absurd h
goes_by own ops from at b (op.Let e) vs s n few h t = (λ x. block_pause own (at + 1) t.2 (vs ++ x.0 ∷ []) s x.1, ap (λ c. block_pause own at c vs s n) t.3)
goes_by own ops from at b (op.Call place e method es) vs s n few h t = (λ x. unless_failed s x.1 (values_of own vs s (map flat_tree es.items)) (λ xs. Calling x.0 method xs (record { path = []; next = at + 1; variables = vs }) s x.1), ap (λ c. block_pause own at c vs s n) t.4)
goes_by own ops from at b (op.Set variable e) vs s n few h t = (λ x. block_pause own (at + 1) t.0 (set vs variable x.0) s x.1, ap (λ c. block_pause own at c vs s n) t.1)
goes_by own ops from at b (op.SetField field e) vs s n few h t = (λ x. block_pause own (at + 1) t.1 vs (with_field s field x.0) x.1, ap (λ c. block_pause own at c vs s n) t.2)
goes_by own ops from at b (op.If place e to) vs s n few h t = (λ x. if is_nonzero x.0 then around (spot at false vs) (block_pause own 0 t.0 vs s x.1) (block_pause own (at + 1) t.1) else block_pause own (at + 1) t.1 vs s x.1, ap (λ c. block_pause own at c vs s n) t.3)
goes_by own ops from at b (op.IfElse place e to otherwise) vs s n few h t = (λ x. if is_nonzero x.0 then around (spot at false vs) (block_pause own 0 t.0 vs s x.1) (block_pause own (at + 1) t.2) else around (spot at true vs) (block_pause own 0 t.1 vs s x.1) (block_pause own (at + 1) t.2), ap (λ c. block_pause own at c vs s n) t.4)
goes_by own ops from at b (op.While place e to) vs s n few h t = (turn (10000 - n) at own (flat_tree e) (block_pause own 0 t.0) (block_pause own (at + 1) t.1) vs s, ap (λ c. block_pause own at c vs s n) t.3 ∙ while_is own at (flat_tree e) t.0 t.1 vs s n few)
goes_by own ops from at b (op.Fail c) vs s n few h t = absurd h
goes_by own ops from at b (op.Return e) vs s n few h t = (λ x. Returned x.0 s x.1, ap (λ c. block_pause own at c vs s n) t.1)

pub begins_failed : (p : List CheckedMethod) (ops : List Operation) (own : ℕ) (path : List Spot) (positions : List ℕ) (from : ℕ) (vs : List ℤ) (s : State) (n : ℕ) (whole : Pause) → Leads p ops own path positions from vs s n whole
    → (o : Operation) → slice_get ops from ≡ Some o → Begins o → (code k : ℕ) → n ≤ 10000 → counted_value own vs s n (flat_tree (expression_of o)) ≡ Err code → k ≡ min (n + 1) 10000 → whole ≡ Failed code s k
begins_failed p ops own path positions from vs s n whole l o is h code k few counted count =
    let g = goes_by own ops from l.at l.left o vs s n few h (told ops from l.at l.left o is l.here.lies) in
    ends_failed p ops own path positions from vs s n whole l code s k (g.1 ∙ ap (λ (r : Result (ℤ × ℕ) ℕ). unless_failed s (min (n + 1) 10000) r g.0) counted ∙ ap (Failed code s) (sym count))

closed_by : (p : List CheckedMethod) (ops : List Operation) (from at n : ℕ) (b : Code ℕ ℕ) (o : Operation) → Begins o → Told ops from at b o → IsClosedBlock p n b → IsClosedExpression n (flat_tree (expression_of o))
closed_by p ops from at n b op.End h t closed = absurd h
closed_by p ops from at n b (op.Let e) h t closed = (subst (IsClosedBlock p n) t.3 closed).1
closed_by p ops from at n b (op.Call place e method es) h t closed = (subst (IsClosedBlock p n) t.4 closed).1
closed_by p ops from at n b (op.Set variable e) h t closed = (subst (IsClosedBlock p n) t.1 closed).1
closed_by p ops from at n b (op.SetField field e) h t closed = (subst (IsClosedBlock p n) t.2 closed).1
closed_by p ops from at n b (op.If place e to) h t closed = (subst (IsClosedBlock p n) t.3 closed).0
closed_by p ops from at n b (op.IfElse place e to otherwise) h t closed = (subst (IsClosedBlock p n) t.4 closed).0
closed_by p ops from at n b (op.While place e to) h t closed = (subst (IsClosedBlock p n) t.3 closed).0
closed_by p ops from at n b (op.Fail c) h t closed = absurd h
closed_by p ops from at n b (op.Return e) h t closed = (subst (IsClosedBlock p n) t.1 closed).0

pub begins_closed : (p : List CheckedMethod) (ops : List Operation) (own : ℕ) (path : List Spot) (positions : List ℕ) (from : ℕ) (vs : List ℤ) (s : State) (n : ℕ) (whole : Pause) → Leads p ops own path positions from vs s n whole
    → (o : Operation) → slice_get ops from ≡ Some o → Begins o → IsClosedExpression (length vs) (flat_tree (expression_of o))
begins_closed p ops own path positions from vs s n whole l o is h = closed_by p ops from l.at (length vs) l.left o h (told ops from l.at l.left o is l.here.lies) l.here.runnable.0
