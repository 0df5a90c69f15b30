-- What each operation leads to, by what the tree's statement there does.
use Rattle.std.proofs.Common.{◌≡◌, ℕ, suc, ◌+◌, ◌-◌, ◌≤◌, ◌<◌, min, max, Bool, true, false, not, if◌then◌else◌, ℤ, pos, nat_lt, Result, Ok, Err, Some, List, [], ◌∷◌, ◌++◌, length, map, take, drop, reverse, get_or, set, Vec, Global, refl, sym, ap, ◌∙◌, subst, arith, length-append}
use Rattle.std.specs.List.{AllByRecursion, slice_get}
use Rattle.std.proofs.lemmas.Bool.Decides.{nat_tests}
use Rattle.std.proofs.lemmas.List.Elements.{All-get_or, All-from_recursion}
use Rattle.std.proofs.lemmas.List.{length-set, length-take, length-map}
use Rattle.snap_base.specs.declared.transactions.State.{State}
use Rattle.aml_tree.specs.Tree.{CheckedMethod}
use Rattle.aml_flat.specs.declared.operations.BlockPlace.{BlockPlace}
use Rattle.aml_flat.specs.declared.operations.FlatExpression.{FlatExpression}
use Rattle.aml_flat.specs.declared.operations.Operation.{Operation}
use Rattle.aml_flat.specs.declared.operations.Operation.TheVariants as op
use Rattle.aml_flat.specs.Flat.{flat_tree}
use Rattle.aml_flat.proofs.Laying.{told}
use Rattle.aml_check.specs.Closed.{IsClosedBlock, IsClosedCall, IsClosedExpression, IsClosedMethod, IsClosedProgram, nesting}
use Rattle.aml_check.specs.Names.{no_method}
use Rattle.aml_check.specs.Meaning.{is_nonzero, values_of, with_field, too_many_statements}
use Rattle.aml_resume.specs.declared.places.Spot.{Spot}
use Rattle.aml_resume.specs.Places.{IsRunnable}
use Rattle.aml_resume.specs.Pausing.{Pause, Through, Returned, Calling, Failed, unless_failed, counted_value, around, spot, loop_pause, block_pause, given_at_end}
use Rattle.aml_resume.specs.Machine.{Outer, onward, IsLeft, AreLeft, Leads}
use Rattle.aml_resume.proofs.Leading.{spots_of, stays, opens, ends_failed, ends_returned, ends_calling, turn_again, turn, while_is}
use Rattle.aml_resume.proofs.Pauses.{counted_one}
use Rattle.aml_resume.proofs.Behinds.{some_level}

pub on_let : (p : List CheckedMethod) (ops : List Operation) (own : ℕ) (path : List Spot) (positions : List ℕ) (from : ℕ) (vs : List ℤ) (s : State) (n : ℕ) (whole : Pause) (l : Leads p ops own path positions from vs s n whole) → (e : FlatExpression) (x : ℤ) (k : ℕ) (ws : List ℤ) → slice_get ops from ≡ Some (op.Let e) → counted_value own vs s n (flat_tree e) ≡ Ok (x, k) → ws ≡ vs ++ x ∷ [] → Leads p ops own path positions (from + 1) ws s k whole
on_let p ops own path positions from vs s n whole l e x k ws is counted new =
    let t = told ops from l.at l.left (op.Let e) is l.here.lies in
    let r = subst (IsRunnable p (length vs)) t.3 l.here.runnable in
    let rest = t.2 in
    let one : length (vs ++ x ∷ []) ≡ length vs + 1 = simp length-append (omega arith) in
    let more : length ws ≡ length vs + 1 = ap length new ∙ one in
    let d : nesting l.left ≡ nesting rest = ap nesting t.3 in
    let C : ℕ → Type 0 = λ m. IsClosedBlock p m rest in
    stays p ops own path positions from vs s n whole l (from + 1) (l.at + 1) rest ws s k
    (record { lies = t.4; runnable = (subst C (sym more) r.0.2, omega (arith, more, r.1)); deep = omega (arith, d, l.here.deep); early = omega (arith, l.here.early) })
    (omega (arith, more))
    (ap (λ c. block_pause own l.at c vs s n) t.3 ∙ ap (λ (o : Result (ℤ × ℕ) ℕ). unless_failed s (min (n + 1) 10000) o (λ y. block_pause own (l.at + 1) rest (vs ++ y.0 ∷ []) s y.1)) counted ∙ ap (λ us. block_pause own (l.at + 1) rest us s k) (sym new))

pub has_place : (p : List CheckedMethod) (ops : List Operation) (own : ℕ) (path : List Spot) (positions : List ℕ) (from : ℕ) (vs : List ℤ) (s : State) (n : ℕ) (whole : Pause) (l : Leads p ops own path positions from vs s n whole) → (e : FlatExpression) → slice_get ops from ≡ Some (op.Let e) → length vs < 32
has_place p ops own path positions from vs s n whole l e is =
    let t = told ops from l.at l.left (op.Let e) is l.here.lies in
    let r = subst (IsRunnable p (length vs)) t.3 l.here.runnable in
    omega (arith, r.1)

pub on_set : (p : List CheckedMethod) (ops : List Operation) (own : ℕ) (path : List Spot) (positions : List ℕ) (from : ℕ) (vs : List ℤ) (s : State) (n : ℕ) (whole : Pause) (l : Leads p ops own path positions from vs s n whole) → (v : ℕ) (e : FlatExpression) (x : ℤ) (k : ℕ) (ws : List ℤ) → slice_get ops from ≡ Some (op.Set v e) → counted_value own vs s n (flat_tree e) ≡ Ok (x, k) → ws ≡ set vs v x → Leads p ops own path positions (from + 1) ws s k whole
on_set p ops own path positions from vs s n whole l v e x k ws is counted new =
    let t = told ops from l.at l.left (op.Set v e) is l.here.lies in
    let r = subst (IsRunnable p (length vs)) t.1 l.here.runnable in
    let rest = t.0 in
    let more : length ws ≡ length vs = ap length new ∙ length-set vs v x in
    let d : nesting l.left ≡ nesting rest = ap nesting t.1 in
    let C : ℕ → Type 0 = λ m. IsClosedBlock p m rest in
    stays p ops own path positions from vs s n whole l (from + 1) (l.at + 1) rest ws s k
    (record { lies = t.2; runnable = (subst C (sym more) r.0.2, omega (arith, more, r.1)); deep = omega (arith, d, l.here.deep); early = omega (arith, l.here.early) })
    (omega (arith, more))
    (ap (λ c. block_pause own l.at c vs s n) t.1 ∙ ap (λ (o : Result (ℤ × ℕ) ℕ). unless_failed s (min (n + 1) 10000) o (λ y. block_pause own (l.at + 1) rest (set vs v y.0) s y.1)) counted ∙ ap (λ us. block_pause own (l.at + 1) rest us s k) (sym new))

pub is_there : (p : List CheckedMethod) (ops : List Operation) (own : ℕ) (path : List Spot) (positions : List ℕ) (from : ℕ) (vs : List ℤ) (s : State) (n : ℕ) (whole : Pause) (l : Leads p ops own path positions from vs s n whole) → (v : ℕ) (e : FlatExpression) → slice_get ops from ≡ Some (op.Set v e) → v < length vs
is_there p ops own path positions from vs s n whole l v e is =
    let t = told ops from l.at l.left (op.Set v e) is l.here.lies in
    let r = subst (IsRunnable p (length vs)) t.1 l.here.runnable in
    r.0.0

pub on_field : (p : List CheckedMethod) (ops : List Operation) (own : ℕ) (path : List Spot) (positions : List ℕ) (from : ℕ) (vs : List ℤ) (s : State) (n : ℕ) (whole : Pause) (l : Leads p ops own path positions from vs s n whole) → (f : ℕ) (e : FlatExpression) (x : ℤ) (k : ℕ) (u : State) → slice_get ops from ≡ Some (op.SetField f e) → counted_value own vs s n (flat_tree e) ≡ Ok (x, k) → u ≡ with_field s f x → Leads p ops own path positions (from + 1) vs u k whole
on_field p ops own path positions from vs s n whole l f e x k u is counted new =
    let t = told ops from l.at l.left (op.SetField f e) is l.here.lies in
    let r = subst (IsRunnable p (length vs)) t.2 l.here.runnable in
    let rest = t.1 in
    let d : nesting l.left ≡ nesting rest = ap nesting t.2 in
    stays p ops own path positions from vs s n whole l (from + 1) (l.at + 1) rest vs u k
    (record { lies = t.3; runnable = (r.0.2, r.1); deep = omega (arith, d, l.here.deep); early = omega (arith, l.here.early) })
    (omega arith)
    (ap (λ c. block_pause own l.at c vs s n) t.2 ∙ ap (λ (o : Result (ℤ × ℕ) ℕ). unless_failed s (min (n + 1) 10000) o (λ y. block_pause own (l.at + 1) rest vs (with_field s f y.0) y.1)) counted ∙ ap (λ us. block_pause own (l.at + 1) rest vs us k) (sym new))

pub is_field : (p : List CheckedMethod) (ops : List Operation) (own : ℕ) (path : List Spot) (positions : List ℕ) (from : ℕ) (vs : List ℤ) (s : State) (n : ℕ) (whole : Pause) (l : Leads p ops own path positions from vs s n whole) → (f : ℕ) (e : FlatExpression) → slice_get ops from ≡ Some (op.SetField f e) → f < 16
is_field p ops own path positions from vs s n whole l f e is =
    let t = told ops from l.at l.left (op.SetField f e) is l.here.lies in
    let r = subst (IsRunnable p (length vs)) t.2 l.here.runnable in
    r.0.0

pub on_return : (p : List CheckedMethod) (ops : List Operation) (own : ℕ) (path : List Spot) (positions : List ℕ) (from : ℕ) (vs : List ℤ) (s : State) (n : ℕ) (whole : Pause) (l : Leads p ops own path positions from vs s n whole) → (e : FlatExpression) (x : ℤ) (k : ℕ) → slice_get ops from ≡ Some (op.Return e) → counted_value own vs s n (flat_tree e) ≡ Ok (x, k) → whole ≡ Returned x s k
on_return p ops own path positions from vs s n whole l e x k is counted =
    let t = told ops from l.at l.left (op.Return e) is l.here.lies in
    ends_returned p ops own path positions from vs s n whole l x s k (ap (λ c. block_pause own l.at c vs s n) t.1 ∙ ap (λ (o : Result (ℤ × ℕ) ℕ). unless_failed s (min (n + 1) 10000) o (λ y. Returned y.0 s y.1)) counted)

pub on_fail : (p : List CheckedMethod) (ops : List Operation) (own : ℕ) (path : List Spot) (positions : List ℕ) (from : ℕ) (vs : List ℤ) (s : State) (n : ℕ) (whole : Pause) (l : Leads p ops own path positions from vs s n whole) → (code k : ℕ) → slice_get ops from ≡ Some (op.Fail code) → n < 10000 → k ≡ n + 1 → whole ≡ Failed code s k
on_fail p ops own path positions from vs s n whole l code k is few one =
    let t = told ops from l.at l.left (op.Fail code) is l.here.lies in
    let b : nat_lt n 10000 ≡ true = grind (arith, nat_tests) in
    ends_failed p ops own path positions from vs s n whole l code s k (ap (λ c. block_pause own l.at c vs s n) t.1 ∙ ap (λ (b : Bool). unless_failed s n (let o : Result ℕ ℕ = (if b then Ok (n + 1) else Err too_many_statements) in o) (Failed code s)) b ∙ ap (Failed code s) (sym one))

pub on_fail_full : (p : List CheckedMethod) (ops : List Operation) (own : ℕ) (path : List Spot) (positions : List ℕ) (from : ℕ) (vs : List ℤ) (s : State) (n : ℕ) (whole : Pause) (l : Leads p ops own path positions from vs s n whole) → (code k : ℕ) → slice_get ops from ≡ Some (op.Fail code) → n ≡ 10000 → k ≡ n → whole ≡ Failed too_many_statements s k
on_fail_full p ops own path positions from vs s n whole l code k is full same =
    let t = told ops from l.at l.left (op.Fail code) is l.here.lies in
    let b : nat_lt n 10000 ≡ false = grind (arith, nat_tests) in
    ends_failed p ops own path positions from vs s n whole l too_many_statements s k (ap (λ c. block_pause own l.at c vs s n) t.1 ∙ ap (λ (b : Bool). unless_failed s n (let o : Result ℕ ℕ = (if b then Ok (n + 1) else Err too_many_statements) in o) (Failed code s)) b ∙ ap (Failed too_many_statements s) (sym same))

-- ---- inner blocks

pub on_if : (p : List CheckedMethod) (ops : List Operation) (own : ℕ) (path : List Spot) (positions : List ℕ) (from : ℕ) (vs : List ℤ) (s : State) (n : ℕ) (whole : Pause) (l : Leads p ops own path positions from vs s n whole) → (at : ℕ) (e : FlatExpression) (to : BlockPlace) (x : ℤ) (k : ℕ) (longer : List Spot) (later : List ℕ) → slice_get ops from ≡ Some (op.If at e to) → counted_value own vs s n (flat_tree e) ≡ Ok (x, k) → is_nonzero x ≡ true → longer ≡ spot at false vs ∷ path → later ≡ set positions (length l.outer) (from + 1) → length positions ≡ 32 → Leads p ops own longer later to.first vs s k whole
on_if p ops own path positions from vs s n whole l at e to x k longer later is counted test new moved wide =
    let t = told ops from l.at l.left (op.If at e to) is l.here.lies in
    let r = subst (IsRunnable p (length vs)) t.3 l.here.runnable in
    let first = t.0 in
    let rest = t.1 in
    let d : nesting l.left ≡ max (1 + nesting first) (nesting rest) = ap nesting t.3 in
    opens p ops own path positions from vs s n whole l to.first first (spot at false vs) (from + 1) (l.at + 1) rest k longer later
    (record { lies = t.4.1; runnable = (r.0.1, omega (arith, r.1)); deep = omega (arith, d, l.here.deep); early = omega arith })
    (record { lies = t.5; runnable = (r.0.2, omega (arith, r.1)); deep = omega (arith, d, l.here.deep); early = omega (arith, l.here.early) })
    refl new moved (omega (arith, d, l.here.deep, wide))
    (ap (λ c. block_pause own l.at c vs s n) t.3 ∙ ap (λ (o : Result (ℤ × ℕ) ℕ). unless_failed s (min (n + 1) 10000) o (λ y. if is_nonzero y.0 then around (spot l.at false vs) (block_pause own 0 first vs s y.1) (block_pause own (l.at + 1) rest) else block_pause own (l.at + 1) rest vs s y.1)) counted ∙ ap (λ (b : Bool). if b then around (spot l.at false vs) (block_pause own 0 first vs s k) (block_pause own (l.at + 1) rest) else block_pause own (l.at + 1) rest vs s k) test ∙ ap (λ i. around (spot i false vs) (block_pause own 0 first vs s k) (block_pause own (l.at + 1) rest)) (sym t.2))

pub on_if_not : (p : List CheckedMethod) (ops : List Operation) (own : ℕ) (path : List Spot) (positions : List ℕ) (from : ℕ) (vs : List ℤ) (s : State) (n : ℕ) (whole : Pause) (l : Leads p ops own path positions from vs s n whole) → (at : ℕ) (e : FlatExpression) (to : BlockPlace) (x : ℤ) (k : ℕ) → slice_get ops from ≡ Some (op.If at e to) → counted_value own vs s n (flat_tree e) ≡ Ok (x, k) → is_nonzero x ≡ false → Leads p ops own path positions (from + 1) vs s k whole
on_if_not p ops own path positions from vs s n whole l at e to x k is counted test =
    let t = told ops from l.at l.left (op.If at e to) is l.here.lies in
    let r = subst (IsRunnable p (length vs)) t.3 l.here.runnable in
    let first = t.0 in
    let rest = t.1 in
    let d : nesting l.left ≡ max (1 + nesting first) (nesting rest) = ap nesting t.3 in
    stays p ops own path positions from vs s n whole l (from + 1) (l.at + 1) rest vs s k
    (record { lies = t.5; runnable = (r.0.2, omega (arith, r.1)); deep = omega (arith, d, l.here.deep); early = omega (arith, l.here.early) })
    (omega arith)
    (ap (λ c. block_pause own l.at c vs s n) t.3 ∙ ap (λ (o : Result (ℤ × ℕ) ℕ). unless_failed s (min (n + 1) 10000) o (λ y. if is_nonzero y.0 then around (spot l.at false vs) (block_pause own 0 first vs s y.1) (block_pause own (l.at + 1) rest) else block_pause own (l.at + 1) rest vs s y.1)) counted ∙ ap (λ (b : Bool). if b then around (spot l.at false vs) (block_pause own 0 first vs s k) (block_pause own (l.at + 1) rest) else block_pause own (l.at + 1) rest vs s k) test)

pub on_then : (p : List CheckedMethod) (ops : List Operation) (own : ℕ) (path : List Spot) (positions : List ℕ) (from : ℕ) (vs : List ℤ) (s : State) (n : ℕ) (whole : Pause) (l : Leads p ops own path positions from vs s n whole) → (at : ℕ) (e : FlatExpression) (to otherwise : BlockPlace) (x : ℤ) (k : ℕ) (longer : List Spot) (later : List ℕ) → slice_get ops from ≡ Some (op.IfElse at e to otherwise) → counted_value own vs s n (flat_tree e) ≡ Ok (x, k) → is_nonzero x ≡ true → longer ≡ spot at false vs ∷ path → later ≡ set positions (length l.outer) (from + 1) → length positions ≡ 32 → Leads p ops own longer later to.first vs s k whole
on_then p ops own path positions from vs s n whole l at e to otherwise x k longer later is counted test new moved wide =
    let t = told ops from l.at l.left (op.IfElse at e to otherwise) is l.here.lies in
    let r = subst (IsRunnable p (length vs)) t.4 l.here.runnable in
    let first = t.0 in
    let other = t.1 in
    let rest = t.2 in
    let d : nesting l.left ≡ max (max (1 + nesting first) (1 + nesting other)) (nesting rest) = ap nesting t.4 in
    opens p ops own path positions from vs s n whole l to.first first (spot at false vs) (from + 1) (l.at + 1) rest k longer later
    (record { lies = t.5.1; runnable = (r.0.1, omega (arith, r.1)); deep = omega (arith, d, l.here.deep); early = omega arith })
    (record { lies = t.7; runnable = (r.0.3, omega (arith, r.1)); deep = omega (arith, d, l.here.deep); early = omega (arith, l.here.early) })
    refl new moved (omega (arith, d, l.here.deep, wide))
    (ap (λ c. block_pause own l.at c vs s n) t.4 ∙ ap (λ (o : Result (ℤ × ℕ) ℕ). unless_failed s (min (n + 1) 10000) o (λ y. if is_nonzero y.0 then around (spot l.at false vs) (block_pause own 0 first vs s y.1) (block_pause own (l.at + 1) rest) else around (spot l.at true vs) (block_pause own 0 other vs s y.1) (block_pause own (l.at + 1) rest))) counted ∙ ap (λ (b : Bool). if b then around (spot l.at false vs) (block_pause own 0 first vs s k) (block_pause own (l.at + 1) rest) else around (spot l.at true vs) (block_pause own 0 other vs s k) (block_pause own (l.at + 1) rest)) test ∙ ap (λ i. around (spot i false vs) (block_pause own 0 first vs s k) (block_pause own (l.at + 1) rest)) (sym t.3))

pub on_else : (p : List CheckedMethod) (ops : List Operation) (own : ℕ) (path : List Spot) (positions : List ℕ) (from : ℕ) (vs : List ℤ) (s : State) (n : ℕ) (whole : Pause) (l : Leads p ops own path positions from vs s n whole) → (at : ℕ) (e : FlatExpression) (to otherwise : BlockPlace) (x : ℤ) (k : ℕ) (longer : List Spot) (later : List ℕ) → slice_get ops from ≡ Some (op.IfElse at e to otherwise) → counted_value own vs s n (flat_tree e) ≡ Ok (x, k) → is_nonzero x ≡ false → longer ≡ spot at true vs ∷ path → later ≡ set positions (length l.outer) (from + 1) → length positions ≡ 32 → Leads p ops own longer later otherwise.first vs s k whole
on_else p ops own path positions from vs s n whole l at e to otherwise x k longer later is counted test new moved wide =
    let t = told ops from l.at l.left (op.IfElse at e to otherwise) is l.here.lies in
    let r = subst (IsRunnable p (length vs)) t.4 l.here.runnable in
    let first = t.0 in
    let other = t.1 in
    let rest = t.2 in
    let d : nesting l.left ≡ max (max (1 + nesting first) (1 + nesting other)) (nesting rest) = ap nesting t.4 in
    opens p ops own path positions from vs s n whole l otherwise.first other (spot at true vs) (from + 1) (l.at + 1) rest k longer later
    (record { lies = t.6.1; runnable = (r.0.2, omega (arith, r.1)); deep = omega (arith, d, l.here.deep); early = omega arith })
    (record { lies = t.7; runnable = (r.0.3, omega (arith, r.1)); deep = omega (arith, d, l.here.deep); early = omega (arith, l.here.early) })
    refl new moved (omega (arith, d, l.here.deep, wide))
    (ap (λ c. block_pause own l.at c vs s n) t.4 ∙ ap (λ (o : Result (ℤ × ℕ) ℕ). unless_failed s (min (n + 1) 10000) o (λ y. if is_nonzero y.0 then around (spot l.at false vs) (block_pause own 0 first vs s y.1) (block_pause own (l.at + 1) rest) else around (spot l.at true vs) (block_pause own 0 other vs s y.1) (block_pause own (l.at + 1) rest))) counted ∙ ap (λ (b : Bool). if b then around (spot l.at false vs) (block_pause own 0 first vs s k) (block_pause own (l.at + 1) rest) else around (spot l.at true vs) (block_pause own 0 other vs s k) (block_pause own (l.at + 1) rest)) test ∙ ap (λ i. around (spot i true vs) (block_pause own 0 other vs s k) (block_pause own (l.at + 1) rest)) (sym t.3))

pub on_while : (p : List CheckedMethod) (ops : List Operation) (own : ℕ) (path : List Spot) (positions : List ℕ) (from : ℕ) (vs : List ℤ) (s : State) (n : ℕ) (whole : Pause) (l : Leads p ops own path positions from vs s n whole) → (at : ℕ) (e : FlatExpression) (to : BlockPlace) (x : ℤ) (k : ℕ) (longer : List Spot) (later : List ℕ) → n ≤ 10000 → slice_get ops from ≡ Some (op.While at e to) → counted_value own vs s n (flat_tree e) ≡ Ok (x, k) → is_nonzero x ≡ true → longer ≡ spot at false vs ∷ path → later ≡ set positions (length l.outer) from → length positions ≡ 32 → Leads p ops own longer later to.first vs s k whole
on_while p ops own path positions from vs s n whole l at e to x k longer later few is counted test new moved wide =
    let t = told ops from l.at l.left (op.While at e to) is l.here.lies in
    let r = subst (IsRunnable p (length vs)) t.3 l.here.runnable in
    let body = t.0 in
    let rest = t.1 in
    let d : nesting l.left ≡ max (1 + nesting body) (nesting rest) = ap nesting t.3 in
    let one = counted_one own vs s n (flat_tree e) x k counted in
    opens p ops own path positions from vs s n whole l to.first body (spot at false vs) from l.at l.left k longer later
    (record { lies = t.4.1; runnable = (r.0.1, omega (arith, r.1)); deep = omega (arith, d, l.here.deep); early = omega arith })
    l.here refl new moved (omega (arith, d, l.here.deep, wide))
    (ap (λ c. block_pause own l.at c vs s n) t.3 ∙ while_is own l.at (flat_tree e) body rest vs s n few ∙ ap (λ (o : Result (ℤ × ℕ) ℕ). unless_failed s (min (n + 1) 10000) o (turn (10000 - n) l.at own (flat_tree e) (block_pause own 0 body) (block_pause own (l.at + 1) rest) vs s)) counted ∙ ap (λ (b : Bool). if b then around (spot l.at false vs) (block_pause own 0 body vs s k) (loop_pause (10000 - n) l.at own (flat_tree e) (block_pause own 0 body) (block_pause own (l.at + 1) rest)) else block_pause own (l.at + 1) rest vs s k) test
    ∙ turn_again own l.at (flat_tree e) body rest vs s n k few one.0 one.1
    ∙ ap (λ c. around (spot l.at false vs) (block_pause own 0 body vs s k) (block_pause own l.at c)) (sym t.3)
    ∙ ap (λ i. around (spot i false vs) (block_pause own 0 body vs s k) (block_pause own l.at l.left)) (sym t.2))

pub on_while_not : (p : List CheckedMethod) (ops : List Operation) (own : ℕ) (path : List Spot) (positions : List ℕ) (from : ℕ) (vs : List ℤ) (s : State) (n : ℕ) (whole : Pause) (l : Leads p ops own path positions from vs s n whole) → (at : ℕ) (e : FlatExpression) (to : BlockPlace) (x : ℤ) (k : ℕ) → n ≤ 10000 → slice_get ops from ≡ Some (op.While at e to) → counted_value own vs s n (flat_tree e) ≡ Ok (x, k) → is_nonzero x ≡ false → Leads p ops own path positions (from + 1) vs s k whole
on_while_not p ops own path positions from vs s n whole l at e to x k few is counted test =
    let t = told ops from l.at l.left (op.While at e to) is l.here.lies in
    let r = subst (IsRunnable p (length vs)) t.3 l.here.runnable in
    let body = t.0 in
    let rest = t.1 in
    let d : nesting l.left ≡ max (1 + nesting body) (nesting rest) = ap nesting t.3 in
    stays p ops own path positions from vs s n whole l (from + 1) (l.at + 1) rest vs s k
    (record { lies = t.5; runnable = (r.0.2, omega (arith, r.1)); deep = omega (arith, d, l.here.deep); early = omega (arith, l.here.early) })
    (omega arith)
    (ap (λ c. block_pause own l.at c vs s n) t.3 ∙ while_is own l.at (flat_tree e) body rest vs s n few ∙ ap (λ (o : Result (ℤ × ℕ) ℕ). unless_failed s (min (n + 1) 10000) o (turn (10000 - n) l.at own (flat_tree e) (block_pause own 0 body) (block_pause own (l.at + 1) rest) vs s)) counted ∙ ap (λ (b : Bool). if b then around (spot l.at false vs) (block_pause own 0 body vs s k) (loop_pause (10000 - n) l.at own (flat_tree e) (block_pause own 0 body) (block_pause own (l.at + 1) rest)) else block_pause own (l.at + 1) rest vs s k) test)

-- ---- a call

pub asked : (p : List CheckedMethod) (ops : List Operation) (own : ℕ) (path : List Spot) (positions : List ℕ) (from : ℕ) (vs : List ℤ) (s : State) (n : ℕ) (whole : Pause) (l : Leads p ops own path positions from vs s n whole) → (at : ℕ) (e : FlatExpression) (m : ℕ) (es : Vec FlatExpression Global) → slice_get ops from ≡ Some (op.Call at e m es) → IsClosedCall p m (length (map flat_tree es.items)) × AllByRecursion (IsClosedExpression (length vs)) (map flat_tree es.items) × (at ≤ from)
asked p ops own path positions from vs s n whole l at e m es is =
    let t = told ops from l.at l.left (op.Call at e m es) is l.here.lies in
    let r = subst (IsRunnable p (length vs)) t.4 l.here.runnable in
    (r.0.2, r.0.3, omega (arith, t.3, l.here.early))

abbrev calling : ℕ → ℕ → State → ℤ × ℕ → List ℤ → List ℤ → Pause
calling at m s y vs xs = Calling y.0 m xs (record { path = []; next = at + 1; variables = vs }) s y.1

pub on_call : (p : List CheckedMethod) (ops : List Operation) (own : ℕ) (path : List Spot) (positions : List ℕ) (from : ℕ) (vs : List ℤ) (s : State) (n : ℕ) (whole : Pause) (l : Leads p ops own path positions from vs s n whole) → (at : ℕ) (e : FlatExpression) (m : ℕ) (es : Vec FlatExpression Global) (x : ℤ) (k : ℕ) (xs : List ℤ) (items : List Spot) (next : ℕ) → slice_get ops from ≡ Some (op.Call at e m es) → counted_value own vs s n (flat_tree e) ≡ Ok (x, k) → values_of own vs s (map flat_tree es.items) ≡ Ok xs → path ≡ reverse items → next ≡ at + 1 → whole ≡ Calling x m xs (record { path = items; next = next; variables = vs }) s k
on_call p ops own path positions from vs s n whole l at e m es x k xs items next is counted given back behind =
    let t = told ops from l.at l.left (op.Call at e m es) is l.here.lies in
    let there : next ≡ l.at + 1 = omega (arith, behind, t.3) in
    ends_calling p ops own path positions from vs s n whole l x m xs items next s k back
    (ap (λ c. block_pause own l.at c vs s n) t.4 ∙ ap (λ (o : Result (ℤ × ℕ) ℕ). unless_failed s (min (n + 1) 10000) o (λ y. unless_failed s y.1 (values_of own vs s (map flat_tree es.items)) (calling l.at m s y vs))) counted ∙ ap (λ (o : Result (List ℤ) ℕ). unless_failed s k o (calling l.at m s (x, k) vs)) given ∙ ap (λ i. Calling x m xs (record { path = []; next = i; variables = vs }) s k) (sym there))

pub on_call_failed : (p : List CheckedMethod) (ops : List Operation) (own : ℕ) (path : List Spot) (positions : List ℕ) (from : ℕ) (vs : List ℤ) (s : State) (n : ℕ) (whole : Pause) (l : Leads p ops own path positions from vs s n whole) → (at : ℕ) (e : FlatExpression) (m : ℕ) (es : Vec FlatExpression Global) (x : ℤ) (k code : ℕ) → slice_get ops from ≡ Some (op.Call at e m es) → counted_value own vs s n (flat_tree e) ≡ Ok (x, k) → values_of own vs s (map flat_tree es.items) ≡ Err code → whole ≡ Failed code s k
on_call_failed p ops own path positions from vs s n whole l at e m es x k code is counted given =
    let t = told ops from l.at l.left (op.Call at e m es) is l.here.lies in
    ends_failed p ops own path positions from vs s n whole l code s k
    (ap (λ c. block_pause own l.at c vs s n) t.4 ∙ ap (λ (o : Result (ℤ × ℕ) ℕ). unless_failed s (min (n + 1) 10000) o (λ y. unless_failed s y.1 (values_of own vs s (map flat_tree es.items)) (calling l.at m s y vs))) counted ∙ ap (λ (o : Result (List ℤ) ℕ). unless_failed s k o (calling l.at m s (x, k) vs)) given)

-- ---- the end of a block

through : (p : List CheckedMethod) (ops : List Operation) (own : ℕ) (path : List Spot) (positions : List ℕ) (from : ℕ) (vs : List ℤ) (s : State) (n : ℕ) (whole : Pause) (l : Leads p ops own path positions from vs s n whole) → slice_get ops from ≡ Some op.End → whole ≡ given_at_end (onward own l.outer (Through vs s n))
through p ops own path positions from vs s n whole l is =
    let t = told ops from l.at l.left (op.End) is l.here.lies in
    l.meant ∙ ap (λ c. given_at_end (onward own l.outer (block_pause own l.at c vs s n))) t.1

ended_by : (own : ℕ) (vs : List ℤ) (s : State) (n : ℕ) (whole : Pause) (os : List Outer) → [] ≡ spots_of os → whole ≡ given_at_end (onward own os (Through vs s n)) → whole ≡ Returned (pos 0) s n
ended_by own vs s n whole [] h is = is
ended_by own vs s n whole (o ∷ os) h is = absurd (let e : 0 ≡ suc (length (spots_of os)) = ap length h in omega (arith, e))

pub on_end : (p : List CheckedMethod) (ops : List Operation) (own : ℕ) (path : List Spot) (positions : List ℕ) (from : ℕ) (vs : List ℤ) (s : State) (n : ℕ) (whole : Pause) (l : Leads p ops own path positions from vs s n whole) → slice_get ops from ≡ Some op.End → path ≡ [] → whole ≡ Returned (pos 0) s n
on_end p ops own path positions from vs s n whole l is none = ended_by own vs s n whole l.outer (sym none ∙ l.spots) (through p ops own path positions from vs s n whole l is)

left_by : (p : List CheckedMethod) (ops : List Operation) (own : ℕ) (positions : List ℕ) (vs : List ℤ) (s : State) (n : ℕ) (whole : Pause) (q : Spot) (qs : List Spot) (os : List Outer) (to levels : ℕ) (ws : List ℤ) → AreLeft p ops positions (length vs) os → q ∷ qs ≡ spots_of os → whole ≡ given_at_end (onward own os (Through vs s n)) → levels ≡ length qs → to ≡ get_or positions levels 0 → ws ≡ take q.keep vs
    → Leads p ops own qs positions to ws s n whole
left_by p ops own positions vs s n whole q qs [] to levels ws h e is count there kept_only = absurd (let z : suc (length qs) ≡ 0 = ap length e in omega (arith, z))
left_by p ops own positions vs s n whole q qs (o ∷ os) to levels ws h e is count there kept_only =
    let same : q ≡ o.spot = ap (λ (xs : List Spot). get_or xs 0 q) e in
    let rest : qs ≡ spots_of os = ap (λ (xs : List Spot). drop 1 xs) e in
    let few : levels ≡ length os = count ∙ ap length rest ∙ length-map os (λ (x : Outer). x.spot) in
    let new : ws ≡ take o.spot.keep vs = kept_only ∙ ap (λ (z : Spot). take z.keep vs) same in
    let len : length ws ≡ o.spot.keep = ap length new ∙ length-take o.spot.keep vs ∙ (let m : min o.spot.keep (length vs) ≡ o.spot.keep = omega (arith, h.0) in m) in
    let L : ℕ → ℕ → Type 0 = λ i m. IsLeft p ops i o.at (length os) m o.code in
    let here : IsLeft p ops to o.at (length os) (length ws) o.code = subst (λ i. L i (length ws)) (sym (there ∙ ap (λ i. get_or positions i 0) few)) (subst (L (get_or positions (length os) 0)) (sym len) h.1) in
    let B : ℕ → Type 0 = λ m. AreLeft p ops positions m os in
    record {
      outer = os;
      at = o.at;
      left = o.code;
      here = here;
      behind = subst B (sym len) h.2;
      spots = rest;
      meant = is ∙ ap (λ us. given_at_end (onward own os (block_pause own o.at o.code us s n))) (sym new);
    }

pub on_leave : (p : List CheckedMethod) (ops : List Operation) (own : ℕ) (path : List Spot) (positions : List ℕ) (from : ℕ) (vs : List ℤ) (s : State) (n : ℕ) (whole : Pause) (l : Leads p ops own path positions from vs s n whole) → slice_get ops from ≡ Some op.End → (q : Spot) (qs : List Spot) (to levels : ℕ) (ws : List ℤ) → path ≡ q ∷ qs → levels ≡ length qs → to ≡ get_or positions levels 0 → ws ≡ take q.keep vs → Leads p ops own qs positions to ws s n whole
on_leave p ops own path positions from vs s n whole l is q qs to levels ws some count there kept_only = left_by p ops own positions vs s n whole q qs l.outer to levels ws l.behind (sym some ∙ l.spots) (through p ops own path positions from vs s n whole l is) count there kept_only

pub levels_of : (p : List CheckedMethod) (ops : List Operation) (own : ℕ) (path : List Spot) (positions : List ℕ) (from : ℕ) (vs : List ℤ) (s : State) (n : ℕ) (whole : Pause) (l : Leads p ops own path positions from vs s n whole) → length path ≡ length l.outer
levels_of p ops own path positions from vs s n whole l = ap length l.spots ∙ length-map l.outer (λ (x : Outer). x.spot)

pub few_levels : (p : List CheckedMethod) (ops : List Operation) (own : ℕ) (path : List Spot) (positions : List ℕ) (from : ℕ) (vs : List ℤ) (s : State) (n : ℕ) (whole : Pause) (l : Leads p ops own path positions from vs s n whole) → length path < 32
few_levels p ops own path positions from vs s n whole l = omega (arith, levels_of p ops own path positions from vs s n whole l, some_level l.left, l.here.deep)

pub on_either : (p : List CheckedMethod) (ops : List Operation) (own : ℕ) (path : List Spot) (positions : List ℕ) (from : ℕ) (vs : List ℤ) (s : State) (n : ℕ) (whole : Pause) (l : Leads p ops own path positions from vs s n whole) → (at : ℕ) (e : FlatExpression) (to otherwise : BlockPlace) (x : ℤ) (k : ℕ) (longer : List Spot) (later : List ℕ) (b : Bool) (go : ℕ) → slice_get ops from ≡ Some (op.IfElse at e to otherwise) → counted_value own vs s n (flat_tree e) ≡ Ok (x, k) → is_nonzero x ≡ b → longer ≡ spot at (not b) vs ∷ path → later ≡ set positions (length l.outer) (from + 1) → length positions ≡ 32 → go ≡ (if b then to.first else otherwise.first) → Leads p ops own longer later go vs s k whole
on_either p ops own path positions from vs s n whole l at e to otherwise x k longer later true go is counted test new moved wide there = let P : ℕ → Type 0 = λ i. Leads p ops own longer later i vs s k whole in subst P (sym there) (on_then p ops own path positions from vs s n whole l at e to otherwise x k longer later is counted test new moved wide)
on_either p ops own path positions from vs s n whole l at e to otherwise x k longer later false go is counted test new moved wide there = let P : ℕ → Type 0 = λ i. Leads p ops own longer later i vs s k whole in subst P (sym there) (on_else p ops own path positions from vs s n whole l at e to otherwise x k longer later is counted test new moved wide)

few_by : (p : List CheckedMethod) (m k : ℕ) → IsClosedProgram p → IsClosedCall p m k → k ≤ 8
few_by p m k closed h = omega (arith, (All-get_or (IsClosedMethod p) p m no_method h.0 (All-from_recursion (IsClosedMethod p) p closed.methods)).parameters, h.1)

pub few_asked : (p : List CheckedMethod) (ops : List Operation) (own : ℕ) (path : List Spot) (positions : List ℕ) (from : ℕ) (vs : List ℤ) (s : State) (n : ℕ) (whole : Pause) (l : Leads p ops own path positions from vs s n whole) → IsClosedProgram p → (at : ℕ) (e : FlatExpression) (m : ℕ) (es : Vec FlatExpression Global) → slice_get ops from ≡ Some (op.Call at e m es) → length es.items ≤ 8
few_asked p ops own path positions from vs s n whole l closed at e m es is = omega (arith, few_by p m (length (map flat_tree es.items)) closed (asked p ops own path positions from vs s n whole l at e m es is).0, length-map es.items flat_tree)

abbrev code_of : {X : Type 0} → Result X ℕ → ℕ
code_of (Ok x) = 0
code_of (Err code) = code

pub same_code : {X : Type 0} (a b : ℕ) → (let r : Result X ℕ = Err a in r ≡ Err b) → a ≡ b
same_code a b h = ap code_of h
