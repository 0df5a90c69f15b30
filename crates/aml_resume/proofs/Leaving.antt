-- A body that only reads leaves the actor's state at each of its pauses, and calls only methods that promise only to read.
use Rattle.std.proofs.Common.{ℕ, zero, suc, ◌+◌, ◌-◌, min, Bool, true, false, ℤ, Result, Ok, Err, List, [], ◌∷◌, ◌++◌, take, set, refl, subst}
use Rattle.std.specs.Prelude.{if◌then◌else◌}
use Rattle.snap_base.specs.declared.transactions.State.{State}
use Rattle.aml_tree.specs.Tree.{Expr, Code, End, Let, Call, Set, SetField, If, IfElse, While, Fail, Return, CheckedMethod}
use Rattle.aml_check.specs.declared.limits.TheConstants.{MOST_STATEMENTS}
use Rattle.aml_check.specs.Closed.{OnlyReads}
use Rattle.aml_check.specs.Meaning.{is_nonzero, values_of}
use Rattle.aml_resume.specs.declared.places.Spot.{Spot}
use Rattle.aml_resume.specs.Places.{Standing, behind_some, inner_of, after_inner, place_behind}
use Rattle.aml_resume.specs.Pausing.{Pause, Through, Returned, Calling, Failed, unless_failed, one_more, counted_value, counting, spot, around, loop_pause, block_pause, pause_from, given_at_end, method_pause}
use Rattle.aml_resume.specs.Reading.{LeavesState}

-- whatever state is found, what goes on leaves it
abbrev Leaves : List CheckedMethod → (List ℤ → State → ℕ → Pause) → Type 0
Leaves p next = (vs : List ℤ) (t : State) (n : ℕ) → LeavesState p t (next vs t n)

unless_leaves : {A : Type 0} (p : List CheckedMethod) (s : State) (n : ℕ) (o : Result A ℕ) (next : A → Pause) → ((x : A) → LeavesState p s (next x)) → LeavesState p s (unless_failed s n o next)
unless_leaves p s n (Ok x) next h = h x
unless_leaves p s n (Err code) next h = refl

counting_leaves : (p : List CheckedMethod) (own : ℕ) (vs : List ℤ) (s : State) (n : ℕ) (e : Expr ℕ) (next : ℤ × ℕ → Pause) → ((x : ℤ × ℕ) → LeavesState p s (next x)) → LeavesState p s (counting own vs s n e next)
counting_leaves p own vs s n e next h = unless_leaves p s (min (n + 1) MOST_STATEMENTS) (counted_value own vs s n e) next h

around_leaves : (p : List CheckedMethod) (s : State) (q : Spot) (x : Pause) (next : List ℤ → State → ℕ → Pause) → LeavesState p s x → Leaves p next → LeavesState p s (around q x next)
around_leaves p s q (Through vs t n) next h k = subst (λ (u : State). LeavesState p u (next (take q.keep vs) t n)) h (k (take q.keep vs) t n)
around_leaves p s q (Returned v t n) next h k = h
around_leaves p s q (Calling target m es g t n) next h k = h
around_leaves p s q (Failed code t n) next h k = h

test_leaves : (p : List CheckedMethod) (s : State) (b : Bool) (x y : Pause) → LeavesState p s x → LeavesState p s y → LeavesState p s (if b then x else y)
test_leaves p s true x y h k = h
test_leaves p s false x y h k = k

loop_leaves : (p : List CheckedMethod) (more at own : ℕ) (e : Expr ℕ) (body next : List ℤ → State → ℕ → Pause) → Leaves p body → Leaves p next → Leaves p (loop_pause more at own e body next)
loop_leaves p zero at own e body next h k vs t n = refl
loop_leaves p (suc more) at own e body next h k vs t n =
    counting_leaves p own vs t n e (λ x. if is_nonzero x.0 then around (spot at false vs) (body vs t x.1) (loop_pause more at own e body next) else next vs t x.1)
    (λ x.
    test_leaves p t (is_nonzero x.0) (around (spot at false vs) (body vs t x.1) (loop_pause more at own e body next)) (next vs t x.1)
    (around_leaves p t (spot at false vs) (body vs t x.1) (loop_pause more at own e body next) (h vs t x.1) (loop_leaves p more at own e body next h k)) (k vs t x.1))

block_leaves : (p : List CheckedMethod) (own at : ℕ) (b : Code ℕ ℕ) → OnlyReads p b → Leaves p (block_pause own at b)
block_leaves p own at (End line) r vs t n = refl
block_leaves p own at (Let line v e rest) r vs t n =
    counting_leaves p own vs t n e (λ x. block_pause own (at + 1) rest (vs ++ x.0 ∷ []) t x.1) (λ x. block_leaves p own (at + 1) rest r (vs ++ x.0 ∷ []) t x.1)
block_leaves p own at (Call line v e m es rest) r vs t n =
    counting_leaves p own vs t n e (λ x. unless_failed t x.1 (values_of own vs t es) (λ xs. Calling x.0 m xs (record { path = []; next = at + 1; variables = vs }) t x.1))
    (λ x. unless_leaves p t x.1 (values_of own vs t es) (λ xs. Calling x.0 m xs (record { path = []; next = at + 1; variables = vs }) t x.1) (λ xs. (refl, r.0)))
block_leaves p own at (Set v e rest) r vs t n =
    counting_leaves p own vs t n e (λ x. block_pause own (at + 1) rest (set vs v x.0) t x.1) (λ x. block_leaves p own (at + 1) rest r (set vs v x.0) t x.1)
block_leaves p own at (SetField line k e rest) r vs t n = absurd r
block_leaves p own at (If e first rest) r vs t n =
    counting_leaves p own vs t n e (λ x. if is_nonzero x.0 then around (spot at false vs) (block_pause own 0 first vs t x.1) (block_pause own (at + 1) rest) else block_pause own (at + 1) rest vs t x.1)
    (λ x.
    test_leaves p t (is_nonzero x.0) (around (spot at false vs) (block_pause own 0 first vs t x.1) (block_pause own (at + 1) rest)) (block_pause own (at + 1) rest vs t x.1)
    (around_leaves p t (spot at false vs) (block_pause own 0 first vs t x.1) (block_pause own (at + 1) rest) (block_leaves p own 0 first r.0 vs t x.1) (block_leaves p own (at + 1) rest r.1))
    (block_leaves p own (at + 1) rest r.1 vs t x.1))
block_leaves p own at (IfElse e first other rest) r vs t n =
    counting_leaves p own vs t n e
    (λ x. if is_nonzero x.0 then around (spot at false vs) (block_pause own 0 first vs t x.1) (block_pause own (at + 1) rest) else around (spot at true vs) (block_pause own 0 other vs t x.1) (block_pause own (at + 1) rest))
    (λ x.
    test_leaves p t (is_nonzero x.0) (around (spot at false vs) (block_pause own 0 first vs t x.1) (block_pause own (at + 1) rest)) (around (spot at true vs) (block_pause own 0 other vs t x.1) (block_pause own (at + 1) rest))
    (around_leaves p t (spot at false vs) (block_pause own 0 first vs t x.1) (block_pause own (at + 1) rest) (block_leaves p own 0 first r.0 vs t x.1) (block_leaves p own (at + 1) rest r.2))
    (around_leaves p t (spot at true vs) (block_pause own 0 other vs t x.1) (block_pause own (at + 1) rest) (block_leaves p own 0 other r.1 vs t x.1) (block_leaves p own (at + 1) rest r.2)))
block_leaves p own at (While e body rest) r vs t n =
    loop_leaves p (1 + MOST_STATEMENTS - n) at own e (block_pause own 0 body) (block_pause own (at + 1) rest) (block_leaves p own 0 body r.0) (block_leaves p own (at + 1) rest r.1) vs t n
block_leaves p own at (Fail code rest) r vs t n = unless_leaves p t n (one_more n) (Failed code t) (λ k. refl)
block_leaves p own at (Return e rest) r vs t n = counting_leaves p own vs t n e (λ x. Returned x.0 t x.1) (λ x. refl)

-- ---- what is left of a body that only reads

behind_reads : (p : List CheckedMethod) (n : ℕ) (b : Code ℕ ℕ) → OnlyReads p b → OnlyReads p (behind_some n b)
behind_reads p zero b r = r
behind_reads p (suc n) (End line) r = tt
behind_reads p (suc n) (Let line v e rest) r = behind_reads p n rest r
behind_reads p (suc n) (Call line v e m es rest) r = behind_reads p n rest r.1
behind_reads p (suc n) (Set v e rest) r = behind_reads p n rest r
behind_reads p (suc n) (SetField line k e rest) r = absurd r
behind_reads p (suc n) (If e first rest) r = behind_reads p n rest r.1
behind_reads p (suc n) (IfElse e first other rest) r = behind_reads p n rest r.2
behind_reads p (suc n) (While e body rest) r = behind_reads p n rest r.1
behind_reads p (suc n) (Fail code rest) r = behind_reads p n rest r
behind_reads p (suc n) (Return e rest) r = behind_reads p n rest r

inner_reads : (p : List CheckedMethod) (other : Bool) (b : Code ℕ ℕ) → OnlyReads p b → OnlyReads p (inner_of other b)
inner_reads p true (If e first rest) r = r.0
inner_reads p false (If e first rest) r = r.0
inner_reads p true (IfElse e first other rest) r = r.1
inner_reads p false (IfElse e first other rest) r = r.0
inner_reads p true (While e body rest) r = r.0
inner_reads p false (While e body rest) r = r.0
inner_reads p true _ r = tt
inner_reads p false _ r = tt

after_reads : (p : List CheckedMethod) (b : Code ℕ ℕ) → OnlyReads p b → OnlyReads p (after_inner b)
after_reads p (If e first rest) r = r.1
after_reads p (IfElse e first other rest) r = r.2
after_reads p (While e body rest) r = r
after_reads p _ r = tt

-- ---- from where a method stands

from_leaves : (p : List CheckedMethod) (own : ℕ) (b : Code ℕ ℕ) (qs : List Spot) (next : ℕ) → OnlyReads p b → Leaves p (pause_from own b qs next)
from_leaves p own b [] next r vs t n = block_leaves p own next (behind_some next b) (behind_reads p next b r) vs t n
from_leaves p own b (q ∷ qs) next r vs t n =
    let here = behind_some q.at b in
    let left : OnlyReads p (behind_some q.at b) = behind_reads p q.at b r in
    around_leaves p t q (pause_from own (inner_of q.other here) qs next vs t n) (block_pause own (place_behind q.at here) (after_inner here))
    (from_leaves p own (inner_of q.other here) qs next (inner_reads p q.other here left) vs t n) (block_leaves p own (place_behind q.at here) (after_inner here) (after_reads p here left))

end_leaves : (p : List CheckedMethod) (s : State) (x : Pause) → LeavesState p s x → LeavesState p s (given_at_end x)
end_leaves p s (Through vs t n) h = h
end_leaves p s (Returned v t n) h = h
end_leaves p s (Calling target m es g t n) h = h
end_leaves p s (Failed code t n) h = h

pub reading_leaves : (p : List CheckedMethod) (own : ℕ) (body : Code ℕ ℕ) (f : Standing) (s : State) (n : ℕ) → OnlyReads p body → LeavesState p s (method_pause own body f s n)
reading_leaves p own body f s n r = end_leaves p s (pause_from own body f.path f.next f.variables s n) (from_leaves p own body f.path f.next r f.variables s n)
