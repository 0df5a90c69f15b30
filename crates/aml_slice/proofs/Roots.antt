-- A transaction's root is always admitted, and what its control is then.
use Rattle.std.proofs.Common.{◌≡◌, ◌≢◌, ℕ, zero, suc, ◌+◌, ◌<◌, ◌≤◌, ◌⊎◌, inl, inr, nat_lt, ◌==◌, Bool, true, false, if◌then◌else◌, ℤ, Result, Ok, Err, Option, Some, List, [], ◌∷◌, length, map, get_or, refl, sym, ap, ◌∙◌, subst, arith}
use Rattle.std.specs.List.{AllByRecursion, Contains}
use Rattle.std.proofs.lemmas.Bool.Decides.{nat_tests}
use Rattle.snap_base.specs.declared.ids.ActorId.{ActorId}
use Rattle.snap_base.specs.declared.ids.Tid.{Tid}
use Rattle.snap_base.specs.declared.transactions.Kind.{Kind}
use Rattle.snap_base.specs.declared.transactions.Kind.TheVariants.{Pact, Act}
use Rattle.snap_base.specs.declared.transactions.State.{State}
use Rattle.snap_base.specs.declared.transactions.Tx.{Tx}
use Rattle.aml_tree.specs.Tree.{CheckedMethod}
use Rattle.aml_check.specs.Names.{method_at}
use Rattle.aml_check.specs.Closed.{IsClosedProgram}
use Rattle.aml_check.specs.Transactions.{IsUse, IsTransaction, Declares}
use Rattle.aml_check.specs.Meaning.{◌>>=◌, Progress, admitted, used, before, one_less, by_declaration, with_left, declaration, beginning, block, called, given, alone, ended_alone}
use Rattle.aml_slice.specs.Controls.{Frame, Rest, IsFrame, StandsOn, IsCallLeft, HasLeft, RestsOn, progress_in, fresh}
use Rattle.aml_slice.specs.Wholes.{rest_gives, BeginsTransaction}
use Rattle.aml_slice.proofs.Admissions.{Admits, admits}
use Rattle.aml_slice.proofs.Following.{fresh_frame}

-- ---- the root is declared

abbrev actors_of : List (ActorId × ℕ) → List ℕ
actors_of us = map (λ (u : ActorId × ℕ). u.0.0) us

abbrev IsSpent : ℕ → List (ActorId × ℕ) → Type 0
IsSpent a us = (vs : List (ActorId × ℕ)) × (used a us ≡ Some vs)

spent_here : (a : ℕ) (u : ActorId) (n : ℕ) (us : List (ActorId × ℕ)) → 1 ≤ n → (vs : List (ActorId × ℕ)) × (one_less u n us ≡ Some vs)
spent_here a u zero us some = absurd (omega arith)
spent_here a u (suc n) us some = ((u, n) ∷ us, refl)

spent_by : (a : ℕ) (u : ActorId × ℕ) (us : List (ActorId × ℕ)) (t : Bool) → (u.0.0 == a) ≡ t → 1 ≤ u.1 → (u.0.0 ≢ a → IsSpent a us)
    → (let o : Option (List (ActorId × ℕ)) = (if t then one_less u.0 u.1 us else before u (used a us)) in (vs : List (ActorId × ℕ)) × (o ≡ Some vs))
spent_by a u us true e some more = spent_here a u.0 u.1 us some
spent_by a u us false e some more =
    let other : u.0.0 ≢ a = grind (arith, nat_tests) in
    let m = more other in
    (u ∷ m.0, ap (before u) m.1)

declared_spent : (a n : ℕ) (us : List (ActorId × ℕ)) (k : ℕ) → AllByRecursion (IsUse n) us → k < length us → get_or (actors_of us) k a ≡ a → IsSpent a us
declared_spent a n [] k each within is = absurd (omega arith)
declared_spent a n (u ∷ us) zero each within is = spent_by a u us (u.0.0 == a) refl each.0.calls.0 (λ other. absurd (other is))
declared_spent a n (u ∷ us) (suc k) each within is = spent_by a u us (u.0.0 == a) refl each.0.calls.0 (λ other. declared_spent a n us k each.1 (omega arith) is)

length_actors : (us : List (ActorId × ℕ)) → length (actors_of us) ≡ length us
length_actors [] = refl
length_actors (u ∷ us) = ap (λ n. suc n) (length_actors us)

root_by : (p : List CheckedMethod) (n a : ℕ) (w : List State) (kind : Kind) (uses : List (ActorId × ℕ)) (code : ℕ) → Declares n a kind uses
    → by_declaration a (record { world = w; statements = 0; calls = 1; actors = a ∷ []; left = declaration kind uses }) (declaration kind uses) ≡ Err code → ⊥
root_by p n a w Act uses code declares e = cc
root_by p n a w Pact uses code declares e =
    let has = declares.root_declared in
    let s = declared_spent a n uses has.0 declares.each (omega (arith, has.1, length_actors uses)) has.2 in
    let r : Progress = record { world = w; statements = 0; calls = 1; actors = a ∷ []; left = Some uses } in
    let same : with_left (record { world = w; statements = 0; calls = 1; actors = a ∷ []; left = Some uses }) (Some s.0) ≡ Err code = ap (with_left (record { world = w; statements = 0; calls = 1; actors = a ∷ []; left = Some uses })) (sym s.1) ∙ e in
    cc

-- no root is refused
pub root_admitted : (p : List CheckedMethod) (n : ℕ) (w : List State) (tx : Tx) (code : ℕ) → IsTransaction p n tx → admitted tx.actor.0 (beginning w tx) ≡ Err code → ⊥
root_admitted p n w tx code is e = root_by p n tx.actor.0 w tx.kind tx.uses code is.declares e

-- ---- the whole transaction

last_bind : (o : Result (ℤ × Progress) ℕ) → (o >>= λ x. let y : Result (ℤ × Progress) ℕ = Ok (x.0, x.1) in y) ≡ o
last_bind (Ok x) = refl
last_bind (Err code) = refl

left_among : (us : List (ActorId × ℕ)) (a : ℕ) → IsCallLeft us a → Contains (actors_of us) a
left_among [] a h = absurd h
left_among (u ∷ us) a (inl here) = (0, omega arith, here.0)
left_among (u ∷ us) a (inr more) = (let k = left_among us a more in (k.0 + 1, omega (arith, k.1), (let e : k.0 + 1 ≡ suc k.0 = omega arith in rw e k.2)))

pub root_gives : (p : List CheckedMethod) (tid : Tid) (tx : Tx) (c : Rest) (w : List State) → tx.actor.0 < length w → admitted tx.actor.0 (beginning w tx) ≡ Ok (progress_in c w) → c.top ≡ fresh tx.actor.0 tx.method tx.args → c.waiting ≡ [] → alone p w tx ≡ ended_alone w (rest_gives p c w)
root_gives p tid tx c w known admits top none =
    let there : nat_lt tx.actor.0 (length w) ≡ true = grind (arith, nat_tests) in
    ap (ended_alone w)
    (ap (λ (b : Bool). let o : Result ℕ ℕ = (if b then Ok tx.actor.0 else Err 1004) in (o >>= λ a. admitted a (beginning w tx) >>= λ q. given (block (called p 15) a (method_at p tx.method).body tx.args q))) there
    ∙ ap (λ (o : Result Progress ℕ). o >>= λ q. given (block (called p 15) tx.actor.0 (method_at p tx.method).body tx.args q)) admits
    ∙ sym (last_bind (given (block (called p 15) tx.actor.0 (method_at p tx.method).body tx.args (progress_in c w))))
    ∙ ap (λ (z : Rest). rest_gives p (record c { top = z.top; waiting = z.waiting }) w) (let e : record c { top = fresh tx.actor.0 tx.method tx.args; waiting = [] } ≡ c = ap (λ (f : Frame). record c { top = f; waiting = [] }) (sym top) ∙ ap (λ (fs : List Frame). record c { waiting = fs }) (sym none) in e))

root_rests : (p : List CheckedMethod) (n : ℕ) (kind : Kind) (uses : List (ActorId × ℕ)) (root a : ℕ) → kind ≡ Pact → Declares n root kind uses → (root ≡ a) ⊎ HasLeft (declaration kind uses) a → Contains (actors_of uses) a
root_rests p n Act uses root a pact declares on = absurd cc
root_rests p n Pact uses root a pact declares (inl here) = let C : ℕ → Type 0 = λ b. Contains (actors_of uses) b in subst C here declares.root_declared
root_rests p n Pact uses root a pact declares (inr left) = left_among uses a left

root_declared : (p : List CheckedMethod) (n : ℕ) (tx : Tx) (c : Rest) (a : ℕ) → IsTransaction p n tx → tx.kind ≡ Pact → c.top ≡ fresh tx.actor.0 tx.method tx.args → c.waiting ≡ [] → (HasLeft c.left a → HasLeft (declaration tx.kind tx.uses) a) → RestsOn c a → Contains (actors_of tx.uses) a
root_declared p n tx c a is pact top none left on =
    let S : List Frame → Type 0 = λ fs. StandsOn fs a in
    root_rests p n tx.kind tx.uses tx.actor.0 a pact is.declares (elim on [
      | inl (inl here) ↦ inl (sym (ap (λ (f : Frame). f.actor) top) ∙ here)
      | inl (inr below) ↦ absurd (subst S none below)
      | inr more ↦ inr (left more)
    ])

pub root_begins : (p : List CheckedMethod) (n : ℕ) (tid : Tid) (tx : Tx) (c : Rest) → IsClosedProgram p → IsTransaction p n tx → ((w : List State) → admitted tx.actor.0 (beginning w tx) ≡ Ok (progress_in c w)) → c.top ≡ fresh tx.actor.0 tx.method tx.args → c.waiting ≡ [] → c.tid ≡ tid → BeginsTransaction p tid tx c
root_begins p n tid tx c closed is admitting top none id =
    let took : Admits tx.actor.0 (beginning [] tx) (progress_in c []) = admits tx.actor.0 (beginning [] tx) (progress_in c []) (admitting []) in
    record {
      whole = λ w known. root_gives p tid tx c w known (admitting w) top none;
      rest = λ count known. (
          let T : Frame → Type 0 = IsFrame p count 0 in
          let V : Frame → Type 0 = λ f. Contains c.actors f.actor in
          let W : List Frame → Type 0 = AllByRecursion (IsFrame p count 1) in
          let B : List Frame → Type 0 = AllByRecursion (λ (f : Frame). Contains c.actors f.actor) in
          record {
            top = subst T (sym top) (fresh_frame p count tx.actor.0 tx.method tx.args closed known is.method is.arguments);
            waiting = subst W (sym none) tt;
            open_calls = omega (arith, ap length none);
            statements = omega (arith, took.statements);
            calls = (omega (arith, took.calls.0), omega (arith, took.calls.0));
            actors = took.few (omega arith);
            visited = subst V (sym top) took.visited;
            visited_below = subst B (sym none) tt;
          });
      at = ap (λ (f : Frame). f.actor) top;
      id = id;
      moves = omega (arith, took.calls.0, ap length none);
      declared = λ pact a on. root_declared p n tx c a is pact top none (took.left a) on;
    }
