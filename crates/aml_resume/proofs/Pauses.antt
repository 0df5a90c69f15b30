-- A block gives what its pause goes on to, whatever calls give.
use Rattle.std.proofs.Common.{◌≡◌, ℕ, zero, suc, ◌+◌, ◌-◌, ◌≤◌, ◌<◌, min, nat_lt, Bool, true, false, if◌then◌else◌, ℤ, Result, Ok, Err, List, [], ◌∷◌, ◌++◌, length, take, set, refl, sym, ap, ◌∙◌, arith}
use Rattle.std.proofs.lemmas.Bool.Decides.{nat_tests}
use Rattle.std.proofs.lemmas.List.{take_all, length-take}
use Rattle.snap_base.specs.declared.transactions.State.{State}
use Rattle.aml_tree.specs.Tree.{Expr, Code, End, Let, Call, Set, SetField, If, IfElse, While, Fail, Return}
use Rattle.aml_check.specs.Meaning.{◌>>=◌, Progress, Exit, Goes, Gives, Caller, too_many_statements, statement_begun, state_at, value_of, values_of, with_field, is_nonzero, block, behind, turns}
use Rattle.aml_resume.specs.declared.places.Spot.{Spot}
use Rattle.aml_resume.specs.Places.{behind_some, inner_of, after_inner, place_behind}
use Rattle.aml_resume.specs.Pausing.{Pause, Through, Returned, Calling, Failed, unless_failed, one_more, counted_value, counting, around, spot, loop_pause, block_pause, pause_from}
use Rattle.aml_resume.specs.Resuming.{AtLeast, HasReached, IsCounted, moved, Rises, resumed, keeping}
use Rattle.aml_resume.proofs.Behinds.{behind_more}
use Rattle.aml_resume.proofs.MovedRuns.{at_moved, moved_twice, moved_same, with_run, counted_result, counted_so, counted_here}
use Rattle.aml_resume.proofs.Keeping.{behind_keeping, same_after, resumed_rises, keeping_after}
use Rattle.aml_resume.proofs.Rising.{Going, fewer}
use Rattle.aml_resume.proofs.Fuel.{while_again}

abbrev pub R : Type 0
R = Result (Exit × Progress) ℕ

-- what a pause in a block means
abbrev pub block_goes : ℕ → Code ℕ ℕ → Caller → Progress → Pause → R
block_goes own b call r (Through vs t k) = Ok (Goes vs, moved own t k r)
block_goes own b call r (Returned v t k) = Ok (Gives v, moved own t k r)
block_goes own b call r (Calling target m arguments g t k) = call target m arguments (moved own t k r) >>= λ x. resumed call own b g.path g.next (g.variables ++ x.0 ∷ []) x.1
block_goes own b call r (Failed code t k) = Err code

pub again : (own : ℕ) (b : Code ℕ ℕ) (call : Caller) (r : Progress) (s : State) (n : ℕ) (x : Pause) → block_goes own b call (moved own s n r) x ≡ block_goes own b call r x
again own b call r s n (Through vs t k) = ap (λ (z : Progress). let o : R = Ok (Goes vs, z) in o) (moved_twice own s t n k r)
again own b call r s n (Returned v t k) = ap (λ (z : Progress). let o : R = Ok (Gives v, z) in o) (moved_twice own s t n k r)
again own b call r s n (Calling target m arguments g t k) = ap (λ (z : Progress). call target m arguments z >>= λ x. resumed call own b g.path g.next (g.variables ++ x.0 ∷ []) x.1) (moved_twice own s t n k r)
again own b call r s n (Failed code t k) = refl

-- ---- a counted expression

joined_value : (o : Result ℤ ℕ) (q : Progress) (next : ℤ → Progress → R) → (o >>= λ v. next v q) ≡ (with_run q o >>= λ x. next x.0 x.1)
joined_value (Ok v) q next = refl
joined_value (Err code) q next = refl

joined_run : (o : Result Progress ℕ) (f : Progress → Result ℤ ℕ) (next : ℤ → Progress → R) → (o >>= λ q. f q >>= λ v. next v q) ≡ (counted_result o f >>= λ x. next x.0 x.1)
joined_run (Ok q) f next = joined_value (f q) q next
joined_run (Err code) f next = refl

by_count : (own : ℕ) (b : Code ℕ ℕ) (call : Caller) (r : Progress) (s : State) (j : ℕ) (o : Result (ℤ × ℕ) ℕ) (next : ℤ → Progress → R) (go : ℤ × ℕ → Pause) → ((x : ℤ) (k : ℕ) → o ≡ Ok (x, k) → next x (moved own s k r) ≡ block_goes own b call r (go (x, k)))
    → (counted_so own s r o >>= λ x. next x.0 x.1) ≡ block_goes own b call r (unless_failed s j o go)
by_count own b call r s j (Ok x) next go h = h x.0 x.1 refl
by_count own b call r s j (Err code) next go h = refl

-- a statement that begins with an expression
by_value : (own : ℕ) (b : Code ℕ ℕ) (call : Caller) (r : Progress) (vs : List ℤ) (s : State) (n : ℕ) (e : Expr ℕ) (next : ℤ → Progress → R) (go : ℤ × ℕ → Pause) → HasReached own s n r
    → ((x : ℤ) (k : ℕ) → counted_value own vs s n e ≡ Ok (x, k) → next x (moved own s k r) ≡ block_goes own b call r (go (x, k)))
    → (statement_begun r >>= λ q. value_of own vs (state_at q.world own) e >>= λ v. next v q) ≡ block_goes own b call r (counting own vs s n e go)
by_value own b call r vs s n e next go h on =
    joined_run (statement_begun r) (λ q. value_of own vs (state_at q.world own) e) next
    ∙ ap (λ (o : Result (ℤ × Progress) ℕ). o >>= λ x. next x.0 x.1) (counted_here own vs s n e r h)
    ∙ by_count own b call r s (min (n + 1) 10000) (counted_value own vs s n e) next go on

-- ---- inner blocks

after_any : (vs : List ℤ) (o : Result (ℤ × Progress) ℕ) (f : ℤ × Progress → R) (next : Going) → behind vs (o >>= f) next ≡ (o >>= λ x. behind vs (f x) next)
after_any vs (Ok x) f next = refl
after_any vs (Err code) f next = refl

-- an inner block at a spot of the block around it, and what goes on behind it
pub inner_goes : (own : ℕ) (q : Spot) (first rest b : Code ℕ ℕ) (call : Caller) (r : Progress) (x : Pause) (go : List ℤ → State → ℕ → Pause)
    → inner_of q.other (behind_some q.at b) ≡ first → after_inner (behind_some q.at b) ≡ rest
    → ((ws : List ℤ) (t : State) (j : ℕ) → block call own rest ws (moved own t j r) ≡ block_goes own b call r (go ws t j))
    → keeping q.keep (block_goes own first call r x) (block call own rest) ≡ block_goes own b call r (around q x go)
inner_goes own q first rest b call r (Through ws t j) go inner after on = on (take q.keep ws) t j
inner_goes own q first rest b call r (Returned v t j) go inner after on = refl
inner_goes own q first rest b call r (Calling target m arguments g t j) go inner after on =
    keeping_after q.keep (call target m arguments (moved own t j r)) (λ y. resumed call own first g.path g.next (g.variables ++ y.0 ∷ []) y.1) (block call own rest)
    ∙ ap (λ (c : Code ℕ ℕ). call target m arguments (moved own t j r) >>= λ y. keeping q.keep (resumed call own c g.path g.next (g.variables ++ y.0 ∷ []) y.1) (block call own rest)) (sym inner)
    ∙ ap (λ (c : Code ℕ ℕ). call target m arguments (moved own t j r) >>= λ y. keeping q.keep (resumed call own (inner_of q.other (behind_some q.at b)) g.path g.next (g.variables ++ y.0 ∷ []) y.1) (block call own c)) (sym after)
inner_goes own q first rest b call r (Failed code t j) go inner after on = refl

-- the same of a block that was entered with its variables
entered_goes : (own at : ℕ) (other : Bool) (vs : List ℤ) (first rest b : Code ℕ ℕ) (call : Caller) (r z : Progress) (x : Pause) (go : List ℤ → State → ℕ → Pause)
    → block call own first vs z ≡ block_goes own first call r x
    → inner_of other (behind_some at b) ≡ first → after_inner (behind_some at b) ≡ rest
    → ((ws : List ℤ) (t : State) (j : ℕ) → block call own rest ws (moved own t j r) ≡ block_goes own b call r (go ws t j))
    → behind vs (block call own first vs z) (block call own rest) ≡ block_goes own b call r (around (spot at other vs) x go)
entered_goes own at other vs first rest b call r z x go runs inner after on =
    ap (λ (o : R). behind vs o (block call own rest)) runs
    ∙ behind_keeping vs (block_goes own first call r x) (block call own rest)
    ∙ inner_goes own (spot at other vs) first rest b call r x go inner after on

-- a block that is not entered
passed : (vs : List ℤ) (z : Progress) (next : Going) → behind vs (Ok (Goes vs, z)) next ≡ next vs z
passed vs z next = ap (λ (us : List ℤ). next us z) (take_all (length vs) vs (let same : length vs ≤ length vs = omega arith in same))

by_choice : (t : Bool) (vs : List ℤ) (z : Progress) (next : Going) (x y : R) (u v : R) → behind vs x next ≡ u → behind vs y next ≡ v → behind vs (if t then x else y) next ≡ (if t then u else v)
by_choice true vs z next x y u v h k = h
by_choice false vs z next x y u v h k = k

-- ---- counts only rise, and are no more than a transaction may begin

less_counted : (m n : ℕ) (x : Pause) → m ≤ n → IsCounted n x → IsCounted m x
less_counted m n (Through vs t k) less h = (omega (arith, less, h.0), h.1)
less_counted m n (Returned v t k) less h = (omega (arith, less, h.0), h.1)
less_counted m n (Calling target q arguments g t k) less h = (omega (arith, less, h.0), h.1)
less_counted m n (Failed code t k) less h = (omega (arith, less, h.0), h.1)

abbrev second_or : ℕ → Result (ℤ × ℕ) ℕ → ℕ
second_or n (Ok x) = x.1
second_or n (Err code) = n

abbrev counted_if : Bool → ℕ → Result ℤ ℕ → Result (ℤ × ℕ) ℕ
counted_if b n o = (if b then Ok (n + 1) else Err too_many_statements) >>= λ j. o >>= λ v. Ok (v, j)

one_by : (b : Bool) (n : ℕ) (o : Result ℤ ℕ) (x : ℤ) (k : ℕ) → nat_lt n 10000 ≡ b → counted_if b n o ≡ Ok (x, k) → (k ≡ n + 1) × (k ≤ 10000)
one_by true n (Ok v) x k test e =
    let below : n < 10000 = grind (arith, nat_tests) in
    let same : k ≡ n + 1 = sym (ap (second_or 0) e) in
    (same, omega (arith, same, below))
one_by true n (Err code) x k test e = absurd cc
one_by false n o x k test e = absurd cc

pub counted_one : (own : ℕ) (vs : List ℤ) (s : State) (n : ℕ) (e : Expr ℕ) (x : ℤ) (k : ℕ) → counted_value own vs s n e ≡ Ok (x, k) → (k ≡ n + 1) × (k ≤ 10000)
counted_one own vs s n e x k is = one_by (nat_lt n 10000) n (value_of own vs s e) x k refl is

counted_so_far : (b : Bool) (n k : ℕ) → nat_lt n 10000 ≡ b → (let o : Result ℕ ℕ = (if b then Ok (n + 1) else Err too_many_statements) in o ≡ Ok k) → (k ≡ n + 1) × (k ≤ 10000)
counted_so_far true n k test e =
    let below : n < 10000 = grind (arith, nat_tests) in
    let same : n + 1 ≡ k = cc in
    (sym same, omega (arith, same, below))
counted_so_far false n k test e = absurd cc

counts_value : {A : Type 0} (n j : ℕ) (s : State) (o : Result A ℕ) (go : A → Pause) → n ≤ j → j ≤ 10000 → ((x : A) → o ≡ Ok x → IsCounted n (go x)) → IsCounted n (unless_failed s j o go)
counts_value n j s (Ok x) go more few h = h x refl
counts_value n j s (Err code) go more few h = (more, few)

counts_around : (n : ℕ) (q : Spot) (x : Pause) (go : List ℤ → State → ℕ → Pause) → IsCounted n x → ((ws : List ℤ) (t : State) (k : ℕ) → k ≤ 10000 → IsCounted k (go ws t k)) → IsCounted n (around q x go)
counts_around n q (Through vs t k) go h on = less_counted n k (go (take q.keep vs) t k) h.0 (on (take q.keep vs) t k h.1)
counts_around n q (Returned v t k) go h on = h
counts_around n q (Calling target m arguments g t k) go h on = h
counts_around n q (Failed code t k) go h on = h

counts_test : (t : Bool) (n : ℕ) (x y : Pause) → IsCounted n x → IsCounted n y → IsCounted n (if t then x else y)
counts_test true n x y h k = h
counts_test false n x y h k = k

-- a statement that counts before it goes on
counts_on : (own : ℕ) (vs : List ℤ) (s : State) (n : ℕ) (e : Expr ℕ) (go : ℤ × ℕ → Pause) → n ≤ 10000 → ((x : ℤ × ℕ) → x.1 ≤ 10000 → IsCounted x.1 (go x)) → IsCounted n (counting own vs s n e go)
counts_on own vs s n e go few h = counts_value n (min (n + 1) 10000) s (counted_value own vs s n e) go (omega (arith, few)) (omega arith) (λ x is.
    let one = counted_one own vs s n e x.0 x.1 is in
    less_counted n x.1 (go x) (omega (arith, one.0)) (h x one.1))

turning_counts : (f at own : ℕ) (e : Expr ℕ) (body next : List ℤ → State → ℕ → Pause) → ((ws : List ℤ) (t : State) (k : ℕ) → k ≤ 10000 → IsCounted k (body ws t k)) → ((ws : List ℤ) (t : State) (k : ℕ) → k ≤ 10000 → IsCounted k (next ws t k)) → (vs : List ℤ) (s : State) (n : ℕ) → n ≤ 10000 → IsCounted n (loop_pause f at own e body next vs s n)
turning_counts zero at own e body next h on vs s n few = (omega arith, few)
turning_counts (suc f) at own e body next h on vs s n few =
    counts_on own vs s n e (λ x. if is_nonzero x.0 then around (spot at false vs) (body vs s x.1) (loop_pause f at own e body next) else next vs s x.1) few (λ x less.
    counts_test (is_nonzero x.0) x.1 (around (spot at false vs) (body vs s x.1) (loop_pause f at own e body next)) (next vs s x.1)
    (counts_around x.1 (spot at false vs) (body vs s x.1) (loop_pause f at own e body next) (h vs s x.1 less) (λ ws t k. turning_counts f at own e body next h on ws t k))
    (on vs s x.1 less))

pub paused_counts : (own at : ℕ) (c : Code ℕ ℕ) (vs : List ℤ) (s : State) (n : ℕ) → n ≤ 10000 → IsCounted n (block_pause own at c vs s n)
paused_counts own at (End line) vs s n few = (omega arith, few)
paused_counts own at (Let line v e rest) vs s n few = counts_on own vs s n e (λ x. block_pause own (at + 1) rest (vs ++ x.0 ∷ []) s x.1) few (λ x. paused_counts own (at + 1) rest (vs ++ x.0 ∷ []) s x.1)
paused_counts own at (Call line v e m es rest) vs s n few =
    counts_on own vs s n e (λ x. unless_failed s x.1 (values_of own vs s es) (λ xs. Calling x.0 m xs (record { path = []; next = at + 1; variables = vs }) s x.1)) few (λ x less.
    counts_value x.1 x.1 s (values_of own vs s es) (λ xs. Calling x.0 m xs (record { path = []; next = at + 1; variables = vs }) s x.1) (let same : x.1 ≤ x.1 = omega arith in same) less (λ xs is. (omega arith, less)))
paused_counts own at (Set v e rest) vs s n few = counts_on own vs s n e (λ x. block_pause own (at + 1) rest (set vs v x.0) s x.1) few (λ x. paused_counts own (at + 1) rest (set vs v x.0) s x.1)
paused_counts own at (SetField line k e rest) vs s n few = counts_on own vs s n e (λ x. block_pause own (at + 1) rest vs (with_field s k x.0) x.1) few (λ x. paused_counts own (at + 1) rest vs (with_field s k x.0) x.1)
paused_counts own at (If e first rest) vs s n few =
    counts_on own vs s n e (λ x. if is_nonzero x.0 then around (spot at false vs) (block_pause own 0 first vs s x.1) (block_pause own (at + 1) rest) else block_pause own (at + 1) rest vs s x.1) few (λ x less.
    counts_test (is_nonzero x.0) x.1 (around (spot at false vs) (block_pause own 0 first vs s x.1) (block_pause own (at + 1) rest)) (block_pause own (at + 1) rest vs s x.1)
    (counts_around x.1 (spot at false vs) (block_pause own 0 first vs s x.1) (block_pause own (at + 1) rest) (paused_counts own 0 first vs s x.1 less) (paused_counts own (at + 1) rest))
    (paused_counts own (at + 1) rest vs s x.1 less))
paused_counts own at (IfElse e first other rest) vs s n few =
    counts_on own vs s n e (λ x. if is_nonzero x.0 then around (spot at false vs) (block_pause own 0 first vs s x.1) (block_pause own (at + 1) rest) else around (spot at true vs) (block_pause own 0 other vs s x.1) (block_pause own (at + 1) rest)) few (λ x less.
    counts_test (is_nonzero x.0) x.1 (around (spot at false vs) (block_pause own 0 first vs s x.1) (block_pause own (at + 1) rest)) (around (spot at true vs) (block_pause own 0 other vs s x.1) (block_pause own (at + 1) rest))
    (counts_around x.1 (spot at false vs) (block_pause own 0 first vs s x.1) (block_pause own (at + 1) rest) (paused_counts own 0 first vs s x.1 less) (paused_counts own (at + 1) rest))
    (counts_around x.1 (spot at true vs) (block_pause own 0 other vs s x.1) (block_pause own (at + 1) rest) (paused_counts own 0 other vs s x.1 less) (paused_counts own (at + 1) rest)))
paused_counts own at (While e body rest) vs s n few = turning_counts (10001 - n) at own e (block_pause own 0 body) (block_pause own (at + 1) rest) (paused_counts own 0 body) (paused_counts own (at + 1) rest) vs s n few
paused_counts own at (Fail code rest) vs s n few = counts_value n n s (one_more n) (Failed code s) (let same : n ≤ n = omega arith in same) few (λ k is. (let one = counted_so_far (nat_lt n 10000) n k refl is in (omega (arith, one.0), one.1)))
paused_counts own at (Return e rest) vs s n few = counts_on own vs s n e (λ x. Returned x.0 s x.1) few (λ x less. (omega arith, less))

pub from_counts : (own : ℕ) (b : Code ℕ ℕ) (qs : List Spot) (next : ℕ) (vs : List ℤ) (s : State) (n : ℕ) → n ≤ 10000 → IsCounted n (pause_from own b qs next vs s n)
from_counts own b [] next vs s n few = paused_counts own next (behind_some next b) vs s n few
from_counts own b (q ∷ qs) next vs s n few =
    let c = behind_some q.at b in
    counts_around n q (pause_from own (inner_of q.other c) qs next vs s n) (block_pause own (place_behind q.at c) (after_inner c)) (from_counts own (inner_of q.other c) qs next vs s n few) (paused_counts own (place_behind q.at c) (after_inner c))

-- ---- loops

behind_value : (vs : List ℤ) (o : Result ℤ ℕ) (f : ℤ → R) (next : Going) → behind vs (o >>= f) next ≡ (o >>= λ v. behind vs (f v) next)
behind_value vs (Ok v) f next = refl
behind_value vs (Err code) f next = refl

behind_run : (vs : List ℤ) (o : Result Progress ℕ) (V : Progress → Result ℤ ℕ) (f : ℤ → Progress → R) (next : Going) → behind vs (o >>= λ q. V q >>= λ v. f v q) next ≡ (o >>= λ q. V q >>= λ v. behind vs (f v q) next)
behind_run vs (Ok q) V f next = behind_value vs (V q) (λ v. f v q) next
behind_run vs (Err code) V f next = refl

-- behind the value of a call in a loop: the turns that are left are the loop again
loop_again : (call : Caller) → Rises call → (m own n : ℕ) (e : Expr ℕ) (b rest : Code ℕ ℕ) (first : List ℤ) (k : ℕ) (o : R) → n ≤ length first → 10001 ≤ m + k → AtLeast k o
    → behind first (keeping n o (turns m own e (block call own b))) (block call own rest) ≡ keeping n o (block call own (While e b rest))
loop_again call rises m own n e b rest first k (Ok (Goes inner, r)) few enough least =
    let us = take n inner in
    behind_keeping first (turns m own e (block call own b) us r) (block call own rest)
    ∙ while_again call rises m own (length first) e b rest us r (omega (arith, length-take n inner, few)) (omega (arith, enough, least))
loop_again call rises m own n e b rest first k (Ok (Gives v, r)) few enough least = refl
loop_again call rises m own n e b rest first k (Err code) few enough least = refl

-- what a turn's block makes of the loop
pub record Looping (own at : ℕ) (e : Expr ℕ) (body rest b : Code ℕ ℕ) (call : Caller) : Type 0 where
  pub rises : Rises call
  pub here : behind_some at b ≡ While e body rest
  pub inside : (vs : List ℤ) (s : State) (n : ℕ) (r : Progress) → HasReached own s n r → block call own body vs r ≡ block_goes own body call r (block_pause own 0 body vs s n)
  pub behind_it : (vs : List ℤ) (s : State) (n : ℕ) (r : Progress) → HasReached own s n r → block call own rest vs r ≡ block_goes own b call r (block_pause own (at + 1) rest vs s n)

abbrev Turns : ℕ → ℕ → Expr ℕ → Code ℕ ℕ → Code ℕ ℕ → Code ℕ ℕ → Caller → List ℤ → ℕ → Type 0
Turns own at e body rest b call first f =
    (vs : List ℤ) (s : State) (n : ℕ) (r : Progress) → length vs ≤ length first → HasReached own s n r → 10001 ≤ f + n
    → behind first (turns f own e (block call own body) vs r) (block call own rest) ≡ block_goes own b call r (loop_pause f at own e (block_pause own 0 body) (block_pause own (at + 1) rest) vs s n)

turn_goes : (own at : ℕ) (e : Expr ℕ) (body rest b : Code ℕ ℕ) (call : Caller) (first vs : List ℤ) (f n k : ℕ) (s : State) (r : Progress) (x : Pause) → Looping own at e body rest b call → Turns own at e body rest b call first f → length vs ≤ length first → HasReached own s n r → 10001 ≤ f + k → IsCounted k x
    → behind first (behind vs (block_goes own body call r x) (turns f own e (block call own body))) (block call own rest) ≡ block_goes own b call r (around (spot at false vs) x (loop_pause f at own e (block_pause own 0 body) (block_pause own (at + 1) rest)))
turn_goes own at e body rest b call first vs f n k s r (Through ws t j) l on few h enough count =
    on (take (length vs) ws) t j (moved own t j r) (omega (arith, length-take (length vs) ws, few)) (at_moved own s t n j r h) (omega (arith, enough, count.0))
    ∙ again own b call r t j (loop_pause f at own e (block_pause own 0 body) (block_pause own (at + 1) rest) (take (length vs) ws) t j)
turn_goes own at e body rest b call first vs f n k s r (Returned v t j) l on few h enough count = refl
turn_goes own at e body rest b call first vs f n k s r (Calling target m arguments g t j) l on few h enough count =
    let turning_on : Going = turns f own e (block call own body) in
    let F : ℤ × Progress → R = λ y. resumed call own body g.path g.next (g.variables ++ y.0 ∷ []) y.1 in
    let G = call target m arguments (moved own t j r) in
    ap (λ (o : R). behind first o (block call own rest)) (after_any vs G F turning_on)
    ∙ after_any first G (λ y. behind vs (F y) turning_on) (block call own rest)
    ∙ same_after G (λ y. behind first (behind vs (F y) turning_on) (block call own rest)) (λ y. keeping (length vs) (F y) (block call own (While e body rest))) (λ v q is.
    let risen : j ≤ q.statements = l.rises target m arguments (moved own t j r) q v is in
    ap (λ (o : R). behind first o (block call own rest)) (behind_keeping vs (F (v, q)) turning_on)
    ∙ loop_again call l.rises f own (length vs) e body rest first j (F (v, q)) few (omega (arith, enough, count.0))
    (fewer j q.statements (F (v, q)) risen (resumed_rises call l.rises own body g.path g.next (g.variables ++ v ∷ []) q)))
    ∙ ap (λ (c : Code ℕ ℕ). G >>= λ y. keeping (length vs) (resumed call own (inner_of false c) g.path g.next (g.variables ++ y.0 ∷ []) y.1) (block call own (after_inner c))) (sym l.here)
turn_goes own at e body rest b call first vs f n k s r (Failed code t j) l on few h enough count = refl

turn_by : (t : Bool) (own at : ℕ) (e : Expr ℕ) (body rest b : Code ℕ ℕ) (call : Caller) (first vs : List ℤ) (f n k : ℕ) (s : State) (r : Progress) → Looping own at e body rest b call → Turns own at e body rest b call first f → length vs ≤ length first → HasReached own s n r → 10001 ≤ f + k → k ≤ 10000
    → behind first (if t then behind vs (block call own body vs (moved own s k r)) (turns f own e (block call own body)) else Ok (Goes vs, moved own s k r)) (block call own rest)
    ≡ block_goes own b call r (if t then around (spot at false vs) (block_pause own 0 body vs s k) (loop_pause f at own e (block_pause own 0 body) (block_pause own (at + 1) rest)) else block_pause own (at + 1) rest vs s k)
turn_by true own at e body rest b call first vs f n k s r l on few h enough less =
    ap (λ (o : R). behind first (behind vs o (turns f own e (block call own body))) (block call own rest)) (l.inside vs s k (moved own s k r) (at_moved own s s n k r h) ∙ again own body call r s k (block_pause own 0 body vs s k))
    ∙ turn_goes own at e body rest b call first vs f n k s r (block_pause own 0 body vs s k) l on few h enough (paused_counts own 0 body vs s k less)
turn_by false own at e body rest b call first vs f n k s r l on few h enough less =
    ap (λ (us : List ℤ). block call own rest us (moved own s k r)) (take_all (length first) vs few)
    ∙ l.behind_it vs s k (moved own s k r) (at_moved own s s n k r h)
    ∙ again own b call r s k (block_pause own (at + 1) rest vs s k)

loops : (f own at : ℕ) (e : Expr ℕ) (body rest b : Code ℕ ℕ) (call : Caller) (first : List ℤ) → Looping own at e body rest b call → Turns own at e body rest b call first f
loops zero own at e body rest b call first l vs s n r few h enough = refl
loops (suc f) own at e body rest b call first l vs s n r few h enough =
    behind_run first (statement_begun r) (λ q. value_of own vs (state_at q.world own) e) (λ v q. if is_nonzero v then behind vs (block call own body vs q) (turns f own e (block call own body)) else Ok (Goes vs, q)) (block call own rest)
    ∙ by_value own b call r vs s n e (λ v q. behind first (if is_nonzero v then behind vs (block call own body vs q) (turns f own e (block call own body)) else Ok (Goes vs, q)) (block call own rest))
    (λ x. if is_nonzero x.0 then around (spot at false vs) (block_pause own 0 body vs s x.1) (loop_pause f at own e (block_pause own 0 body) (block_pause own (at + 1) rest)) else block_pause own (at + 1) rest vs s x.1) h
    (λ x k is. turn_by (is_nonzero x) own at e body rest b call first vs f n k s r l (loops f own at e body rest b call first l) few h (omega (arith, enough, (counted_one own vs s n e x k is).0)) (counted_one own vs s n e x k is).1)

-- ---- blocks

by_values : (own at : ℕ) (b rest : Code ℕ ℕ) (call : Caller) (r : Progress) (vs : List ℤ) (s : State) (a : ℤ) (m k : ℕ) (o : Result (List ℤ) ℕ) → behind_some (at + 1) b ≡ rest
    → (o >>= λ xs. call a m xs (moved own s k r) >>= λ y. block call own rest (vs ++ y.0 ∷ []) y.1)
    ≡ block_goes own b call r (unless_failed s k o (λ xs. Calling a m xs (record { path = []; next = at + 1; variables = vs }) s k))
by_values own at b rest call r vs s a m k (Ok xs) e = ap (λ (c : Code ℕ ℕ). call a m xs (moved own s k r) >>= λ y. block call own c (vs ++ y.0 ∷ []) y.1) (sym e)
by_values own at b rest call r vs s a m k (Err code) e = refl

fails_by : (t : Bool) (own : ℕ) (b : Code ℕ ℕ) (call : Caller) (r : Progress) (s : State) (n code : ℕ)
    → (let y : Result Progress ℕ = (if t then Ok (record r { statements = r.statements + 1 }) else Err too_many_statements) in (y >>= λ (q : Progress). let o : R = Err code in o)) ≡ block_goes own b call r (unless_failed s n (if t then Ok (n + 1) else Err too_many_statements) (Failed code s))
fails_by true own b call r s n code = refl
fails_by false own b call r s n code = refl

by_if : (t : Bool) (own at : ℕ) (vs : List ℤ) (first rest b : Code ℕ ℕ) (call : Caller) (r z : Progress) (x : Pause) (go : List ℤ → State → ℕ → Pause) (y : Pause)
    → behind vs (block call own first vs z) (block call own rest) ≡ block_goes own b call r (around (spot at false vs) x go) → block call own rest vs z ≡ block_goes own b call r y
    → behind vs (if t then block call own first vs z else Ok (Goes vs, z)) (block call own rest) ≡ block_goes own b call r (if t then around (spot at false vs) x go else y)
by_if true own at vs first rest b call r z x go y h k = h
by_if false own at vs first rest b call r z x go y h k = passed vs z (block call own rest) ∙ k

by_else : (t : Bool) (own : ℕ) (vs : List ℤ) (first other rest b : Code ℕ ℕ) (call : Caller) (r z : Progress) (x y : Pause)
    → behind vs (block call own first vs z) (block call own rest) ≡ block_goes own b call r x → behind vs (block call own other vs z) (block call own rest) ≡ block_goes own b call r y
    → behind vs (if t then block call own first vs z else block call own other vs z) (block call own rest) ≡ block_goes own b call r (if t then x else y)
by_else true own vs first other rest b call r z x y h k = h
by_else false own vs first other rest b call r z x y h k = k

-- what stands at a place of a block gives what its pause means
pub pauses : (call : Caller) → Rises call → (own : ℕ) (c b : Code ℕ ℕ) (at : ℕ) → behind_some at b ≡ c → (vs : List ℤ) (s : State) (n : ℕ) (r : Progress) → HasReached own s n r → block call own c vs r ≡ block_goes own b call r (block_pause own at c vs s n)
pauses call rises own (End line) b at here vs s n r h = ap (λ (z : Progress). let o : R = Ok (Goes vs, z) in o) (sym (moved_same own s n r h))
pauses call rises own (Let line v e rest) b at here vs s n r h =
    let more : behind_some (at + 1) b ≡ rest = behind_more at b ∙ ap (behind_some 1) here in
    by_value own b call r vs s n e (λ x q. block call own rest (vs ++ x ∷ []) q) (λ x. block_pause own (at + 1) rest (vs ++ x.0 ∷ []) s x.1) h (λ x k is.
    pauses call rises own rest b (at + 1) more (vs ++ x ∷ []) s k (moved own s k r) (at_moved own s s n k r h) ∙ again own b call r s k (block_pause own (at + 1) rest (vs ++ x ∷ []) s k))
pauses call rises own (Call line v e m es rest) b at here vs s n r h =
    let more : behind_some (at + 1) b ≡ rest = behind_more at b ∙ ap (behind_some 1) here in
    by_value own b call r vs s n e (λ a q. values_of own vs (state_at q.world own) es >>= λ xs. call a m xs q >>= λ y. block call own rest (vs ++ y.0 ∷ []) y.1)
    (λ x. unless_failed s x.1 (values_of own vs s es) (λ xs. Calling x.0 m xs (record { path = []; next = at + 1; variables = vs }) s x.1)) h (λ a k is.
    ap (λ (st : State). values_of own vs st es >>= λ xs. call a m xs (moved own s k r) >>= λ y. block call own rest (vs ++ y.0 ∷ []) y.1) (at_moved own s s n k r h).state
    ∙ by_values own at b rest call r vs s a m k (values_of own vs s es) more)
pauses call rises own (Set v e rest) b at here vs s n r h =
    let more : behind_some (at + 1) b ≡ rest = behind_more at b ∙ ap (behind_some 1) here in
    by_value own b call r vs s n e (λ x q. block call own rest (set vs v x) q) (λ x. block_pause own (at + 1) rest (set vs v x.0) s x.1) h (λ x k is.
    pauses call rises own rest b (at + 1) more (set vs v x) s k (moved own s k r) (at_moved own s s n k r h) ∙ again own b call r s k (block_pause own (at + 1) rest (set vs v x) s k))
pauses call rises own (SetField line f e rest) b at here vs s n r h =
    let more : behind_some (at + 1) b ≡ rest = behind_more at b ∙ ap (behind_some 1) here in
    by_value own b call r vs s n e (λ x q. block call own rest vs (record q { world = set q.world own (with_field (state_at q.world own) f x) })) (λ x. block_pause own (at + 1) rest vs (with_field s f x.0) x.1) h (λ x k is.
    ap (λ (st : State). block call own rest vs (moved own (with_field st f x) k (moved own s k r))) (at_moved own s s n k r h).state
    ∙ ap (λ (z : Progress). block call own rest vs z) (moved_twice own s (with_field s f x) k k r)
    ∙ pauses call rises own rest b (at + 1) more vs (with_field s f x) k (moved own (with_field s f x) k r) (at_moved own s (with_field s f x) n k r h)
    ∙ again own b call r (with_field s f x) k (block_pause own (at + 1) rest vs (with_field s f x) k))
pauses call rises own (If e first rest) b at here vs s n r h =
    let more : behind_some (at + 1) b ≡ rest = behind_more at b ∙ ap (behind_some 1) here in
    let go = block_pause own (at + 1) rest in
    let on : (ws : List ℤ) (t : State) (j : ℕ) → block call own rest ws (moved own t j r) ≡ block_goes own b call r (block_pause own (at + 1) rest ws t j) = λ ws t j.
    pauses call rises own rest b (at + 1) more ws t j (moved own t j r) (at_moved own s t n j r h) ∙ again own b call r t j (block_pause own (at + 1) rest ws t j) in
    by_value own b call r vs s n e (λ x q. behind vs (if is_nonzero x then block call own first vs q else Ok (Goes vs, q)) (block call own rest))
    (λ x. if is_nonzero x.0 then around (spot at false vs) (block_pause own 0 first vs s x.1) (block_pause own (at + 1) rest) else block_pause own (at + 1) rest vs s x.1) h (λ x k is.
    by_if (is_nonzero x) own at vs first rest b call r (moved own s k r) (block_pause own 0 first vs s k) (block_pause own (at + 1) rest) (block_pause own (at + 1) rest vs s k)
    (entered_goes own at false vs first rest b call r (moved own s k r) (block_pause own 0 first vs s k) (block_pause own (at + 1) rest)
    (pauses call rises own first first 0 refl vs s k (moved own s k r) (at_moved own s s n k r h) ∙ again own first call r s k (block_pause own 0 first vs s k))
    (ap (inner_of false) here) (ap after_inner here) on)
    (on vs s k))
pauses call rises own (IfElse e first other rest) b at here vs s n r h =
    let more : behind_some (at + 1) b ≡ rest = behind_more at b ∙ ap (behind_some 1) here in
    let on : (ws : List ℤ) (t : State) (j : ℕ) → block call own rest ws (moved own t j r) ≡ block_goes own b call r (block_pause own (at + 1) rest ws t j) = λ ws t j.
    pauses call rises own rest b (at + 1) more ws t j (moved own t j r) (at_moved own s t n j r h) ∙ again own b call r t j (block_pause own (at + 1) rest ws t j) in
    by_value own b call r vs s n e (λ x q. behind vs (if is_nonzero x then block call own first vs q else block call own other vs q) (block call own rest))
    (λ x. if is_nonzero x.0 then around (spot at false vs) (block_pause own 0 first vs s x.1) (block_pause own (at + 1) rest) else around (spot at true vs) (block_pause own 0 other vs s x.1) (block_pause own (at + 1) rest)) h (λ x k is.
    by_else (is_nonzero x) own vs first other rest b call r (moved own s k r) (around (spot at false vs) (block_pause own 0 first vs s k) (block_pause own (at + 1) rest)) (around (spot at true vs) (block_pause own 0 other vs s k) (block_pause own (at + 1) rest))
    (entered_goes own at false vs first rest b call r (moved own s k r) (block_pause own 0 first vs s k) (block_pause own (at + 1) rest)
    (pauses call rises own first first 0 refl vs s k (moved own s k r) (at_moved own s s n k r h) ∙ again own first call r s k (block_pause own 0 first vs s k))
    (ap (inner_of false) here) (ap after_inner here) on)
    (entered_goes own at true vs other rest b call r (moved own s k r) (block_pause own 0 other vs s k) (block_pause own (at + 1) rest)
    (pauses call rises own other other 0 refl vs s k (moved own s k r) (at_moved own s s n k r h) ∙ again own other call r s k (block_pause own 0 other vs s k))
    (ap (inner_of true) here) (ap after_inner here) on))
pauses call rises own (While e body rest) b at here vs s n r h =
    let more : behind_some (at + 1) b ≡ rest = behind_more at b ∙ ap (behind_some 1) here in
    ap (λ (f : ℕ). behind vs (turns (10001 - f) own e (block call own body) vs r) (block call own rest)) h.statements
    ∙ loops (10001 - n) own at e body rest b call vs (record {
      rises = rises;
      here = here;
      inside = λ ws t j z g. pauses call rises own body body 0 refl ws t j z g;
      behind_it = λ ws t j z g. pauses call rises own rest b (at + 1) more ws t j z g;
    }) vs s n r (let same : length vs ≤ length vs = omega arith in same) h (omega arith)
pauses call rises own (Fail code rest) b at here vs s n r h =
    fails_by (nat_lt r.statements 10000) own b call r s n code
    ∙ ap (λ (f : ℕ). block_goes own b call r (unless_failed s n (if nat_lt f 10000 then Ok (n + 1) else Err too_many_statements) (Failed code s))) h.statements
pauses call rises own (Return e rest) b at here vs s n r h =
    by_value own b call r vs s n e (λ x q. let o : R = Ok (Gives x, q) in o) (λ x. Returned x.0 s x.1) h (λ x k is. refl)
