-- The tiny language has the facts that the machine uses of method code.
use Rattle.std.specs.Prelude.{◌≡◌, ◌≢◌, refl, ℕ, zero, suc, ◌<◌, ◌≤◌, ◌==◌, nat_le, Bool, true, false, not, ◌&&◌, ◌||◌, ℤ, ◌+ℤ◌, int_lt, if◌then◌else◌, Option, Some, None, List, [], ◌∷◌, length, filter, slice_set, nat_abs}
use Rattle.std.proofs.Common.{arith, sym, ap, subst, ◌∙◌}
use Rattle.std.proofs.lemmas.Bool.{eqb-true, eqb-false, leb-false, eq-eqb, or_right, true≢false}
use Rattle.snap_base.specs.declared.transactions.State.{State}
use Rattle.snap_base.specs.declared.transactions.Tx.{Tx}
use Rattle.protocol.specs.Fixed.{Next, Go, Ended, IsTxOf, is_pact, root, declared}
use Rattle.protocol.specs.Facts.{Facts, rest_of, state_in}
use Rattle.protocol.specs.Words.{is_among}
use Rattle.protocol_runs.specs.ExampleCode.{Task, Put, Move, Bad, Peek, is_peek, Paying, Paid, Script, scripts, task_of, argument, stands_at, left, stood_at, step, moves, calls, call_fails, field, begun_at, IsElsewhere, IsRestOf, finish_in, finish}

-- ---- where a slice goes

-- what is known of the control that goes on
record GoesRight (actors : ℕ) (tx : Tx) (c : Script) (b : ℕ) (d : Script) : Type 0 where
  rest : IsRestOf actors tx d
  there : stands_at d.task ≡ b
  other : b ≢ stands_at c.task
  less : left c.task ≡ suc (left d.task)
  rests : (a : ℕ) → is_among a d.rests ≡ true → is_among a c.rests ≡ true
  stood : (a : ℕ) → is_among a (stood_at c.task) ≡ true → is_among a (stood_at d.task) ≡ true

script : Task → Bool → List ℕ → Script
script task limited rests = record { task = task; limited = limited; rests = rests }

unless : (b c : Bool) → (b && not c) ≡ false → b ≡ true → c ≡ true
unless true true h e = refl
unless true false h e = absurd (true≢false h)
unless false c h e = absurd (true≢false (sym e))

no_actor : Option ℕ
no_actor = Some 1004

not_declared : Option ℕ
not_declared = Some 1001

-- who may call, may call
may_call : (actors : ℕ) (c : Script) (to : ℕ) → call_fails actors c to ≡ None → (to < actors) × (c.limited ≡ true → is_among to c.rests ≡ true)
unfolding no_actor not_declared
may_call actors c to e = by (nat_le actors to) (c.limited && not (is_among to c.rests)) refl refl e
  where
    by : (p q : Bool) → nat_le actors to ≡ p → (c.limited && not (is_among to c.rests)) ≡ q → (if p then no_actor else (if q then not_declared else None)) ≡ None → (to < actors) × (c.limited ≡ true → is_among to c.rests ≡ true)
    by true q f g e = absurd (cc e)
    by false true f g e = absurd (cc e)
    by false false f g e = (leb-false actors to f, unless c.limited (is_among to c.rests) g)

kept_but : (a to : ℕ) (rests : List ℕ) → a ≢ to → is_among a rests ≡ true → is_among a (filter (λ x. not (x == to)) rests) ≡ true
kept_but a to [] n h = h
kept_but a to (x ∷ xs) n h = by (x == to) (x == a) refl refl h (kept_but a to xs n)
  where
    by : (p q : Bool) → (x == to) ≡ p → (x == a) ≡ q → (q || is_among a xs) ≡ true → (is_among a xs ≡ true → is_among a (filter (λ y. not (y == to)) xs) ≡ true)
        → is_among a (if not p then x ∷ filter (λ y. not (y == to)) xs else filter (λ y. not (y == to)) xs) ≡ true
    by true true f g h k = absurd (n (sym (eqb-true x a g) ∙ eqb-true x to f))
    by true false f g h k = k h
    by false true f g h k = rw g refl
    by false false f g h k = rw g (k h)

fewer_rests : (a to : ℕ) (rests : List ℕ) → is_among a (filter (λ x. not (x == to)) rests) ≡ true → is_among a rests ≡ true
fewer_rests a to [] h = h
fewer_rests a to (x ∷ xs) h = by (x == to) (x == a) refl h (fewer_rests a to xs)
  where
    by : (p q : Bool) → (x == a) ≡ q → is_among a (if not p then x ∷ filter (λ y. not (y == to)) xs else filter (λ y. not (y == to)) xs) ≡ true → (is_among a (filter (λ y. not (y == to)) xs) ≡ true → is_among a xs ≡ true) → (q || is_among a xs) ≡ true
    by true true f h k = refl
    by true false f h k = k h
    by false true f h k = refl
    by false false f h k = k (subst (λ z. (z || is_among a (filter (λ y. not (y == to)) xs)) ≡ true) f h)

-- what goes on is what was handed on
goes_is : (P : ℕ → Script → Type 0) (b' : ℕ) (d' : Script) (b : ℕ) (d : Script) → Go b' d' ≡ Go b d → P b' d' → P b d
goes_is P b' d' b d e h = let p : b' ≡ b = cc e in let q : d' ≡ d = cc e in subst (λ z. P z d) p (subst (λ z. P b' z) q h)

-- a move goes to the other actor
calls_right : (actors : ℕ) (tx : Tx) (a to : ℕ) (n : ℤ) (limited : Bool) (rests : List ℕ) (s : State) (b : ℕ) (d : Script) (o : Option ℕ) (own : Bool)
    → call_fails actors (script (Move a to n) limited rests) to ≡ o → (to == a) ≡ own → IsRestOf actors tx (script (Move a to n) limited rests)
    → (calls o own (script (Move a to n) limited rests) a to n s).next ≡ Go b d → GoesRight actors tx (script (Move a to n) limited rests) b d
unfolding script
calls_right actors tx a to n limited rests s b d (Some code) own f g h e = absurd (cc e)
calls_right actors tx a to n limited rests s b d None true f g h e = absurd (cc e)
calls_right actors tx a to n limited rests s b d None false f g h e =
    let m = may_call actors (record { task = Move a to n; limited = limited; rests = rests }) to f in
    goes_is (GoesRight actors tx (script (Move a to n) limited rests)) to (record { task = Paying a to n; limited = limited; rests = rests }) b d e (record {
      rest = record { kind = h.kind; began = h.began; here = m.0; elsewhere = λ q. eqb-false to a g (sym q); reads = λ q. h.reads q; rests_here = m.1; rests_there = h.rests_there };
      there = refl;
      other = λ q. eqb-false to a g q;
      less = refl;
      rests = λ x q. q;
      stood = λ x q. stood_more x a to q;
    })
  where
    stood_more : (x a to : ℕ) → ((a == x) || false) ≡ true → ((a == x) || ((to == x) || false)) ≡ true
    stood_more x a to q = by (a == x) q
      where
        by : (p : Bool) → (p || false) ≡ true → (p || ((to == x) || false)) ≡ true
        by true q = refl
        by false q = absurd (true≢false (sym q))

move_right : (actors : ℕ) (tx : Tx) (a to : ℕ) (n : ℤ) (limited : Bool) (rests : List ℕ) (s : State) (b : ℕ) (d : Script) (short : Bool)
    → IsRestOf actors tx (script (Move a to n) limited rests)
    → (moves short actors (script (Move a to n) limited rests) a to n s).next ≡ Go b d → GoesRight actors tx (script (Move a to n) limited rests) b d
move_right actors tx a to n limited rests s b d true h e = absurd (cc e)
move_right actors tx a to n limited rests s b d false h e = calls_right actors tx a to n limited rests s b d _ _ refl refl h e

right : (actors : ℕ) (tx : Tx) (task : Task) (limited : Bool) (rests : List ℕ) (s : State) (b : ℕ) (d : Script) → IsRestOf actors tx (script task limited rests)
    → (step actors (script task limited rests) task s).next ≡ Go b d → GoesRight actors tx (script task limited rests) b d
unfolding script
right actors tx (Put a n) limited rests s b d h e = absurd (cc e)
right actors tx (Move a to n) limited rests s b d h e = move_right actors tx a to n limited rests s b d (int_lt (field s) n) h e
right actors tx (Bad a) limited rests s b d h e = absurd (cc e)
right actors tx (Peek a) limited rests s b d h e = absurd (cc e)
right actors tx (Paying a to n) limited rests s b d h e =
    goes_is (GoesRight actors tx (script (Paying a to n) limited rests)) a (record { task = Paid a to (field s +ℤ n); limited = limited; rests = filter (λ x. not (x == to)) rests }) b d e (record {
      rest = record { kind = h.kind; began = h.began; here = h.began; elsewhere = tt; reads = λ q. h.reads q; rests_here = λ q. kept_but a to rests h.elsewhere (h.rests_there q); rests_there = λ q. kept_but a to rests h.elsewhere (h.rests_there q) };
      there = refl;
      other = λ q. h.elsewhere q;
      less = refl;
      rests = λ x q. fewer_rests x to rests q;
      stood = λ x q. q;
    })
right actors tx (Paid a to v) limited rests s b d h e = absurd (cc e)

-- ---- each task

begins_at : (tx : Tx) → (stands_at (task_of tx.method tx) ≡ root tx) × (begun_at (task_of tx.method tx) ≡ root tx) × IsElsewhere (task_of tx.method tx)
begins_at tx = by (tx.method == 0) (tx.method == 1) (tx.method == 3)
  where
    by : (p q r : Bool) → let task = if p then Put (root tx) (argument 0 tx) else (if q then Move (root tx) (nat_abs (argument 0 tx)) (argument 1 tx) else (if r then Peek (root tx) else Bad (root tx))) in (stands_at task ≡ root tx) × (begun_at task ≡ root tx) × IsElsewhere task
    by true q r = (refl, refl, tt)
    by false true r = (refl, refl, tt)
    by false false true = (refl, refl, tt)
    by false false false = (refl, refl, tt)

reading : (tx : Tx) → (tx.method == 3) ≡ true → is_peek (task_of tx.method tx) ≡ true
reading tx e = subst (λ m. is_peek (task_of m tx) ≡ true) (sym (eqb-true tx.method 3 e)) refl

-- who only reads leaves the state
peeks : (actors : ℕ) (c : Script) (task : Task) (s : State) → is_peek task ≡ true → (step actors c task s).state ≡ s
peeks actors c (Put a n) s e = absurd (true≢false (sym e))
peeks actors c (Move a to n) s e = absurd (true≢false (sym e))
peeks actors c (Bad a) s e = absurd (true≢false (sym e))
peeks actors c (Peek a) s e = refl
peeks actors c (Paying a to n) s e = absurd (true≢false (sym e))
peeks actors c (Paid a to v) s e = absurd (true≢false (sym e))

begins : {actors : ℕ} (tx : Tx) → IsTxOf actors tx → (task : Task) → (stands_at task ≡ root tx) × (begun_at task ≡ root tx) × IsElsewhere task → ((tx.method == 3) ≡ true → is_peek task ≡ true)
    → IsRestOf actors tx (record { task = task; limited = is_pact tx; rests = declared tx })
begins {actors} tx h task e r = record {
  kind = refl;
  began = subst (λ z. z < actors) (sym e.1) h.root_exists;
  here = subst (λ z. z < actors) (sym e.0) h.root_exists;
  elsewhere = e.2;
  reads = r;
  rests_here = λ q. subst (λ z. is_among z (declared tx) ≡ true) (sym e.0) (h.declares_root q);
  rests_there = λ q. subst (λ z. is_among z (declared tx) ≡ true) (sym e.1) (h.declares_root q);
}

is_first : (a : ℕ) (xs : List ℕ) → is_among a (a ∷ xs) ≡ true
is_first a xs = rw (eq-eqb a a refl) refl

stands_in : (task : Task) → is_among (stands_at task) (stood_at task) ≡ true
stands_in (Put a n) = is_first a []
stands_in (Move a to n) = is_first a []
stands_in (Bad a) = is_first a []
stands_in (Peek a) = is_first a []
stands_in (Paying a to n) = or_right (a == to) (is_among to (to ∷ [])) (is_first to [])
stands_in (Paid a to v) = is_first a (to ∷ [])

few : (task : Task) → length (stood_at task) ≤ 16
few (Put a n) = omega arith
few (Move a to n) = omega arith
few (Bad a) = omega arith
few (Peek a) = omega arith
few (Paying a to n) = omega arith
few (Paid a to v) = omega arith

at_most_3 : (task : Task) → left task ≤ 127
at_most_3 (Put a n) = omega arith
at_most_3 (Move a to n) = omega arith
at_most_3 (Bad a) = omega arith
at_most_3 (Peek a) = omega arith
at_most_3 (Paying a to n) = omega arith
at_most_3 (Paid a to v) = omega arith

at_least_1 : (task : Task) → 1 ≤ left task
at_least_1 (Put a n) = omega arith
at_least_1 (Move a to n) = omega arith
at_least_1 (Bad a) = omega arith
at_least_1 (Peek a) = omega arith
at_least_1 (Paying a to n) = omega arith
at_least_1 (Paid a to v) = omega arith

-- one slice, and then the rest
meaning : (actors : ℕ) (tx : Tx) (c : Script) (world : List State) → IsRestOf actors tx c
    → finish actors c world ≡ rest_of (finish actors) (step actors c c.task (state_in world (stands_at c.task))).next (slice_set world (stands_at c.task) (step actors c c.task (state_in world (stands_at c.task))).state)
unfolding script
meaning actors tx c world h = by (left c.task) refl (step actors c c.task (state_in world (stands_at c.task))).next refl
  where
    after : List State
    after = slice_set world (stands_at c.task) (step actors c c.task (state_in world (stands_at c.task))).state

    rests : (k : ℕ) (x : Next Script) → suc k ≡ left c.task → (step actors c c.task (state_in world (stands_at c.task))).next ≡ x → rest_of (finish_in actors k) x after ≡ rest_of (finish actors) x after
    rests k (Ended r) e f = refl
    rests k (Go b d) e f = let g : k ≡ left d.task = omega (arith, e, (right actors tx c.task c.limited c.rests (state_in world (stands_at c.task)) b d h f).less) in ap (λ z. finish_in actors z d after) g

    by : (n : ℕ) → left c.task ≡ n → (x : Next Script) → (step actors c c.task (state_in world (stands_at c.task))).next ≡ x
        → finish_in actors n c world ≡ rest_of (finish actors) (step actors c c.task (state_in world (stands_at c.task))).next after
    by zero e x f = absurd (omega (arith, e, at_least_1 c.task))
    by (suc k) e x f = rests k _ (sym e) refl

-- ---- all of them

pub example_facts : (actors : ℕ) → Facts actors (scripts actors) (IsTxOf actors) (IsRestOf actors) (finish actors)
unfolding script
example_facts actors = record {
  starts = λ t tx h. begins tx h (task_of tx.method tx) (begins_at tx) (reading tx);
  stays = λ tx c d b x. (right actors tx c.task c.limited c.rests x.from b d x.of_it x.goes).rest;
  begins_at_root = λ t tx. (begins_at tx).0;
  goes_elsewhere = λ tx c d b x. let g = right actors tx c.task c.limited c.rests x.from b d x.of_it x.goes in (g.there, g.other, subst (λ z. z < actors) g.there g.rest.here);
  rests_where_it_stands = λ tx c p h. h.rests_here (h.kind ∙ p);
  rests_on_declared = λ t tx a allowed p h. h;
  rests_no_further = λ tx c d a b p x q. (right actors tx c.task c.limited c.rests x.from b d x.of_it x.goes).rests a q;
  stood_here = λ tx c h. stands_in c.task;
  stood_before = λ tx c d a b x q. (right actors tx c.task c.limited c.rests x.from b d x.of_it x.goes).stood a q;
  few_actors = λ tx c h. few c.task;
  few_visits = λ t tx. at_most_3 (task_of tx.method tx);
  one_visit = λ tx c h. at_least_1 c.task;
  visits_fall = λ tx c d b x. omega (arith, (right actors tx c.task c.limited c.rests x.from b d x.of_it x.goes).less);
  readers_leave = λ tx c s q h. peeks actors c c.task s (h.reads q);
  only_named_by_tid = λ t u tx world. refl;
  slices_keep_the_meaning = λ tx c world h lt. meaning actors tx c world h;
}
