-- What an event leaves, by number: cells, logs, messages and controls.
use Rattle.std.specs.Prelude.{◌≡◌, is_some, refl, ℕ, zero, suc, ◌%◌, ◌==◌, ◌≤◌, Bool, true, false, not, ◌&&◌, ◌||◌, if◌then◌else◌, Option, Some, None, List, [], ◌∷◌, ◌++◌, length, map, filter, find, take, drop, slice_get, slice_set, slice_index_or}
use Rattle.std.specs.List.{list_any, AllByRecursion}
use Rattle.std.proofs.Common.{arith, sym, ap, subst, ◌∙◌}
use Rattle.std.proofs.lemmas.Bool.{eqb-false, eqb-true, eq-eqb, or_parts, and_parts, true≢false}
use Rattle.snap_base.proofs.Lists.{get_other}
use Rattle.protocol.specs.Fixed.{Fixed, Next, Go, Ended, Sliced}
use Rattle.protocol.specs.Records.{LogRecord}
use Rattle.protocol.specs.Parts.{Who, OfBatch, SubBatch, ControlMessage, Outcome, Log, Slot, Cell, Entry, BatchEntry, ActEntry, Machine}
use Rattle.protocol.specs.Events.{Event, Form, Admit, Arrive, Ask, Take, Run, Send, End, Close, Complete, Sync, Commit, Rollback, DropSub, DropControl, Prepare, Decide, Finish, Trim}
use Rattle.protocol.specs.Words.{holds, has_act, has_entry, has_undone, is_undone, is_act_entry, is_entry_of, waiting_of, is_durable, sub_of, control_of, outcome_of, without_sub, without_control}
use Rattle.protocol.specs.Effects.{after, cell_at, log_at, no_cell, no_log, puts, added, synced}
use Rattle.protocol.specs.OnRing.{next_pacts, next_actors, first_sub}
use Rattle.protocol.specs.OnPost as post
use Rattle.protocol.specs.OnCell as cell
use Rattle.protocol_ready.specs.Touched.{changes_inbox, changes_outbox, changes_entries, changes_done, changes_marks, changes_epoch, changes_tail, changes_log, changes_boxes, changes_subs, changes_sub, changes_control, makes_durable, made_durable}

-- ---- logs

pub log_stays : {C : Type 0} (w : Fixed C) (e : Event) (s : Machine C) (l : ℕ) → changes_log w e l ≡ false → slice_get (after w e s).logs l ≡ slice_get s.logs l
unfolding after
log_stays w (Form k) s l h = get_other s.logs l (k % w.text.logs) _ (eqb-false (k % w.text.logs) l h)
log_stays w (Complete k a) s l h = get_other s.logs l (a % w.text.logs) _ (eqb-false (a % w.text.logs) l h)
log_stays w (Sync m) s l h = get_other s.logs l m _ (eqb-false m l h)
log_stays w (Commit k) s l h = get_other s.logs l (k % w.text.logs) _ (eqb-false (k % w.text.logs) l h)
log_stays w (Prepare t a) s l h = get_other s.logs l (a % w.text.logs) _ (eqb-false (a % w.text.logs) l h)
log_stays w (Decide t) s l h = get_other s.logs l (t % w.text.logs) _ (eqb-false (t % w.text.logs) l h)
log_stays w _ s l h = refl

-- as much of each log is synced as there is, at most
abbrev pub IsSyncedWithin : Log → Type 0
IsSyncedWithin g = g.synced ≤ length g.records

take_append : {X : Type 0} (n : ℕ) (xs ys : List X) → n ≤ length xs → take n (xs ++ ys) ≡ take n xs
take_append zero xs ys h = refl
take_append (suc n) [] ys h = absurd (omega (arith, h))
take_append (suc n) (x ∷ xs) ys h = rw (take_append n xs ys (omega (arith, h))) refl

any_parts : {X : Type 0} (p : X → Bool) (n : ℕ) (xs : List X) → list_any p (drop n xs) ≡ false → list_any p xs ≡ list_any p (take n xs)
any_parts p zero xs h = h
any_parts p (suc n) [] h = refl
any_parts p (suc n) (x ∷ xs) h = rw (any_parts p n xs h) refl

take_all : {X : Type 0} (xs : List X) → take (length xs) xs ≡ xs
take_all [] = refl
take_all (x ∷ xs) = rw (take_all xs) refl

added_durable : (test : LogRecord → Bool) (rs : List LogRecord) (g : Log) → IsSyncedWithin g → is_durable test (added rs g) ≡ is_durable test g
added_durable test rs g h = rw (take_append g.synced g.records rs h) refl

synced_durable : (test : LogRecord → Bool) (g : Log) → list_any test (made_durable g) ≡ false → is_durable test (synced g) ≡ is_durable test g
synced_durable test g h = rw (take_all g.records) (any_parts test g.synced g.records h)

-- a test that cannot tell the new element from the one in its place
set_holds : {X : Type 0} (p : X → Bool) (xs : List X) (i j : ℕ) (d y : X) → p y ≡ p (slice_index_or xs j d) → holds p (slice_get (slice_set xs j y) i) ≡ holds p (slice_get xs i)
set_holds p [] i j d y h = refl
set_holds p (x ∷ xs) zero zero d y h = h
set_holds p (x ∷ xs) (suc i) zero d y h = refl
set_holds p (x ∷ xs) zero (suc j) d y h = refl
set_holds p (x ∷ xs) (suc i) (suc j) d y h = set_holds p xs i j d y h

all_at : (logs : List Log) (l : ℕ) → AllByRecursion IsSyncedWithin logs → IsSyncedWithin (slice_index_or logs l no_log)
all_at [] l h = omega arith
all_at (g ∷ gs) zero h = h.0
all_at (g ∷ gs) (suc l) h = all_at gs l h.1

adds_durable : {C : Type 0} (s : Machine C) (test : LogRecord → Bool) (l j : ℕ) (rs : List LogRecord) → AllByRecursion IsSyncedWithin s.logs
    → holds (is_durable test) (slice_get (slice_set s.logs j (added rs (log_at s j))) l) ≡ holds (is_durable test) (slice_get s.logs l)
adds_durable s test l j rs ok = set_holds (is_durable test) s.logs l j no_log _ (added_durable test rs (log_at s j) (all_at s.logs j ok))

pub durable_stays : {C : Type 0} (w : Fixed C) (e : Event) (s : Machine C) (test : LogRecord → Bool) (l : ℕ) → AllByRecursion IsSyncedWithin s.logs → makes_durable e s test l ≡ false
    → holds (is_durable test) (slice_get (after w e s).logs l) ≡ holds (is_durable test) (slice_get s.logs l)
unfolding after
durable_stays w (Form k) s test l ok h = adds_durable s test l (k % w.text.logs) _ ok
durable_stays w (Complete k a) s test l ok h = adds_durable s test l (a % w.text.logs) _ ok
durable_stays w (Commit k) s test l ok h = adds_durable s test l (k % w.text.logs) _ ok
durable_stays w (Prepare t a) s test l ok h = adds_durable s test l (a % w.text.logs) _ ok
durable_stays w (Decide t) s test l ok h = adds_durable s test l (t % w.text.logs) _ ok
durable_stays w (Sync m) s test l ok h = by (m == l) refl h
  where
    by : (b : Bool) → (m == l) ≡ b → (b && list_any test (made_durable (log_at s m))) ≡ false → holds (is_durable test) (slice_get (slice_set s.logs m (synced (log_at s m))) l) ≡ holds (is_durable test) (slice_get s.logs l)
    by true e q = set_holds (is_durable test) s.logs l m no_log _ (synced_durable test (log_at s m) q)
    by false e q = ap (holds (is_durable test)) (get_other s.logs l m _ (eqb-false m l e))
durable_stays w _ s test l ok h = refl

-- ---- finding

-- what is added behind, and is not what is sought
pub find_append : {X : Type 0} (p : X → Bool) (xs ys : List X) → list_any p ys ≡ false → find p (xs ++ ys) ≡ find p xs
find_append p [] [] h = refl
find_append p [] (y ∷ ys) h = let q = or_parts (p y) (list_any p ys) h in rw q.0 (find_append p [] ys q.1)
find_append p (x ∷ xs) ys h = rw (find_append p xs ys h) refl

-- what is taken out, and is not what is sought
pub find_filter : {X : Type 0} (p q : X → Bool) (xs : List X) → ((x : X) → p x ≡ true → q x ≡ true) → find p (filter q xs) ≡ find p xs
find_filter p q [] h = refl
find_filter p q (x ∷ xs) h = by (q x) refl (p x) refl (find_filter p q xs h)
  where
    by : (b : Bool) → q x ≡ b → (c : Bool) → p x ≡ c → find p (filter q xs) ≡ find p xs → find p (if b then x ∷ filter q xs else filter q xs) ≡ (if c then Some x else find p xs)
    by true e true f r = rw f refl
    by true e false f r = rw f r
    by false e true f r = absurd (cc (e, h x f))
    by false e false f r = r

pub any_map : {X Y : Type 0} (p : Y → Bool) (f : X → Y) (xs : List X) → list_any p (map f xs) ≡ list_any (λ x. p (f x)) xs
any_map p f [] = refl
any_map p f (x ∷ xs) = rw (any_map p f xs) refl

any_false : {X : Type 0} (xs : List X) → list_any (λ x. false) xs ≡ false
any_false [] = refl
any_false (x ∷ xs) = any_false xs

and_false : (a b c : Bool) → a ≡ false → ((a && b) && c) ≡ false
and_false false b c h = refl
and_false true b c h = absurd (cc h)

-- ---- messages

sub_other : (k a j b : ℕ) (subs : List SubBatch) → ((j == k) && (b == a)) ≡ false → sub_of k a (without_sub j b subs) ≡ sub_of k a subs
sub_other k a j b subs h = find_filter (λ m. (m.bid == k) && (m.actor == a)) (λ m. not ((m.bid == j) && (m.actor == b))) subs (λ m e. one m e)
  where
    one : (m : SubBatch) → ((m.bid == k) && (m.actor == a)) ≡ true → not ((m.bid == j) && (m.actor == b)) ≡ true
    one m e = by (m.bid == j) refl (m.actor == b) refl (eqb-true m.bid k (and_parts (m.bid == k) (m.actor == a) e).0) (eqb-true m.actor a (and_parts (m.bid == k) (m.actor == a) e).1)
      where
        by : (x : Bool) → (m.bid == j) ≡ x → (y : Bool) → (m.actor == b) ≡ y → m.bid ≡ k → m.actor ≡ a → not (x && y) ≡ true
        by true p true q f g = absurd (differ (eqb-true m.bid j p) (eqb-true m.actor b q) f g)
          where
            differ : m.bid ≡ j → m.actor ≡ b → m.bid ≡ k → m.actor ≡ a → ⊥
            differ p q f g = true≢false (sym (rw (eq-eqb j k (sym p ∙ f), eq-eqb b a (sym q ∙ g)) refl) ∙ h)
        by true p false q f g = refl
        by false p y q f g = refl

pub sub_stays : {C : Type 0} (w : Fixed C) (e : Event) (s : Machine C) (k a : ℕ) → (changes_subs e k || changes_sub e k a) ≡ false → sub_of k a (after w e s).post.subs ≡ sub_of k a s.post.subs
unfolding after
sub_stays w (Form j) s k a h = find_append (λ m. (m.bid == k) && (m.actor == a)) s.post.subs (map (first_sub w.text j s.ring) (next_actors w.text s.ring)) (any_map _ _ (next_actors w.text s.ring) ∙ rw (or_parts (j == k) false h).0 (any_false (next_actors w.text s.ring)))
sub_stays w (Arrive j b) s k a h = sub_other k a j b s.post.subs h
sub_stays w (DropSub j b) s k a h = sub_other k a j b s.post.subs h
sub_stays w _ s k a h = refl

-- ---- controls

-- what is taken out under another number
without_other : {X : Type 0} (key : X → ℕ) (t u : ℕ) (xs : List X) → (u == t) ≡ false → find (λ x. key x == t) (filter (λ x. not (key x == u)) xs) ≡ find (λ x. key x == t) xs
without_other key t u xs h = find_filter (λ x. key x == t) (λ x. not (key x == u)) xs (λ x e. one (key x) e)
  where
    one : (n : ℕ) → (n == t) ≡ true → not (n == u) ≡ true
    one n e = by (n == u) refl
      where
        by : (b : Bool) → (n == u) ≡ b → not b ≡ true
        by true q = absurd (true≢false (sym (eq-eqb u t (sym (eqb-true n u q) ∙ eqb-true n t e)) ∙ h))
        by false q = refl

control_other : {C : Type 0} (t u : ℕ) (controls : List (ControlMessage C)) → (u == t) ≡ false → control_of t (without_control u controls) ≡ control_of t controls
control_other t u controls h = without_other (λ m. m.tid) t u controls h

going_other : {C : Type 0} (t u : ℕ) (who : Who) (outbox : List (Outcome C)) → (u == t) ≡ false → list_any (λ m. m.tid == t) (post.handed_on who (outcome_of u outbox)) ≡ false
going_other {C} t u who [] h = refl
going_other {C} t u who (x ∷ xs) h = by (x.tid == u) refl (going_other t u who xs h)
  where
    on : (n : Next C) → (x.tid == t) ≡ false → list_any (λ m. m.tid == t) (post.going_on who x.tid n) ≡ false
    on (Go b control) f = rw f refl
    on (Ended r) f = refl

    by : (b : Bool) → (x.tid == u) ≡ b → list_any (λ m. m.tid == t) (post.handed_on who (outcome_of u xs)) ≡ false → list_any (λ m. m.tid == t) (post.handed_on who (if b then Some x else outcome_of u xs)) ≡ false
    by true e r = on x.next (subst (λ n. (n == t) ≡ false) (sym (eqb-true x.tid u e)) h)
    by false e r = r

pub control_stays : {C : Type 0} (w : Fixed C) (e : Event) (s : Machine C) (t : ℕ) → changes_control w e s t ≡ false → control_of t (after w e s).post.controls ≡ control_of t s.post.controls
unfolding after
control_stays w (Form k) s t h = find_append (λ m. m.tid == t) s.post.controls (map (λ q. post.first_control w (OfBatch k) q.tid q.tx) (next_pacts w.text s.ring)) (any_map _ _ (next_pacts w.text s.ring) ∙ h)
control_stays w (Admit u) s t h = find_append (λ m. m.tid == t) s.post.controls _ (rw h refl)
control_stays w (Ask u a) s t h = control_other t u s.post.controls h
control_stays w (Take u a) s t h = control_other t u s.post.controls h
control_stays w (Send u a) s t h = find_append (λ m. m.tid == t) s.post.controls _ (going_other t u _ (cell_at s a).outbox h)
control_stays w (DropControl u) s t h = control_other t u s.post.controls h
control_stays w _ s t h = refl

-- ---- cells

put_holds : {C : Type 0} (p : Cell C → Bool) (s : Machine C) (a b : ℕ) (c : Cell C) → ((b == a) ≡ true → p c ≡ p (cell_at s b)) → holds p (slice_get (puts s b c) a) ≡ holds p (slice_get s.cells a)
put_holds p s a b c h = by (b == a) refl
  where
    by : (q : Bool) → (b == a) ≡ q → holds p (slice_get (puts s b c) a) ≡ holds p (slice_get s.cells a)
    by true e = set_holds p s.cells a b no_cell c (h e)
    by false e = ap (holds p) (get_other s.cells a b c (eqb-false b a e))

-- a test that the new element passes where the one in its place did
pub set_passes : {X : Type 0} (p : X → Bool) (xs : List X) (i j : ℕ) (d y : X) → (p (slice_index_or xs j d) ≡ true → p y ≡ true) → holds p (slice_get xs i) ≡ true → holds p (slice_get (slice_set xs j y) i) ≡ true
set_passes p [] i j d y h k = k
set_passes p (x ∷ xs) zero zero d y h k = h k
set_passes p (x ∷ xs) (suc i) zero d y h k = k
set_passes p (x ∷ xs) zero (suc j) d y h k = k
set_passes p (x ∷ xs) (suc i) (suc j) d y h k = set_passes p xs i j d y h k

pub put_went : {C : Type 0} (p : Cell C → Bool) (s : Machine C) (a b : ℕ) (c : Cell C) → ((b == a) ≡ true → p (cell_at s b) ≡ true → p c ≡ true) → holds p (slice_get s.cells a) ≡ true → holds p (slice_get (puts s b c) a) ≡ true
put_went p s a b c h k = by (b == a) refl
  where
    by : (q : Bool) → (b == a) ≡ q → holds p (slice_get (puts s b c) a) ≡ true
    by true e = set_passes p s.cells a b no_cell c (h e) k
    by false e = ap (holds p) (get_other s.cells a b c (eqb-false b a e)) ∙ k

rest : (x y : Bool) → (x && y) ≡ false → x ≡ true → y ≡ false
rest true y h e = h
rest false y h e = absurd (true≢false (sym e))

-- where all of the cell may change, another one does
other : {X : Type 0} (q : Bool) → q ≡ false → q ≡ true → X
other q h e = absurd (true≢false (sym e ∙ h))

arrived_other : {C : Type 0} (t u : ℕ) (controls : List (ControlMessage C)) → (u == t) ≡ false → list_any (λ x. x.tid == t) (cell.arrived (control_of u controls)) ≡ false
arrived_other t u [] h = refl
arrived_other {C} t u (m ∷ ms) h = by (m.tid == u) refl (arrived_other t u ms h)
  where
    by : (b : Bool) → (m.tid == u) ≡ b → list_any (λ x. x.tid == t) (cell.arrived (control_of u ms)) ≡ false → list_any (λ x. x.tid == t) (cell.arrived (if b then Some m else control_of u ms)) ≡ false
    by true e r = let q : (m.tid == t) ≡ false = subst (λ n. (n == t) ≡ false) (sym (eqb-true m.tid u e)) h in rw q refl
    by false e r = r

placed_other : {C : Type 0} (t u : ℕ) (o : Option ℕ) (controls : List (ControlMessage C)) → (u == t) ≡ false → list_any (λ x. x.tid == t) (cell.where_placed o (control_of u controls)) ≡ false
placed_other t u None controls h = arrived_other t u controls h
placed_other t u (Some older) controls h = refl

outcomes_other : {C : Type 0} (t u : ℕ) (o : Option (Sliced C)) → (u == t) ≡ false → list_any (λ x. x.tid == t) (cell.outcomes u o) ≡ false
outcomes_other t u None h = refl
outcomes_other t u (Some r) h = rw h refl

pub inbox_stays : {C : Type 0} (w : Fixed C) (e : Event) (s : Machine C) (t a : ℕ) → (changes_boxes e a || changes_inbox e t a) ≡ false
    → holds (λ c. is_some (waiting_of t c.inbox)) (slice_get (after w e s).cells a) ≡ holds (λ c. is_some (waiting_of t c.inbox)) (slice_get s.cells a)
unfolding after
inbox_stays w (Ask u b) s t a h = put_holds _ s a b _ (λ e. ap is_some (find_append (λ x. x.tid == t) (cell_at s b).inbox _ (placed_other t u _ s.post.controls (rest (b == a) (u == t) h e))))
inbox_stays w (Take u b) s t a h = put_holds _ s a b _ (λ e. ap is_some (find_append (λ x. x.tid == t) (cell_at s b).inbox _ (arrived_other t u s.post.controls (rest (b == a) (u == t) h e))))
inbox_stays w (Run u b) s t a h = put_holds _ s a b _ (λ e. ap is_some (without_other (λ x. x.tid) t u (cell_at s b).inbox (rest (b == a) (u == t) h e)))
inbox_stays w (Rollback b) s t a h = put_holds _ s a b _ (other (b == a) (or_parts (b == a) false h).0)
inbox_stays w (Finish u b) s t a h = put_holds _ s a b _ (other (b == a) (or_parts (b == a) false h).0)
inbox_stays w (Arrive k b) s t a h = put_holds _ s a b _ (λ e. refl)
inbox_stays w (Send u b) s t a h = put_holds _ s a b _ (λ e. refl)
inbox_stays w (End u b) s t a h = put_holds _ s a b _ (λ e. refl)
inbox_stays w (Close u b) s t a h = put_holds _ s a b _ (λ e. refl)
inbox_stays w (Complete k b) s t a h = put_holds _ s a b _ (λ e. refl)
inbox_stays w (Trim k b) s t a h = put_holds _ s a b _ (λ e. refl)
inbox_stays w _ s t a h = refl

pub outbox_stays : {C : Type 0} (w : Fixed C) (e : Event) (s : Machine C) (t a : ℕ) (q : Option (Outcome C) → Bool) → (changes_boxes e a || changes_outbox e t a) ≡ false
    → holds (λ c. q (outcome_of t c.outbox)) (slice_get (after w e s).cells a) ≡ holds (λ c. q (outcome_of t c.outbox)) (slice_get s.cells a)
unfolding after
outbox_stays w (Run u b) s t a q h = put_holds _ s a b _ (λ e. ap q (find_append (λ x. x.tid == t) (cell_at s b).outbox _ (outcomes_other t u _ (rest (b == a) (u == t) h e))))
outbox_stays w (Send u b) s t a q h = put_holds _ s a b _ (λ e. ap q (without_other (λ x. x.tid) t u (cell_at s b).outbox (rest (b == a) (u == t) h e)))
outbox_stays w (End u b) s t a q h = put_holds _ s a b _ (λ e. ap q (without_other (λ x. x.tid) t u (cell_at s b).outbox (rest (b == a) (u == t) h e)))
outbox_stays w (Rollback b) s t a q h = put_holds _ s a b _ (other (b == a) (or_parts (b == a) false h).0)
outbox_stays w (Finish u b) s t a q h = put_holds _ s a b _ (other (b == a) (or_parts (b == a) false h).0)
outbox_stays w (Arrive k b) s t a q h = put_holds _ s a b _ (λ e. refl)
outbox_stays w (Ask u b) s t a q h = put_holds _ s a b _ (λ e. refl)
outbox_stays w (Take u b) s t a q h = put_holds _ s a b _ (λ e. refl)
outbox_stays w (Close u b) s t a q h = put_holds _ s a b _ (λ e. refl)
outbox_stays w (Complete k b) s t a q h = put_holds _ s a b _ (λ e. refl)
outbox_stays w (Trim k b) s t a q h = put_holds _ s a b _ (λ e. refl)
outbox_stays w _ s t a q h = refl

-- a test of the schedule, and what it bears of marks
pub entries_stay : {C : Type 0} (w : Fixed C) (e : Event) (s : Machine C) (a : ℕ) (q : List Entry → Bool) → changes_entries e a ≡ false
    → ((t : ℕ) → changes_done w e s t a ≡ true → (es : List Entry) → q (map (cell.done_in t) es) ≡ q es) → ((k : ℕ) → changes_marks w e s a ≡ true → (es : List Entry) → q (map (cell.complete_in k) es) ≡ q es)
    → holds (λ c. q c.entries) (slice_get (after w e s).cells a) ≡ holds (λ c. q c.entries) (slice_get s.cells a)
unfolding after
entries_stay w (Run t b) s a q h d m = put_holds _ s a b _ (λ e. by e (cell.is_done_after w.code b (cell.slice_of w.code t (cell_at s b))) refl)
  where
    by : (b == a) ≡ true → (z : Bool) → cell.is_done_after w.code b (cell.slice_of w.code t (cell_at s b)) ≡ z → q (if z then map (cell.done_in t) (cell_at s b).entries else (cell_at s b).entries) ≡ q (cell_at s b).entries
    by e true y = d t (rw (e, eq-eqb t t refl, y) refl) (cell_at s b).entries
    by e false y = refl
entries_stay w (Close t b) s a q h d m = put_holds _ s a b _ (λ e. d t (rw (e, eq-eqb t t refl) refl) (cell_at s b).entries)
entries_stay w (Complete k b) s a q h d m = put_holds _ s a b _ (λ e. m k e (cell_at s b).entries)
entries_stay w (Arrive k b) s a q h d m = put_holds _ s a b _ (other (b == a) h)
entries_stay w (Ask t b) s a q h d m = put_holds _ s a b _ (other (b == a) h)
entries_stay w (Rollback b) s a q h d m = put_holds _ s a b _ (other (b == a) h)
entries_stay w (Finish t b) s a q h d m = put_holds _ s a b _ (other (b == a) h)
entries_stay w (Trim k b) s a q h d m = put_holds _ s a b _ (other (b == a) h)
entries_stay w (Take t b) s a q h d m = put_holds _ s a b _ (λ e. refl)
entries_stay w (Send t b) s a q h d m = put_holds _ s a b _ (λ e. refl)
entries_stay w (End t b) s a q h d m = put_holds _ s a b _ (λ e. refl)
entries_stay w _ s a q h d m = refl

-- where no mark changes
pub marks_stay : {C : Type 0} (w : Fixed C) (e : Event) (s : Machine C) (a : ℕ) (q : List Entry → Bool) → (changes_entries e a || changes_marks w e s a) ≡ false
    → holds (λ c. q c.entries) (slice_get (after w e s).cells a) ≡ holds (λ c. q c.entries) (slice_get s.cells a)
marks_stay w e s a q h =
    let o = or_parts (changes_entries e a) (changes_marks w e s a) h in
    entries_stay w e s a q o.0 (λ t x. absurd (true≢false (sym (done_marks e t x) ∙ o.1))) (λ k x. absurd (true≢false (sym x ∙ o.1)))
  where
    done_marks : (e : Event) (t : ℕ) → changes_done w e s t a ≡ true → changes_marks w e s a ≡ true
    done_marks (Run u b) t x =
        let p = and_parts ((b == a) && (u == t)) _ x in
        rw ((and_parts (b == a) (u == t) p.0).0, p.1) refl
    done_marks (Close u b) t x = (and_parts (b == a) (u == t) x).0
    done_marks _ t x = absurd (true≢false (sym x))

-- what looks at who stands there alone
any_kept : (p : Entry → Bool) (f : Entry → Entry) (es : List Entry) → ((e : Entry) → p (f e) ≡ p e) → list_any p (map f es) ≡ list_any p es
any_kept p f [] h = refl
any_kept p f (e ∷ es) h = rw (h e, any_kept p f es h) refl

act_done : (t u : ℕ) (e : Entry) → is_act_entry t (cell.done_in u e) ≡ is_act_entry t e
act_done t u (BatchEntry b) = refl
act_done t u (ActEntry x) = refl

act_complete : (t k : ℕ) (e : Entry) → is_act_entry t (cell.complete_in k e) ≡ is_act_entry t e
act_complete t k (BatchEntry b) = refl
act_complete t k (ActEntry x) = refl

slot_done : (t u : ℕ) (ss : List Slot) → list_any (λ s. s.tid == t) (map (cell.done_if u) ss) ≡ list_any (λ s. s.tid == t) ss
slot_done t u [] = refl
slot_done t u (s ∷ ss) = rw (slot_done t u ss) refl

pub own_done : (t u : ℕ) (e : Entry) → is_entry_of t (cell.done_in u e) ≡ is_entry_of t e
own_done t u (BatchEntry b) = slot_done t u b.slots
own_done t u (ActEntry x) = refl

pub own_complete : (t k : ℕ) (e : Entry) → is_entry_of t (cell.complete_in k e) ≡ is_entry_of t e
own_complete t k (BatchEntry b) = refl
own_complete t k (ActEntry x) = refl

slot_undone : (t u : ℕ) (ss : List Slot) → (t == u) ≡ false → list_any (λ s. (s.tid == t) && not s.done) (map (cell.done_if u) ss) ≡ list_any (λ s. (s.tid == t) && not s.done) ss
slot_undone t u [] h = refl
slot_undone t u (s ∷ ss) h = rw (slot_undone t u ss h, one (s.tid == t) refl (s.tid == u) refl s.done) refl
  where
    one : (x : Bool) → (s.tid == t) ≡ x → (y : Bool) → (s.tid == u) ≡ y → (d : Bool) → (x && not (d || y)) ≡ (x && not d)
    one true e true f d = absurd (true≢false (sym (eq-eqb t u (sym (eqb-true s.tid t e) ∙ eqb-true s.tid u f)) ∙ h))
    one true e false f true = refl
    one true e false f false = refl
    one false e y f d = refl

pub undone_done : (t u : ℕ) (e : Entry) → (t == u) ≡ false → is_undone t (cell.done_in u e) ≡ is_undone t e
undone_done t u (BatchEntry b) h = slot_undone t u b.slots h
undone_done t u (ActEntry x) h = refl

pub undone_complete : (t k : ℕ) (e : Entry) → is_undone t (cell.complete_in k e) ≡ is_undone t e
undone_complete t k (BatchEntry b) = refl
undone_complete t k (ActEntry x) = refl

pub has_act_stays : {C : Type 0} (w : Fixed C) (e : Event) (s : Machine C) (t a : ℕ) → changes_entries e a ≡ false → holds (λ c. not (has_act t c.entries)) (slice_get (after w e s).cells a) ≡ holds (λ c. not (has_act t c.entries)) (slice_get s.cells a)
has_act_stays w e s t a h = entries_stay w e s a (λ es. not (has_act t es)) h (λ u x es. ap not (any_kept (is_act_entry t) (cell.done_in u) es (act_done t u))) (λ k x es. ap not (any_kept (is_act_entry t) (cell.complete_in k) es (act_complete t k)))

pub has_entry_stays : {C : Type 0} (w : Fixed C) (e : Event) (s : Machine C) (t a : ℕ) → changes_entries e a ≡ false → holds (λ c. has_entry t c.entries) (slice_get (after w e s).cells a) ≡ holds (λ c. has_entry t c.entries) (slice_get s.cells a)
has_entry_stays w e s t a h = entries_stay w e s a (has_entry t) h (λ u x es. any_kept (is_entry_of t) (cell.done_in u) es (own_done t u)) (λ k x es. any_kept (is_entry_of t) (cell.complete_in k) es (own_complete t k))

pub undone_stays : {C : Type 0} (w : Fixed C) (e : Event) (s : Machine C) (t a : ℕ) → changes_entries e a ≡ false → changes_done w e s t a ≡ false → holds (λ c. has_undone t c.entries) (slice_get (after w e s).cells a) ≡ holds (λ c. has_undone t c.entries) (slice_get s.cells a)
undone_stays w e s t a h d = entries_stay w e s a (has_undone t) h (λ u x es. any_kept (is_undone t) (cell.done_in u) es (λ y. undone_done t u y (differ u x (t == u) refl))) (λ k x es. any_kept (is_undone t) (cell.complete_in k) es (undone_complete t k))
  where
    differ : (u : ℕ) → changes_done w e s u a ≡ true → (b : Bool) → (t == u) ≡ b → (t == u) ≡ false
    differ u x true y = absurd (true≢false (sym x ∙ subst (λ n. changes_done w e s n a ≡ false) (eqb-true t u y) d))
    differ u x false y = y

pub epoch_stays : {C : Type 0} (w : Fixed C) (e : Event) (s : Machine C) (a : ℕ) (q : ℕ → Bool) → changes_epoch e a ≡ false → holds (λ c. q c.epoch) (slice_get (after w e s).cells a) ≡ holds (λ c. q c.epoch) (slice_get s.cells a)
unfolding after
epoch_stays w (Rollback b) s a q h = put_holds _ s a b _ (other (b == a) h)
epoch_stays w (Run t b) s a q h = put_holds _ s a b _ (λ e. refl)
epoch_stays w (Arrive k b) s a q h = put_holds _ s a b _ (λ e. refl)
epoch_stays w (Ask t b) s a q h = put_holds _ s a b _ (λ e. refl)
epoch_stays w (Close t b) s a q h = put_holds _ s a b _ (λ e. refl)
epoch_stays w (Complete k b) s a q h = put_holds _ s a b _ (λ e. refl)
epoch_stays w (Finish t b) s a q h = put_holds _ s a b _ (λ e. refl)
epoch_stays w (Trim k b) s a q h = put_holds _ s a b _ (λ e. refl)
epoch_stays w (Take t b) s a q h = put_holds _ s a b _ (λ e. refl)
epoch_stays w (Send t b) s a q h = put_holds _ s a b _ (λ e. refl)
epoch_stays w (End t b) s a q h = put_holds _ s a b _ (λ e. refl)
epoch_stays w _ s a q h = refl

pub tail_stays : {C : Type 0} (w : Fixed C) (e : Event) (s : Machine C) (a : ℕ) (q : ℕ → Bool) → changes_tail e a ≡ false → holds (λ c. q c.tail) (slice_get (after w e s).cells a) ≡ holds (λ c. q c.tail) (slice_get s.cells a)
unfolding after
tail_stays w (Rollback b) s a q h = put_holds _ s a b _ (other (b == a) h)
tail_stays w (Arrive k b) s a q h = put_holds _ s a b _ (other (b == a) h)
tail_stays w (Run t b) s a q h = put_holds _ s a b _ (λ e. refl)
tail_stays w (Ask t b) s a q h = put_holds _ s a b _ (λ e. refl)
tail_stays w (Close t b) s a q h = put_holds _ s a b _ (λ e. refl)
tail_stays w (Complete k b) s a q h = put_holds _ s a b _ (λ e. refl)
tail_stays w (Finish t b) s a q h = put_holds _ s a b _ (λ e. refl)
tail_stays w (Trim k b) s a q h = put_holds _ s a b _ (λ e. refl)
tail_stays w (Take t b) s a q h = put_holds _ s a b _ (λ e. refl)
tail_stays w (Send t b) s a q h = put_holds _ s a b _ (λ e. refl)
tail_stays w (End t b) s a q h = put_holds _ s a b _ (λ e. refl)
tail_stays w _ s a q h = refl
