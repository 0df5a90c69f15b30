-- An ACT that stands on an actor and has not run there has its control in the actor's inbox.
use Rattle.std.specs.Prelude.{◌≡◌, refl, ℕ, ◌<◌, ◌==◌, max, not, Bool, true, false, ◌⊎◌, slice_index_or, slice_set, if◌then◌else◌, Option, Some, None, is_some, List, [], ◌∷◌, ◌++◌, length, map, filter}
use Rattle.std.specs.List.{AllByRecursion, list_any}
use Rattle.std.proofs.Common.{sym, ap, subst, inl, inr, ◌∙◌}
use Rattle.std.proofs.lemmas.List.{append-nil, get_or-set_same, get_or-set_other}
use Rattle.std.proofs.lemmas.Bool.{cases_Bool, eqb-false, true≢false, eqb-true, eq-eqb, or_cases, or_left, or_right, or_parts, false_from_ne_true}
use Rattle.protocol.specs.Fixed.{Fixed}
use Rattle.protocol.specs.Parts.{Act, Batch, Pact, Slot, Cascade, Who, OfBatch, OfAct, Entry, BatchEntry, ActEntry, Waiting, ControlMessage, Cell, Machine}
use Rattle.protocol.specs.Events.{Event, Arrive, Ask, Take, Run, Send, End, Close, Complete, Rollback, Finish, Trim}
use Rattle.protocol.specs.Words.{is_empty, holds, is_who, who_of, who_on, act_of, names_pact, batch_of, waiting_of, without_waiting, control_of, lock_of}
use Rattle.protocol.specs.Conditions.{IsAllowed, conditions, epoch}
use Rattle.protocol.specs.Effects.{after, cell_at, no_cell}
use Rattle.protocol.specs.OnBook as book
use Rattle.protocol.specs.OnCell as cell
use Rattle.protocol.specs.OnCell.{is_cut, is_tid_among}
use Rattle.protocol.specs.History.{History, Slice, Ran, Stands, Gone, grown, with_at, not_run, ran_in, ran_on, read_on, completed, left_for_good, without_standing, long_staying, asks, is_traceless}
use Rattle.protocol_laws.specs.Tracks.{key_of, keys_in, is_key_among, Differ, Tracks, has_read}
use Rattle.protocol_laws.specs.Befores.{is_above, Befores}
use Rattle.protocol_laws.specs.FromDesk.{is_pact_of, EntryOf, FromDesk}
use Rattle.protocol_laws.proofs.machine.TrackLists
use Rattle.protocol_laws.proofs.machine.TracksKept.{beside, beside_same, in_range, arrives, Tracked}
use Rattle.protocol_laws.proofs.machine.BeforesKept.{Numbers}
use Rattle.protocol_laws.proofs.machine.Resting.{EachPact}
use Rattle.protocol_laws.proofs.machine.ActsKept.{Acts}

-- `rd` tells which readers have run there: of these the schedule has no slices
abbrev pub Starts : {C : Type 0} → (ℕ → Bool) → List (Waiting C) → List Ran → Type 0
Starts rd inbox [] = Unit {0}
Starts rd inbox (Stands (OfBatch k) c ss ∷ rs) = Starts rd inbox rs
Starts rd inbox (Stands (OfAct t) c ss ∷ rs) = (is_empty ss ≡ true → rd t ≡ false → is_some (waiting_of t inbox) ≡ true) × Starts rd inbox rs
Starts rd inbox (Gone y ss ∷ rs) = Starts rd inbox rs

abbrev pub At : {C : Type 0} → (ℕ → List Slice) → ℕ → Cell C → List Ran → Type 0
At reads a c long = Starts (has_read (reads a)) c.inbox long

unfoldable pub Started : {C : Type 0} → Machine C → History → Type 0
Started s h = (a : ℕ) → At h.reads a (cell_at s a) (h.long a)

-- ---- inboxes

more_waiting : {C : Type 0} (t : ℕ) (xs ys : List (Waiting C)) → is_some (waiting_of t xs) ≡ true → is_some (waiting_of t (xs ++ ys)) ≡ true
more_waiting t [] ys h = absurd (true≢false (sym h))
more_waiting t (x ∷ xs) ys h = by (x.tid == t) h (more_waiting t xs ys)
  where
    by : (b : Bool) → is_some (if b then Some x else waiting_of t xs) ≡ true → (is_some (waiting_of t xs) ≡ true → is_some (waiting_of t (xs ++ ys)) ≡ true) → is_some (if b then Some x else waiting_of t (xs ++ ys)) ≡ true
    by true h k = refl
    by false h k = k h

-- those of whom the test holds stay
waiting_stays : {C : Type 0} (p : ℕ → Bool) (t : ℕ) (xs : List (Waiting C)) → p t ≡ true → is_some (waiting_of t xs) ≡ true → is_some (waiting_of t (filter (λ x. p x.tid) xs)) ≡ true
waiting_stays p t [] e h = h
waiting_stays p t (x ∷ xs) e h = by (x.tid == t) refl (p x.tid) refl h (waiting_stays p t xs e)
  where
    by : (b : Bool) → (x.tid == t) ≡ b → (q : Bool) → p x.tid ≡ q → is_some (if b then Some x else waiting_of t xs) ≡ true → (is_some (waiting_of t xs) ≡ true → is_some (waiting_of t (filter (λ x. p x.tid) xs)) ≡ true)
        → is_some (waiting_of t (if q then x ∷ filter (λ x. p x.tid) xs else filter (λ x. p x.tid) xs)) ≡ true
    by true f true g h k = rw f refl
    by true f false g h k = absurd (true≢false (sym e ∙ (ap p (sym (eqb-true x.tid t f)) ∙ g)))
    by false f true g h k = rw f (k h)
    by false f false g h k = k h

arrives_there : {C : Type 0} (t a : ℕ) (xs : List (Waiting C)) (o : Option (ControlMessage C)) → (holds (λ m. m.to == a) o ≡ true) → ((m : ControlMessage C) → o ≡ Some m → m.tid ≡ t) → is_some (waiting_of t (xs ++ cell.arrived o)) ≡ true
arrives_there t a [] None h k = absurd (true≢false (sym h))
arrives_there t a [] (Some m) h k = rw (eq-eqb m.tid t (k m refl)) refl
arrives_there t a (x ∷ xs) o h k = by (x.tid == t) (arrives_there t a xs o h k)
  where
    by : (b : Bool) → is_some (waiting_of t (xs ++ cell.arrived o)) ≡ true → is_some (if b then Some x else waiting_of t (xs ++ cell.arrived o)) ≡ true
    by true g = refl
    by false g = g

control_tid : {C : Type 0} (t : ℕ) (m : ControlMessage C) (cs : List (ControlMessage C)) → control_of t cs ≡ Some m → m.tid ≡ t
control_tid t m [] e = absurd (cc e)
control_tid t m (c ∷ cs) e = by (c.tid == t) refl e (control_tid t m cs)
  where
    by : (b : Bool) → (c.tid == t) ≡ b → (if b then Some c else control_of t cs) ≡ Some m → (control_of t cs ≡ Some m → m.tid ≡ t) → m.tid ≡ t
    by true f e k = let q : c ≡ m = cc e in ap (λ z. z.tid) (sym q) ∙ eqb-true c.tid t f
    by false f e k = k e

-- ---- lists

more_in : {C : Type 0} (rd : ℕ → Bool) (xs ys : List (Waiting C)) (rs : List Ran) → Starts rd xs rs → Starts rd (xs ++ ys) rs
more_in rd xs ys [] h = tt
more_in rd xs ys (Stands (OfBatch k) c ss ∷ rs) h = more_in rd xs ys rs h
more_in rd xs ys (Stands (OfAct t) c ss ∷ rs) h = ((λ e v. more_waiting t xs ys (h.0 e v)), more_in rd xs ys rs h.1)
more_in rd xs ys (Gone y ss ∷ rs) h = more_in rd xs ys rs h

more_batch : {C : Type 0} (rd : ℕ → Bool) (xs : List (Waiting C)) (k : ℕ) (rs : List Ran) → Starts rd xs rs → Starts rd xs (rs ++ not_run (OfBatch k) ∷ [])
more_batch rd xs k [] h = tt
more_batch rd xs k (Stands (OfBatch j) c ss ∷ rs) h = more_batch rd xs k rs h
more_batch rd xs k (Stands (OfAct t) c ss ∷ rs) h = (h.0, more_batch rd xs k rs h.1)
more_batch rd xs k (Gone y ss ∷ rs) h = more_batch rd xs k rs h

more_act : {C : Type 0} (rd : ℕ → Bool) (xs : List (Waiting C)) (t : ℕ) (rs : List Ran) → is_some (waiting_of t xs) ≡ true → Starts rd xs rs → Starts rd xs (rs ++ not_run (OfAct t) ∷ [])
more_act rd xs t [] e h = ((λ q v. e), tt)
more_act rd xs t (Stands (OfBatch j) c ss ∷ rs) e h = more_act rd xs t rs e h
more_act rd xs t (Stands (OfAct u) c ss ∷ rs) e h = (h.0, more_act rd xs t rs e h.1)
more_act rd xs t (Gone y ss ∷ rs) e h = more_act rd xs t rs e h

complete : {C : Type 0} (rd : ℕ → Bool) (xs : List (Waiting C)) (k : ℕ) (rs : List Ran) → Starts rd xs rs → Starts rd xs (map (completed k) rs)
complete rd xs k [] h = tt
complete rd xs k (Stands (OfBatch j) c ss ∷ rs) h = complete rd xs k rs h
complete rd xs k (Stands (OfAct t) c ss ∷ rs) h = (h.0, complete rd xs k rs h.1)
complete rd xs k (Gone y ss ∷ rs) h = complete rd xs k rs h

leave_batch : {C : Type 0} (rd : ℕ → Bool) (xs : List (Waiting C)) (k : ℕ) (rs : List Ran) → Starts rd xs rs → Starts rd xs (map (left_for_good (OfBatch k)) rs)
leave_batch rd xs k [] h = tt
leave_batch rd xs k (Stands (OfBatch j) c ss ∷ rs) h = by (j == k) (leave_batch rd xs k rs h)
  where
    by : (v : Bool) → Starts rd xs (map (left_for_good (OfBatch k)) rs) → Starts rd xs ((if v then Gone (OfBatch j) ss else Stands (OfBatch j) c ss) ∷ map (left_for_good (OfBatch k)) rs)
    by true g = g
    by false g = g
leave_batch rd xs k (Stands (OfAct t) c ss ∷ rs) h = (h.0, leave_batch rd xs k rs h.1)
leave_batch rd xs k (Gone y ss ∷ rs) h = leave_batch rd xs k rs h

-- an ACT leaves, and its control with it
leave_act : {C : Type 0} (rd : ℕ → Bool) (p : ℕ → Bool) (xs : List (Waiting C)) (t : ℕ) (rs : List Ran) → ((u : ℕ) → (u == t) ≡ false → p u ≡ true) → Starts rd xs rs → Starts rd (filter (λ x. p x.tid) xs) (map (left_for_good (OfAct t)) rs)
leave_act rd p xs t [] k h = tt
leave_act rd p xs t (Stands (OfBatch j) c ss ∷ rs) k h = leave_act rd p xs t rs k h
leave_act rd p xs t (Stands (OfAct u) c ss ∷ rs) k h = by (u == t) refl (leave_act rd p xs t rs k h.1)
  where
    by : (v : Bool) → (u == t) ≡ v → Starts rd (filter (λ x. p x.tid) xs) (map (left_for_good (OfAct t)) rs) → Starts rd (filter (λ x. p x.tid) xs) ((if v then Gone (OfAct u) ss else Stands (OfAct u) c ss) ∷ map (left_for_good (OfAct t)) rs)
    by true e g = g
    by false e g = ((λ q v. waiting_stays p u xs (k u e) (h.0 q v)), g)
leave_act rd p xs t (Gone y ss ∷ rs) k h = leave_act rd p xs t rs k h

undo_act : {C : Type 0} (rd : ℕ → Bool) (p : ℕ → Bool) (xs : List (Waiting C)) (t : ℕ) (rs : List Ran) → ((u : ℕ) → (u == t) ≡ false → p u ≡ true) → Starts rd xs rs → Starts rd (filter (λ x. p x.tid) xs) (without_standing (OfAct t) rs)
undo_act rd p xs t [] k h = tt
undo_act rd p xs t (Stands (OfBatch j) c ss ∷ rs) k h = undo_act rd p xs t rs k h
undo_act rd p xs t (Stands (OfAct u) c ss ∷ rs) k h = by (u == t) refl (undo_act rd p xs t rs k h.1)
  where
    by : (v : Bool) → (u == t) ≡ v → Starts rd (filter (λ x. p x.tid) xs) (without_standing (OfAct t) rs) → Starts rd (filter (λ x. p x.tid) xs) (if v then without_standing (OfAct t) rs else Stands (OfAct u) c ss ∷ without_standing (OfAct t) rs)
    by true e g = g
    by false e g = ((λ q v. waiting_stays p u xs (k u e) (h.0 q v)), g)
undo_act rd p xs t (Gone y ss ∷ rs) k h = undo_act rd p xs t rs k h

finish : {C : Type 0} (rd : ℕ → Bool) (p : ℕ → Bool) (xs : List (Waiting C)) (t : ℕ) (b : Bool) (rs : List Ran) → ((u : ℕ) → (u == t) ≡ false → p u ≡ true) → Starts rd xs rs → Starts rd (filter (λ x. p x.tid) xs) (if b then without_standing (OfAct t) rs else map (left_for_good (OfAct t)) rs)
finish rd p xs t true rs k h = undo_act rd p xs t rs k h
finish rd p xs t false rs k h = leave_act rd p xs t rs k h

roll_back : {C : Type 0} (rd : ℕ → Bool) (p : ℕ → Bool) (xs : List (Waiting C)) (cs : List Cascade) (rs : List Ran) → ((u : ℕ) → is_key_among (OfAct u) (keys_in (long_staying cs rs)) ≡ true → p u ≡ true) → Starts rd xs rs → Starts rd (filter (λ x. p x.tid) xs) (long_staying cs rs)
roll_back rd p xs cs [] k h = tt
roll_back rd p xs cs (Stands (OfBatch j) c ss ∷ rs) k h = by (is_cut cs (OfBatch j)) k (λ f. roll_back rd p xs cs rs f h)
  where
    by : (v : Bool) → ((u : ℕ) → is_key_among (OfAct u) (keys_in (if v then [] else Stands (OfBatch j) c ss ∷ long_staying cs rs)) ≡ true → p u ≡ true) → (((u : ℕ) → is_key_among (OfAct u) (keys_in (long_staying cs rs)) ≡ true → p u ≡ true) → Starts rd (filter (λ x. p x.tid) xs) (long_staying cs rs))
        → Starts rd (filter (λ x. p x.tid) xs) (if v then [] else Stands (OfBatch j) c ss ∷ long_staying cs rs)
    by true k g = tt
    by false k g = g k
roll_back rd p xs cs (Stands (OfAct u) c ss ∷ rs) k h = ((λ q z. waiting_stays p u xs (k u (or_left (u == u) _ (eq-eqb u u refl))) (h.0 q z)), roll_back rd p xs cs rs (λ v e. k v (or_right (u == v) _ e)) h.1)
roll_back rd p xs cs (Gone y ss ∷ rs) k h = roll_back rd p xs cs rs k h

no_end : (ss : List Slice) (x : Slice) → is_empty (ss ++ x ∷ []) ≡ false
no_end [] x = refl
no_end (s ∷ ss) x = refl

-- a slice runs: who stands there under its tid has run then
ran : {C : Type 0} (rd : ℕ → Bool) (xs : List (Waiting C)) (t : ℕ) (who : Who) (x : Slice) (rs : List Ran) → (is_key_among (OfAct t) (keys_in rs) ≡ true → who ≡ OfAct t) → Starts rd xs rs → Starts rd (without_waiting t xs) (map (ran_in who x) rs)
ran rd xs t who x [] k h = tt
ran rd xs t who x (Stands (OfBatch j) c ss ∷ rs) k h = ran rd xs t who x rs k h
ran rd xs t who x (Stands (OfAct u) c ss ∷ rs) k h = ((λ q z. by (is_who (OfAct u) who) refl q z), ran rd xs t who x rs (λ e. k (or_right (u == t) _ e)) h.1)
  where
    by : (v : Bool) → is_who (OfAct u) who ≡ v → is_empty (if v then ss ++ x ∷ [] else ss) ≡ true → rd u ≡ false → is_some (waiting_of u (without_waiting t xs)) ≡ true
    by true e q z = absurd (true≢false (sym q ∙ no_end ss x))
    by false e q z = waiting_stays (λ n. not (n == t)) u xs (ap not (false_from_ne_true (u == t) (λ v. true≢false (sym (subst (λ z. is_who (OfAct u) z ≡ true) (sym (k (or_left (u == t) _ v))) v) ∙ e)))) (h.0 q z)
ran rd xs t who x (Gone y ss ∷ rs) k h = ran rd xs t who x rs k h

-- ---- a reader runs

read_more : (t : ℕ) (xs : List Slice) (x : Slice) → x.tid ≡ t → has_read (xs ++ x ∷ []) t ≡ true
read_more t [] x e = or_left (x.tid == t) _ (eq-eqb x.tid t e)
read_more t (y ∷ xs) x e = or_right (y.tid == t) _ (read_more t xs x e)

read_other : (xs : List Slice) (x : Slice) (u : ℕ) → has_read (xs ++ x ∷ []) u ≡ false → has_read xs u ≡ false
read_other [] x u h = refl
read_other (y ∷ xs) x u h = let p = or_parts (y.tid == u) (has_read (xs ++ x ∷ []) u) h in rw p.0 (read_other xs x u p.1)

-- it has run then, and nobody else's control goes
reads : {C : Type 0} (rd rd' : ℕ → Bool) (xs : List (Waiting C)) (t : ℕ) (rs : List Ran) → rd' t ≡ true → ((u : ℕ) → rd' u ≡ false → rd u ≡ false) → Starts rd xs rs → Starts rd' (without_waiting t xs) rs
reads rd rd' xs t [] e k h = tt
reads rd rd' xs t (Stands (OfBatch j) c ss ∷ rs) e k h = reads rd rd' xs t rs e k h
reads rd rd' xs t (Stands (OfAct u) c ss ∷ rs) e k h =
    ((λ q z. waiting_stays (λ n. not (n == t)) u xs (ap not (false_from_ne_true (u == t) (λ v. true≢false (sym (subst (λ n. rd' n ≡ true) (sym (eqb-true u t v)) e) ∙ z)))) (h.0 q (k u z))), reads rd rd' xs t rs e k h.1)
reads rd rd' xs t (Gone y ss ∷ rs) e k h = reads rd rd' xs t rs e k h

-- ---- an ACT on the schedule is in the book, and no PACT has its tid

pub stands_in_book : (acts : List Act) (top t : ℕ) (rs : List Ran) → Befores acts top rs → is_key_among (OfAct t) (keys_in rs) ≡ true → is_some (act_of t acts) ≡ true
stands_in_book acts top t [] h e = absurd (true≢false (sym e))
stands_in_book acts top t (Stands (OfBatch k) c ss ∷ rs) h e = stands_in_book acts (max top k) t rs h e
stands_in_book acts top t (Stands (OfAct u) c ss ∷ rs) h e = elim (or_cases (u == t) (is_key_among (OfAct t) (keys_in rs)) e) [ inl q ↦ some (act_of t acts) (subst (λ z. holds (is_above top) (act_of z acts) ≡ true) (eqb-true u t q) h.0) | inr q ↦ stands_in_book acts top t rs h.1 q ]
  where
    some : (o : Option Act) → holds (is_above top) o ≡ true → is_some o ≡ true
    some None q = absurd (true≢false (sym q))
    some (Some x) q = refl
stands_in_book acts top t (Gone (OfBatch k) ss ∷ rs) h e = stands_in_book acts (max top k) t rs h e
stands_in_book acts top t (Gone (OfAct u) ss ∷ rs) h e = stands_in_book acts top t rs h e

abbrev pub NoPact : ℕ → List Batch → Type 0
NoPact t bs = EachPact (λ u r. u ≡ t → ⊥) bs

pub no_pact_of : (t k : ℕ) (bs : List Batch) → NoPact t bs → is_pact_of t k bs ≡ true → ⊥
no_pact_of t k [] h e = true≢false (sym e)
no_pact_of t k (b ∷ bs) h e = by (b.bid == k) e (no_pact_of t k bs h.1)
  where
    named : (ps : List Pact) → AllByRecursion (λ p. p.tid ≡ t → ⊥) ps → list_any (λ p. p.tid == t) ps ≡ true → ⊥
    named [] g q = true≢false (sym q)
    named (p ∷ ps) g q = elim (or_cases (p.tid == t) (list_any (λ p. p.tid == t) ps) q) [ inl v ↦ g.0 (eqb-true p.tid t v) | inr v ↦ named ps g.1 v ]

    by : (v : Bool) → holds (names_pact t) (if v then Some b else batch_of k bs) ≡ true → (holds (names_pact t) (batch_of k bs) ≡ true → ⊥) → ⊥
    by true q r = named b.pacts h.0 q
    by false q r = r q

pub no_slot : (t k : ℕ) (bs : List Batch) (ss : List Slot) → NoPact t bs → AllByRecursion (λ s. is_pact_of s.tid k bs ≡ true) ss → list_any (λ s. s.tid == t) ss ≡ false
no_slot t k bs [] n h = refl
no_slot t k bs (s ∷ ss) n h = false_from_ne_true _ (λ e. elim (or_cases (s.tid == t) (list_any (λ s. s.tid == t) ss) e) [ inl q ↦ no_pact_of t k bs n (subst (λ z. is_pact_of z k bs ≡ true) (eqb-true s.tid t q) h.0) | inr q ↦ true≢false (sym q ∙ no_slot t k bs ss n h.1) ])

-- its control is its own
who_is_act : (t a : ℕ) (bs : List Batch) (es : List Entry) → NoPact t bs → AllByRecursion (EntryOf a bs) es → who_on t es ≡ OfAct t
who_is_act t a bs [] n h = refl
who_is_act t a bs (BatchEntry b ∷ es) n h = rw (no_slot t b.bid bs b.slots n h.0.1) (who_is_act t a bs es n h.1)
who_is_act t a bs (ActEntry x ∷ es) n h = by (x.tid == t) refl (who_is_act t a bs es n h.1)
  where
    by : (v : Bool) → (x.tid == t) ≡ v → who_on t es ≡ OfAct t → (if v then OfAct x.tid else who_on t es) ≡ OfAct t
    by true e g = ap OfAct (eqb-true x.tid t e)
    by false e g = g

-- who is not among entries as an ACT or a PACT of a batch
pub not_tid_among : (t a : ℕ) (bs : List Batch) (es : List Entry) → NoPact t bs → AllByRecursion (EntryOf a bs) es → is_key_among (OfAct t) (map key_of es) ≡ false → is_tid_among t es ≡ false
not_tid_among t a bs [] n h e = refl
not_tid_among t a bs (BatchEntry b ∷ es) n h e = rw (no_slot t b.bid bs b.slots n h.0.1) (not_tid_among t a bs es n h.1 e)
not_tid_among t a bs (ActEntry x ∷ es) n h e = let p = or_parts (x.tid == t) (is_key_among (OfAct t) (map key_of es)) e in rw p.0 (not_tid_among t a bs es n h.1 p.1)

pub all_going : (P : Entry → Type 0) (cs : List Cascade) (es : List Entry) → AllByRecursion P es → AllByRecursion P (cell.going cs es)
all_going P cs [] h = tt
all_going P cs (e ∷ es) h = by (is_cut cs (who_of e)) (all_going P cs es h.1)
  where
    by : (v : Bool) → AllByRecursion P (cell.going cs es) → AllByRecursion P (if v then e ∷ es else cell.going cs es)
    by true g = h
    by false g = g

-- who stays of those that stand there once does not go
going_among : (cs : List Cascade) (who : Who) (es : List Entry) → is_key_among who (map key_of (cell.going cs es)) ≡ true → is_key_among who (map key_of es) ≡ true
going_among cs who [] h = h
going_among cs who (e ∷ es) h = by (is_cut cs (who_of e)) h (going_among cs who es)
  where
    by : (v : Bool) → is_key_among who (map key_of (if v then e ∷ es else cell.going cs es)) ≡ true → (is_key_among who (map key_of (cell.going cs es)) ≡ true → is_key_among who (map key_of es) ≡ true) → is_key_among who (map key_of (e ∷ es)) ≡ true
    by true q k = q
    by false q k = or_right (is_who (who_of e) who) _ (k q)

stays_not_goes : (cs : List Cascade) (who : Who) (es : List Entry) → Differ (map key_of es) → is_key_among who (map key_of (cell.staying cs es)) ≡ true → is_key_among who (map key_of (cell.going cs es)) ≡ false
stays_not_goes cs who [] d h = absurd (true≢false (sym h))
stays_not_goes cs who (e ∷ es) d h = by (is_cut cs (who_of e)) h (stays_not_goes cs who es d.1)
  where
    by : (v : Bool) → is_key_among who (map key_of (if v then [] else e ∷ cell.staying cs es)) ≡ true → (is_key_among who (map key_of (cell.staying cs es)) ≡ true → is_key_among who (map key_of (cell.going cs es)) ≡ false) → is_key_among who (map key_of (if v then e ∷ es else cell.going cs es)) ≡ false
    by true q k = absurd (true≢false (sym q))
    by false q k = elim (or_cases (is_who (who_of e) who) (is_key_among who (map key_of (cell.staying cs es))) q) [
      | inl v ↦ false_from_ne_true _ (λ g. true≢false (sym (going_among cs who es g) ∙ subst (λ z. is_key_among z (map key_of es) ≡ false) (TrackLists.is_who_true (who_of e) who v) d.0))
      | inr v ↦ k v
    ]

pub own_only : (t u : ℕ) (es : List Entry) → (u == t) ≡ false → is_tid_among u (cell.own_entries t es) ≡ false
own_only t u [] e = refl
own_only t u (BatchEntry b ∷ es) e = own_only t u es e
own_only t u (ActEntry x ∷ es) e = by (x.tid == t) refl (own_only t u es e)
  where
    by : (v : Bool) → (x.tid == t) ≡ v → is_tid_among u (cell.own_entries t es) ≡ false → is_tid_among u (if v then ActEntry x ∷ cell.own_entries t es else cell.own_entries t es) ≡ false
    by true f g = rw (false_from_ne_true (x.tid == u) (λ q. true≢false (sym (eq-eqb u t (sym (eqb-true x.tid u q) ∙ eqb-true x.tid t f)) ∙ e))) g
    by false f g = g

-- ---- all events

pub no_pact : {C : Type 0} (s : Machine C) (h : History) (t a : ℕ) → Acts s h → Numbers s h → is_key_among (OfAct t) (keys_in (h.long a)) ≡ true → NoPact t s.desk.batches
unfolding Acts Numbers
no_pact {C} s h t a i n e = by (act_of t s.book.acts) refl (stands_in_book s.book.acts 0 t (h.long a) (n a) e)
  where
    by : (o : Option Act) → act_of t s.book.acts ≡ o → is_some o ≡ true → NoPact t s.desk.batches
    by None f q = absurd (true≢false (sym q))
    by (Some x) f q = (i t x f).apart

ask : {C : Type 0} (rd : ℕ → Bool) (t a : ℕ) (o : Option ℕ) (m : Option (ControlMessage C)) (xs : List (Waiting C)) (rs : List Ran) → holds (λ m. m.to == a) m ≡ true → ((x : ControlMessage C) → m ≡ Some x → x.tid ≡ t) → Starts rd xs rs → Starts rd (xs ++ cell.where_placed o m) (rs ++ map not_run (asks t o))
ask rd t a None m xs rs h k g = more_act rd (xs ++ cell.arrived m) t rs (arrives_there t a xs m h k) (more_in rd xs (cell.arrived m) rs g)
ask rd t a (Some older) m xs rs h k g = rw (append-nil xs, append-nil rs) g

pub kept : {C : Type 0} (w : Fixed C) (e : Event) (s : Machine C) (h : History) → IsAllowed w e s → ((t a : ℕ) → e ≡ Finish t a → a < length s.cells) → ((k a : ℕ) → e ≡ Trim k a → a < length s.cells) → Acts s h → Numbers s h → Tracked w s h → FromDesk s → Started s h → Started (after w e s) (grown w e s h)
unfolding Started Tracked conditions after grown
kept w (Arrive k a) s h ok x y i n t d g = beside (At h.reads) s.cells a _ _ h.long (arrives (epoch s.book) a _ s.cells (Rattle.protocol.specs.Words.sub_of k a s.post.subs) ok.1.1.0) (more_batch (has_read (h.reads a)) (cell_at s a).inbox k (h.long a)) g
kept w (Ask u a) s h ok x y i n t d g = beside (At h.reads) s.cells a _ _ h.long (in_range _ s.cells a ok.1.1.0) (λ z. ask (has_read (h.reads a)) u a (book.in_the_way (lock_of u s.book.acts) (cell_at s a).entries) (control_of u s.post.controls) (cell_at s a).inbox (h.long a) ok.0 (λ m e. control_tid u m s.post.controls e) z) g
kept w (Take u a) s h ok x y i n t d g = beside_same (At h.reads) s.cells a _ h.long (in_range _ s.cells a ok.1.0) (more_in (has_read (h.reads a)) (cell_at s a).inbox _ (h.long a)) g
kept w (Run u a) s h ok x y i n t d g = λ b. by b (cases_Bool (b == a))
  where
    ran_slice : Slice
    ran_slice = record { tid = u; found = (cell_at s a).state; left = (cell.slice_run w.code u a (cell_at s a)).state }

    here : (v : Bool) → Starts (has_read (read_on v ran_slice (h.reads a))) (without_waiting u (cell_at s a).inbox) (ran_on v (who_on u (cell_at s a).entries) ran_slice (h.long a))
    here true = reads (has_read (h.reads a)) (has_read (h.reads a ++ ran_slice ∷ [])) (cell_at s a).inbox u (h.long a) (read_more u (h.reads a) ran_slice refl) (read_other (h.reads a) ran_slice) (g a)
    here false = ran (has_read (h.reads a)) (cell_at s a).inbox u _ _ (h.long a) (λ e. who_is_act u a s.desk.batches (cell_at s a).entries (no_pact s h u a i n e) (d.entries a)) (g a)

    by : (b : ℕ) → ((b == a) ≡ true) ⊎ ((b == a) ≡ false) → At (with_at a (read_on (cell.reads_on u (cell_at s a).entries) ran_slice (h.reads a)) h.reads) b (slice_index_or (slice_set s.cells a (cell.slice_run w.code u a (cell_at s a))) b no_cell) (with_at a (ran_on (cell.reads_on u (cell_at s a).entries) (who_on u (cell_at s a).entries) ran_slice (h.long a)) h.long b)
    by b (inl e) = let q : b ≡ a = eqb-true b a e in rw (e, subst (λ z. slice_index_or (slice_set s.cells a (cell.slice_run w.code u a (cell_at s a))) z no_cell ≡ cell.slice_run w.code u a (cell_at s a)) (sym q) (get_or-set_same s.cells a (cell.slice_run w.code u a (cell_at s a)) no_cell (in_range _ s.cells a ok.0))) (here (cell.reads_on u (cell_at s a).entries))
    by b (inr e) = rw (e, get_or-set_other s.cells a b (cell.slice_run w.code u a (cell_at s a)) no_cell (eqb-false b a e)) (g b)
kept w (Send u a) s h ok x y i n t d g = beside_same (At h.reads) s.cells a _ h.long (in_range _ s.cells a ok.0) (λ z. z) g
kept w (End u a) s h ok x y i n t d g = beside_same (At h.reads) s.cells a _ h.long (in_range _ s.cells a ok.0) (λ z. z) g
kept w (Close u a) s h ok x y i n t d g = beside_same (At h.reads) s.cells a _ h.long (in_range _ s.cells a ok.1.0) (λ z. z) g
kept w (Complete k a) s h ok x y i n t d g = beside (At h.reads) s.cells a _ _ h.long (in_range _ s.cells a ok.0) (complete (has_read (h.reads a)) (cell_at s a).inbox k (h.long a)) g
kept w (Rollback a) s h ok x y i n t d g = beside (At h.reads) s.cells a _ _ h.long (in_range _ s.cells a ok.0) (λ z. roll_back (has_read (h.reads a)) (λ u. not (is_tid_among u (cell.going s.book.cascades (cell_at s a).entries))) (cell_at s a).inbox s.book.cascades (h.long a) (λ u e. stays u e) z) g
  where
    stays : (u : ℕ) → is_key_among (OfAct u) (keys_in (long_staying s.book.cascades (h.long a))) ≡ true → not (is_tid_among u (cell.going s.book.cascades (cell_at s a).entries)) ≡ true
    stays u e =
        let r : map key_of (cell.staying s.book.cascades (cell_at s a).entries) ≡ keys_in (long_staying s.book.cascades (h.long a)) = TrackLists.entries_staying s.book.cascades (cell_at s a).entries ∙ (ap (TrackLists.keys_staying s.book.cascades) (t a).stands ∙ sym (TrackLists.keys_long_staying s.book.cascades (h.long a))) in
        let among = fewer s.book.cascades u (h.long a) e in
        ap not (not_tid_among u a s.desk.batches (cell.going s.book.cascades (cell_at s a).entries) (no_pact s h u a i n among) (all_going _ s.book.cascades (cell_at s a).entries (d.entries a))
        (stays_not_goes s.book.cascades (OfAct u) (cell_at s a).entries (t a).differ (subst (λ z. is_key_among (OfAct u) z ≡ true) (sym r) e)))
      where
        fewer : (cs : List Cascade) (u : ℕ) (rs : List Ran) → is_key_among (OfAct u) (keys_in (long_staying cs rs)) ≡ true → is_key_among (OfAct u) (keys_in rs) ≡ true
        fewer cs u [] q = q
        fewer cs u (Stands v c ss ∷ rs) q = by (is_cut cs v) q (fewer cs u rs)
          where
            by : (b : Bool) → is_key_among (OfAct u) (keys_in (if b then [] else Stands v c ss ∷ long_staying cs rs)) ≡ true → (is_key_among (OfAct u) (keys_in (long_staying cs rs)) ≡ true → is_key_among (OfAct u) (keys_in rs) ≡ true) → is_key_among (OfAct u) (keys_in (Stands v c ss ∷ rs)) ≡ true
            by true q k = absurd (true≢false (sym q))
            by false q k = elim (or_cases (is_who v (OfAct u)) (is_key_among (OfAct u) (keys_in (long_staying cs rs))) q) [ inl z ↦ or_left (is_who v (OfAct u)) _ z | inr z ↦ or_right (is_who v (OfAct u)) _ (k z) ]
        fewer cs u (Gone v ss ∷ rs) q = fewer cs u rs q
kept w (Finish u a) s h ok x y i n t d g = beside (At h.reads) s.cells a _ _ h.long (x u a refl) (λ z. finish (has_read (h.reads a)) (λ v. not (is_tid_among v (cell.own_entries u (cell_at s a).entries))) (cell_at s a).inbox u (is_traceless (act_of u s.book.acts)) (h.long a) (λ v e. ap not (own_only u v (cell_at s a).entries e)) z) g
kept w (Trim k a) s h ok x y i n t d g = beside (At h.reads) s.cells a _ _ h.long (y k a refl) (leave_batch (has_read (h.reads a)) (cell_at s a).inbox k (h.long a)) g
kept w e s h ok x y i n t d g = g

-- who stands there and has no control there ran
pub ran_there : {C : Type 0} (rd : ℕ → Bool) (xs : List (Waiting C)) (t : ℕ) (rs : List Ran) → is_some (waiting_of t xs) ≡ false → rd t ≡ false → is_key_among (OfAct t) (keys_in rs) ≡ true → Starts rd xs rs → Rattle.protocol_laws.specs.Tracks.slices_in rs ≡ [] → ⊥
ran_there rd xs t [] n z e h q = true≢false (sym e)
ran_there rd xs t (Stands (OfBatch k) c [] ∷ rs) n r e h q = ran_there rd xs t rs n r e h q
ran_there rd xs t (Stands (OfAct u) c [] ∷ rs) n r e h q = elim (or_cases (u == t) (is_key_among (OfAct t) (keys_in rs)) e) [ inl v ↦ true≢false (sym (h.0 refl (subst (λ z. rd z ≡ false) (sym (eqb-true u t v)) r)) ∙ (ap (λ z. is_some (waiting_of z xs)) (eqb-true u t v) ∙ n)) | inr v ↦ ran_there rd xs t rs n r v h.1 q ]
ran_there rd xs t (Stands y c (z ∷ zs) ∷ rs) n r e h q = absurd (cc q)
ran_there rd xs t (Gone y [] ∷ rs) n r e h q = ran_there rd xs t rs n r e h q
ran_there rd xs t (Gone y (z ∷ zs) ∷ rs) n r e h q = absurd (cc q)
