-- A reader without a place yet that has a record of an actor: who does not only read, and has a record behind it there, was placed
-- behind it, and has not committed.
use Rattle.std.specs.Prelude.{◌≡◌, refl, ℕ, ◌%◌, ◌==◌, not, Bool, true, false, ◌&&◌, ◌||◌, ◌⊎◌, if◌then◌else◌, Option, Some, None, is_some, List, [], ◌∷◌, ◌++◌, map, find, slice_index_or, slice_set}
use Rattle.std.specs.List.{AllByRecursion, list_any}
use Rattle.std.proofs.Common.{sym, ap, subst, inl, inr, ◌∙◌}
use Rattle.std.proofs.lemmas.List.{append-nil}
use Rattle.std.proofs.lemmas.Bool.{true≢false, or_right, and_parts, and_from, eqb-true, cases_Bool, false_from_ne_true, not-true}
use Rattle.snap_base.specs.declared.transactions.Tx.{Tx}
use Rattle.snap_base.specs.declared.transactions.State.{State}
use Rattle.snap_base.specs.declared.transactions.TxResult.{TxResult}
use Rattle.protocol.specs.Facts.{Alone}
use Rattle.protocol.specs.Fixed.{Fixed}
use Rattle.protocol.specs.Records.{LogRecord, BatchComplete, ActPrepare, is_prepare}
use Rattle.protocol.specs.Parts.{Act, Status, Live, Doomed, Decided, Sealed, Entry, BatchEntry, ActEntry, Waiting, Who, OfBatch, OfAct, Machine, Joined}
use Rattle.protocol.specs.Events.{Event, Form, Arrive, Ask, Complete, Sync, Commit, Prepare, Decide}
use Rattle.protocol.specs.Words.{holds, who_of, is_empty, is_who, is_value, is_doomed, is_sealed, is_live_status, is_complete_batch, is_batch_entry, joined_of, act_of, waiting_of, lock_of, is_decided}
use Rattle.protocol.specs.Conditions.{IsAllowed, conditions}
use Rattle.protocol.specs.Effects.{after, cell_at, log_at, no_cell, no_log, added}
use Rattle.protocol.specs.OnBook as book
use Rattle.protocol.specs.History.{History, Slice, Ran, Stands, Gone, grown, asks, is_reader_act}
use Rattle.protocol_laws.specs.OneWay.{EachBecame, StatusWent, ActWent}
use Rattle.protocol_laws.specs.Commits.{is_kept, KeptAhead, reads_who}
use Rattle.protocol_laws.specs.Sees.{blocks_readers, SeesAt}
use Rattle.protocol_laws.specs.Tracks.{key_of, keys_in, is_key_among, Bare, has_read}
use Rattle.protocol_laws.proofs.first.OneWay.{went_on}
use Rattle.protocol_laws.proofs.first.Statuses.{live_not_doomed}
use Rattle.protocol_laws.proofs.machine.ActResults as results
use Rattle.protocol_laws.proofs.machine.ActsGrow.{acts_grow, grown_holds}
use Rattle.protocol_laws.proofs.machine.MarksKept.{log_synced}
use Rattle.protocol_laws.proofs.machine.ReadersKept.{LockOf, Locks, reader_of, bare}
use Rattle.protocol_laws.proofs.machine.ReadersSee.{AllSee, none_has}
use Rattle.protocol_laws.proofs.machine.StartsKept.{Starts, Started}
use Rattle.protocol_laws.proofs.machine.TrackLists.{is_who_true, NotComplete}
use Rattle.protocol_laws.proofs.machine.TracksKept.{Tracked, held}
use Rattle.protocol_laws.proofs.machine.TurnsKept.{Turned, one_is}
use Rattle.protocol_laws.proofs.machine.AllGood.{AllGood}
use Rattle.protocol_theorems.proofs.order.LastLaw.{Whole}
use Rattle.protocol_records.specs.Logged.{ActsSure, ActsStand, Prepared, has_joined}
use Rattle.protocol_records.specs.Telling.{One, told_states, names}
use Rattle.protocol_records.proofs.crash.KeptSure.{list_all_at}
use Rattle.protocol_records.proofs.crash.ReadersOver.{IsBehind, one_behind, ahead_kept, stands_unsealed}
use Rattle.protocol_records.proofs.crash.ReadersSure.{reader_not_kept}
use Rattle.protocol_records.proofs.crash.TellsKept.{told_added, told_same, told_commit, told_all, batch_unmarked, differ_at, completes_fresh, prepares_fresh}
use Rattle.followed_runs.specs.Following.{is_ahead}
use Rattle.followed_runs.proofs.Ahead.{ahead_first, ahead_split, is_before, before_more, before_once, before_keys}

-- who has records of an actor, in order
abbrev pub told_at : {C : Type 0} → Fixed C → Machine C → ℕ → List One
told_at w s a = told_states a (log_at s (a % w.text.logs)).records

-- ---- a reader that has no place yet, and is not given up

abbrev pub reads_live : Act → Bool
reads_live x = x.reader && is_live_status x.status

abbrev pub is_pending : List Act → Who → Bool
is_pending acts (OfBatch k) = false
is_pending acts (OfAct t) = holds reads_live (act_of t acts)

live_before : (p q : Status) → StatusWent p q → is_live_status q ≡ true → is_live_status p ≡ true
live_before Live q g e = refl
live_before (Doomed v) q g e = absurd (true≢false (sym e ∙ ap is_live_status g))
live_before (Decided c) q (inl g) e = absurd (true≢false (sym e ∙ ap is_live_status g))
live_before (Decided c) q (inr g) e = absurd (true≢false (sym e ∙ ap is_live_status g))
live_before (Sealed c) q g e = absurd (true≢false (sym e ∙ ap is_live_status g))

one_before : (x y : Act) → ActWent x y → reads_live y ≡ true → reads_live x ≡ true
one_before x y g h = let v = and_parts y.reader (is_live_status y.status) h in and_from x.reader (is_live_status x.status) (sym g.reader ∙ v.0) (live_before x.status y.status g.status v.1)

went_back : (t : ℕ) (x : Act) (xs ys : List Act) → EachBecame ActWent xs ys → act_of t xs ≡ Some x → holds reads_live (act_of t ys) ≡ true → reads_live x ≡ true
went_back t x [] ys r f h = absurd (cc f)
went_back t x (y ∷ xs) [] r f h = absurd r
went_back t x (y ∷ xs) (z ∷ ys) r f h = by (y.tid == t) f (subst (λ n. holds reads_live (if n == t then Some z else act_of t ys) ≡ true) r.0.tid h) (went_back t x xs ys r.1)
  where
    by : (v : Bool) → (if v then Some y else act_of t xs) ≡ Some x → holds reads_live (if v then Some z else act_of t ys) ≡ true → (act_of t xs ≡ Some x → holds reads_live (act_of t ys) ≡ true → reads_live x ≡ true) → reads_live x ≡ true
    by true f h r' = let same : y ≡ x = cc f in subst (λ u. reads_live u ≡ true) same (one_before y z r.0 h)
    by false f h r' = r' f h

-- who is named has a record
pub named_logged : (t a : ℕ) (rs : List LogRecord) → names (OfAct t) (told_states a rs) ≡ true → list_any (is_prepare t a) rs ≡ true
named_logged t a rs n = elim (cases_Bool (list_any (is_prepare t a) rs)) [
  | inl q ↦ q
  | inr q ↦ absurd (true≢false (sym n ∙ none (told_states a rs) (told_all (λ y. is_who (OfAct t) y ≡ false) a rs (λ j r. refl) (λ u r. false_from_ne_true (t == u) (λ e. true≢false (sym (subst (λ z. list_any (is_prepare z a) rs ≡ true) (sym (eqb-true t u e)) r) ∙ q))))))
]
  where
    none : (os : List One) → AllByRecursion (λ o. is_who (OfAct t) o.who ≡ false) os → names (OfAct t) os ≡ false
    none [] h = refl
    none (o ∷ os) h = rw (h.0, none os h.1) refl

-- an ACT that has a record: it is in the book, has a value, and joined the actor
pub has_value_there : {C : Type 0} (w : Fixed C) (s : Machine C) (t a : ℕ) → Prepared w s → names (OfAct t) (told_at w s a) ≡ true → (x : Act) × ((act_of t s.book.acts ≡ Some x) × ((is_value x.result ≡ true) × (has_joined a x ≡ true)))
unfolding Prepared
has_value_there w s t a pr n =
    let x = one_is (λ x. is_value x.result && has_joined a x) (act_of t s.book.acts) (pr t a (named_logged t a (log_at s (a % w.text.logs)).records n)) in
    let v = and_parts (is_value x.0.result) (has_joined a x.0) x.2 in
    (x.0, (x.1, (v.0, v.1)))

was_pending : {C : Type 0} (w : Fixed C) (e : Event) (s : Machine C) (a : ℕ) (y : Who) → IsAllowed w e s → Prepared w s → is_pending (after w e s).book.acts y ≡ true → names y (told_at w s a) ≡ true → is_pending s.book.acts y ≡ true
was_pending w e s a (OfBatch k) ok pr h n = h
was_pending w e s a (OfAct t) ok pr h n =
    let x = has_value_there w s t a pr n in
    subst (λ o. holds reads_live o ≡ true) (sym x.1.0) (went_back t x.0 s.book.acts (after w e s).book.acts (went_on w e s ok).acts x.1.0 h)

reads_still : {C : Type 0} (w : Fixed C) (e : Event) (s : Machine C) (y : Who) → reads_who s.book.acts y ≡ true → reads_who (after w e s).book.acts y ≡ true
reads_still w e s (OfBatch k) q = q
reads_still w e s (OfAct t) q = grown_holds (λ x. x.reader) s.book.acts (after w e s).book.acts t (λ x y k q. k.reader ∙ q) (acts_grow w e s) q

wrote_before : {C : Type 0} (w : Fixed C) (e : Event) (s : Machine C) (y : Who) → reads_who (after w e s).book.acts y ≡ false → reads_who s.book.acts y ≡ false
wrote_before w e s y r = false_from_ne_true (reads_who s.book.acts y) (λ q. true≢false (sym (reads_still w e s y q) ∙ r))

-- ---- it stands there, and has read

starts_read : {C : Type 0} (rd : ℕ → Bool) (t : ℕ) (xs : List (Waiting C)) (rs : List Ran) → Starts rd xs rs → Bare (OfAct t) rs → is_some (waiting_of t xs) ≡ false → is_key_among (OfAct t) (keys_in rs) ≡ true → rd t ≡ true
starts_read rd t xs [] h b n e = absurd (true≢false (sym e))
starts_read rd t xs (Stands (OfBatch k) c ss ∷ rs) h b n e = starts_read rd t xs rs h b.1 n e
starts_read {C} rd t xs (Stands (OfAct u) c ss ∷ rs) h b n e = by (u == t) refl e (starts_read rd t xs rs h.1 b.1 n)
  where
    by : (v : Bool) → (u == t) ≡ v → (v || is_key_among (OfAct t) (keys_in rs)) ≡ true → (is_key_among (OfAct t) (keys_in rs) ≡ true → rd t ≡ true) → rd t ≡ true
    by true q e k = elim (cases_Bool (rd t)) [
      | inl r ↦ r
      | inr r ↦ absurd (true≢false (sym (subst (λ z. is_some (waiting_of z xs) ≡ true) (eqb-true u t q) (h.0 (ap is_empty (b.0 q)) (ap rd (eqb-true u t q) ∙ r))) ∙ n))
    ]
    by false q e k = k e
starts_read rd t xs (Gone y ss ∷ rs) h b n e = starts_read rd t xs rs h b n e

pub record StandsRead {C : Type 0} (s : Machine C) (h : History) (t a : ℕ) : Type 0 where
  pub act : Act
  pub found : act_of t s.book.acts ≡ Some act
  pub reader : act.reader ≡ true
  pub stands : is_key_among (OfAct t) (map key_of (cell_at s a).entries) ≡ true
  pub read : has_read (h.reads a) t ≡ true

some_value : (o : Option TxResult) → is_value o ≡ true → is_some o ≡ true
some_value None e = e
some_value (Some r) e = refl

live_unsealed : (st : Status) → is_live_status st ≡ true → is_sealed st ≡ false
live_unsealed Live e = refl
live_unsealed (Doomed d) e = refl
live_unsealed (Decided c) e = refl
live_unsealed (Sealed c) e = absurd (true≢false (sym e))

pub stands_read : {C : Type 0} (w : Fixed C) (Of : Tx → C → Type 0) (finish : C → List State → Alone) (t a : ℕ) (s : Machine C) (h : History) → AllGood w Of finish s h → Prepared w s → is_pending s.book.acts (OfAct t) ≡ true → names (OfAct t) (told_at w s a) ≡ true → StandsRead s h t a
unfolding Tracked Started Turned Locks
stands_read {C} w Of finish t a s h g pr p n = record {
  act = x.0;
  found = x.1.0;
  reader = v.0;
  stands = stands;
  read = starts_read (has_read (h.reads a)) t (cell_at s a).inbox (h.long a) (g.started a) (bare s.book.acts t (h.long a) (cell_at s a).entries (g.good.turned a) (g.locks a) (ap is_reader_act x.1.0 ∙ v.0)) away (subst (λ z. is_key_among (OfAct t) z ≡ true) (g.good.tracked a).stands stands);
}
  where
    x : (x : Act) × ((act_of t s.book.acts ≡ Some x) × ((is_value x.result ≡ true) × (has_joined a x ≡ true)))
    x = has_value_there w s t a pr n

    v : (x.0.reader ≡ true) × (is_live_status x.0.status ≡ true)
    v = and_parts x.0.reader (is_live_status x.0.status) (subst (λ o. holds reads_live o ≡ true) x.1.0 p)

    stands : is_key_among (OfAct t) (map key_of (cell_at s a).entries) ≡ true
    stands = stands_unsealed s t a x.0 g.left g.standing x.1.0 (live_not_doomed x.0.status v.1) (live_unsealed x.0.status v.1) x.1.1.1

    away : is_some (waiting_of t (cell_at s a).inbox) ≡ false
    away = false_from_ne_true (is_some (waiting_of t (cell_at s a).inbox)) (λ q. true≢false (sym (some_value x.0.result x.1.1.0) ∙ ap is_some (results.waiting_none t a s q g.none t x.0 x.1.0 refl)))

-- ---- nobody that has read stands behind one that blocks readers

not_behind : (acts : List Act) (now : State) (zs : List Slice) (n : Who) (t : ℕ) (es : List Entry) → SeesAt now zs es → AllByRecursion (LockOf acts) es → is_reader_act (act_of t acts) ≡ true → has_read zs t ≡ true → AllByRecursion (λ e. is_who (who_of e) n ≡ true → blocks_readers e ≡ true) es
    → IsBehind n (OfAct t) (map key_of es) → ⊥
not_behind acts now zs n t [] s l r z k b = b
not_behind acts now zs n t (e ∷ es) s l r z k (inl b) = true≢false (sym z ∙ none_has acts t zs es l.1 r b.1 (s.1 (k.0 b.0)))
not_behind acts now zs n t (e ∷ es) s l r z k (inr b) = not_behind acts now zs n t es s.2 l.1 r z k.1 b

batch_blocks : (k : ℕ) (es : List Entry) → NotComplete (OfBatch k) (map key_of es) → AllByRecursion (λ e. is_who (who_of e) (OfBatch k) ≡ true → blocks_readers e ≡ true) es
batch_blocks k [] h = tt
batch_blocks k (BatchEntry b ∷ es) h = ((λ q. ap not (h.0 q)), batch_blocks k es h.1)
batch_blocks k (ActEntry x ∷ es) h = ((λ q. absurd (true≢false (sym q))), batch_blocks k es h.1)

act_blocks : (acts : List Act) (t : ℕ) (es : List Entry) → is_reader_act (act_of t acts) ≡ false → AllByRecursion (LockOf acts) es → AllByRecursion (λ e. is_who (who_of e) (OfAct t) ≡ true → blocks_readers e ≡ true) es
act_blocks acts t [] r l = tt
act_blocks acts t (BatchEntry b ∷ es) r l = ((λ q. absurd (true≢false (sym q))), act_blocks acts t es r l.1)
act_blocks acts t (ActEntry x ∷ es) r l = ((λ q. ap not (sym (reader_of x.reader (act_of x.tid acts) l.0) ∙ (ap (λ n. is_reader_act (act_of n acts)) (eqb-true x.tid t q) ∙ r))), act_blocks acts t es r l.1)

-- where both stand, the reader was placed first
placed_first : {C : Type 0} (w : Fixed C) (Of : Tx → C → Type 0) (finish : C → List State → Alone) (t a : ℕ) (n : Who) (s : Machine C) (h : History) → AllGood w Of finish s h → Whole w Of finish s h → StandsRead s h t a → is_who (OfAct t) n ≡ false → is_key_among n (map key_of (cell_at s a).entries) ≡ true
    → AllByRecursion (λ e. is_who (who_of e) n ≡ true → blocks_readers e ≡ true) (cell_at s a).entries → is_before (OfAct t) n (h.placed a) ≡ true
unfolding Tracked Locks AllSee
placed_first w Of finish t a n s h g wh r other there k = elim (one_behind (OfAct t) n (map key_of (cell_at s a).entries) other r.stands there) [
  | inl b ↦ before_keys (OfAct t) n (h.placed a) (keys_in (h.long a)) (wh.ordered.chained.chains a).in_order (subst (IsBehind (OfAct t) n) (g.good.tracked a).stands b)
  | inr b ↦ absurd (not_behind s.book.acts (cell_at s a).state (h.reads a) n t (cell_at s a).entries (g.see a) (g.locks a) (ap is_reader_act r.found ∙ r.reader) r.read k b)
]

-- ---- what an event adds to the records of an actor

abbrev pub IsNew : Event → ℕ → One → Type 0
IsNew (Complete k a) c n = (n.who ≡ OfBatch k) × (a ≡ c)
IsNew (Prepare t a) c n = (n.who ≡ OfAct t) × (a ≡ c)
IsNew _ c n = ⊥

pub told_news : {C : Type 0} (w : Fixed C) (e : Event) (s : Machine C) (c : ℕ) → (told_at w (after w e s) c ≡ told_at w s c) ⊎ ((n : One) × ((told_at w (after w e s) c ≡ told_at w s c ++ n ∷ []) × IsNew e c n))
unfolding after
told_news w (Form k) s c = inl (told_same c _ s.logs (k % w.text.logs) (c % w.text.logs) refl)
told_news w (Commit k) s c = inl (told_same c _ s.logs (k % w.text.logs) (c % w.text.logs) refl)
told_news w (Decide t) s c = inl (told_same c _ s.logs (t % w.text.logs) (c % w.text.logs) (told_commit c s.book.next_c (act_of t s.book.acts)))
told_news w (Sync l) s c = inl (ap (told_states c) (log_synced s.logs l (c % w.text.logs)))
told_news w (Complete k a) s c = elim (told_added c (BatchComplete k a (cell_at s a).state ∷ []) s.logs (a % w.text.logs) (c % w.text.logs)) [ inl q ↦ inl q | inr q ↦ by (a == c) refl q ]
  where
    new : List One
    new = told_states c (slice_index_or (slice_set s.logs (a % w.text.logs) (added (BatchComplete k a (cell_at s a).state ∷ []) (slice_index_or s.logs (a % w.text.logs) no_log))) (c % w.text.logs) no_log).records

    old : List One
    old = told_states c (slice_index_or s.logs (c % w.text.logs) no_log).records

    by : (v : Bool) → (a == c) ≡ v → new ≡ old ++ (if v then record { who = OfBatch k; state = (cell_at s a).state } ∷ [] else []) → (new ≡ old) ⊎ ((n : One) × ((new ≡ old ++ n ∷ []) × IsNew (Complete k a) c n))
    by true e q = inr (record { who = OfBatch k; state = (cell_at s a).state }, (q, (refl, eqb-true a c e)))
    by false e q = inl (q ∙ append-nil old)
told_news w (Prepare t a) s c = elim (told_added c (ActPrepare t a (cell_at s a).state ∷ []) s.logs (a % w.text.logs) (c % w.text.logs)) [ inl q ↦ inl q | inr q ↦ by (a == c) refl q ]
  where
    new : List One
    new = told_states c (slice_index_or (slice_set s.logs (a % w.text.logs) (added (ActPrepare t a (cell_at s a).state ∷ []) (slice_index_or s.logs (a % w.text.logs) no_log))) (c % w.text.logs) no_log).records

    old : List One
    old = told_states c (slice_index_or s.logs (c % w.text.logs) no_log).records

    by : (v : Bool) → (a == c) ≡ v → new ≡ old ++ (if v then record { who = OfAct t; state = (cell_at s a).state } ∷ [] else []) → (new ≡ old) ⊎ ((n : One) × ((new ≡ old ++ n ∷ []) × IsNew (Prepare t a) c n))
    by true e q = inr (record { who = OfAct t; state = (cell_at s a).state }, (q, (refl, eqb-true a c e)))
    by false e q = inl (q ∙ append-nil old)
told_news w e s c = inl refl

-- ---- placed behind it

abbrev pub ReadersFirst : {C : Type 0} → Fixed C → Machine C → History → Type 0
ReadersFirst w s h = (a : ℕ) (y z : Who) → is_pending s.book.acts y ≡ true → reads_who s.book.acts z ≡ false → is_ahead y z (told_at w s a) ≡ true → is_before y z (h.placed a) ≡ true

more_placed : (a c : ℕ) (who : List Who) (placed : ℕ → List Who) (y z : Who) → is_before y z (placed c) ≡ true → is_before y z (if c == a then placed a ++ who else placed c) ≡ true
more_placed a c who placed y z b = by (c == a) refl
  where
    by : (v : Bool) → (c == a) ≡ v → is_before y z (if v then placed a ++ who else placed c) ≡ true
    by true e = before_more y z (placed a) who (subst (λ n. is_before y z (placed n) ≡ true) (eqb-true c a e) b)
    by false e = b

still_before : {C : Type 0} (w : Fixed C) (e : Event) (s : Machine C) (h : History) (c : ℕ) (y z : Who) → is_before y z (h.placed c) ≡ true → is_before y z ((grown w e s h).placed c) ≡ true
unfolding grown
still_before w (Arrive k a) s h c y z b = more_placed a c (OfBatch k ∷ []) h.placed y z b
still_before w (Ask t a) s h c y z b = more_placed a c (asks t (book.in_the_way (lock_of t s.book.acts) (cell_at s a).entries)) h.placed y z b
still_before w e s h c y z b = b

-- the ACT whose record is added stands there
prepares_there : {C : Type 0} (w : Fixed C) (Of : Tx → C → Type 0) (finish : C → List State → Alone) (t a : ℕ) (s : Machine C) (h : History) → IsAllowed w (Prepare t a) s → AllGood w Of finish s h → ActsSure w s → ActsStand s h → is_key_among (OfAct t) (map key_of (cell_at s a).entries) ≡ true
unfolding conditions ActsSure ActsStand
prepares_there w Of finish t a s h ok g su st =
    let x = one_is (λ x. is_value x.result && not (is_doomed x.status)) (act_of t s.book.acts) ok.0 in
    let v = and_parts (is_value x.0.result) (not (is_doomed x.0.status)) x.2 in
    let y = one_is (λ x. holds (λ p. not p.prepared) (joined_of a x)) (act_of t s.book.acts) ok.1.0 in
    let p = one_is (λ p. not p.prepared) (joined_of a y.0) y.2 in
    let same : y.0 ≡ x.0 = cc (sym y.1 ∙ x.1) in
    let unsealed : is_sealed x.0.status ≡ false = false_from_ne_true (is_sealed x.0.status) (λ q.
    let vouched : p.0.vouched ≡ true = list_all_at (λ p. p.actor == a) (λ p. p.vouched) p.0 x.0.places (ap (joined_of a) (sym same) ∙ p.1) ((su t x.0 x.1).everywhere (or_right (is_decided x.0.status) _ q) v.0) in
    true≢false (sym ((st t x.0 x.1).first a p.0 (ap (joined_of a) (sym same) ∙ p.1) vouched) ∙ not-true p.0.prepared p.2)) in
    stands_unsealed s t a x.0 g.left g.standing x.1 (not-true (is_doomed x.0.status) v.1) unsealed (joined a p.0 x.0.places (ap (joined_of a) (sym same) ∙ p.1))
  where
    joined : (a : ℕ) (p : Joined) (ps : List Joined) → find (λ p. p.actor == a) ps ≡ Some p → list_any (λ p. p.actor == a) ps ≡ true
    joined a p [] e = absurd (cc e)
    joined a p (q ∷ qs) e = by (q.actor == a) e (joined a p qs)
      where
        by : (v : Bool) → (if v then Some q else find (λ p. p.actor == a) qs) ≡ Some p → (find (λ p. p.actor == a) qs ≡ Some p → list_any (λ p. p.actor == a) qs ≡ true) → (v || list_any (λ p. p.actor == a) qs) ≡ true
        by true f k = refl
        by false f k = k f

-- the record that is added
new_before : {C : Type 0} (w : Fixed C) (Of : Tx → C → Type 0) (finish : C → List State → Alone) (e : Event) (s : Machine C) (h : History) (a : ℕ) (n : One) (y z : Who) → IsAllowed w e s → AllGood w Of finish s h → Whole w Of finish s h → ActsSure w s → ActsStand s h → Prepared w s → IsNew e a n → is_who z n.who ≡ true
    → is_pending s.book.acts y ≡ true → names y (told_at w s a) ≡ true → reads_who s.book.acts z ≡ false → is_before y z (h.placed a) ≡ true
unfolding conditions Locks
new_before w Of finish e s h a n (OfBatch j) z ok g wh su st pr i q p m r = absurd (true≢false (sym p))
new_before w Of finish (Complete k b) s h a n (OfAct t) z ok g wh su st pr i q p m r =
    let u = batch_unmarked k (cell_at s b).entries (held (λ c. holds (λ e. not (is_complete_batch e)) (find (is_batch_entry k) c.entries)) s.cells b no_cell ok.0) (differ_at w s h b g.good.tracked) in
    let reads = stands_read w Of finish t b s h g pr p (subst (λ c. names (OfAct t) (told_at w s c) ≡ true) (sym i.1) m) in
    let before : is_before (OfAct t) (OfBatch k) (h.placed b) ≡ true = placed_first w Of finish t b (OfBatch k) s h g wh reads refl u.1 (batch_blocks k (cell_at s b).entries u.0) in
    subst (λ v. is_before (OfAct t) v (h.placed a) ≡ true) (sym (is_who_true z n.who q ∙ i.0)) (subst (λ c. is_before (OfAct t) (OfBatch k) (h.placed c) ≡ true) i.1 before)
new_before w Of finish (Prepare u b) s h a n (OfAct t) z ok g wh su st pr i q p m r =
    let reads = stands_read w Of finish t b s h g pr p (subst (λ c. names (OfAct t) (told_at w s c) ≡ true) (sym i.1) m) in
    let writes : is_reader_act (act_of u s.book.acts) ≡ false = subst (λ v. reads_who s.book.acts v ≡ false) (is_who_true z n.who q ∙ i.0) r in
    let other : (t == u) ≡ false = false_from_ne_true (t == u) (λ v. true≢false (sym (ap is_reader_act reads.found ∙ reads.reader) ∙ (ap (λ k. is_reader_act (act_of k s.book.acts)) (eqb-true t u v) ∙ writes))) in
    let before : is_before (OfAct t) (OfAct u) (h.placed b) ≡ true = placed_first w Of finish t b (OfAct u) s h g wh reads other (prepares_there w Of finish u b s h ok g su st) (act_blocks s.book.acts u (cell_at s b).entries writes (g.locks b)) in
    subst (λ v. is_before (OfAct t) v (h.placed a) ≡ true) (sym (is_who_true z n.who q ∙ i.0)) (subst (λ c. is_before (OfAct t) (OfAct u) (h.placed c) ≡ true) i.1 before)
new_before w Of finish e s h a n (OfAct t) z ok g wh su st pr i q p m r = absurd i

pub readers_first : {C : Type 0} (w : Fixed C) (Of : Tx → C → Type 0) (finish : C → List State → Alone) (e : Event) (s : Machine C) (h : History) → IsAllowed w e s → AllGood w Of finish s h → Whole w Of finish s h → ActsSure w s → ActsStand s h → Prepared w s → ReadersFirst w s h → ReadersFirst w (after w e s) (grown w e s h)
readers_first {C} w Of finish e s h ok g wh su st pr q a y z p r i = by (told_news w e s a)
  where
    writes : reads_who s.book.acts z ≡ false
    writes = wrote_before w e s z r

    old : is_ahead y z (told_at w s a) ≡ true → is_before y z ((grown w e s h).placed a) ≡ true
    old v = still_before w e s h a y z (q a y z (was_pending w e s a y ok pr p (ahead_first y z (told_at w s a) v)) writes v)

    by : (told_at w (after w e s) a ≡ told_at w s a) ⊎ ((n : One) × ((told_at w (after w e s) a ≡ told_at w s a ++ n ∷ []) × IsNew e a n)) → is_before y z ((grown w e s h).placed a) ≡ true
    by (inl same) = old (subst (λ os. is_ahead y z os ≡ true) same i)
    by (inr n) = elim (ahead_split y z (told_at w s a) n.0 (subst (λ os. is_ahead y z os ≡ true) n.1.0 i)) [
      | inl v ↦ old v
      | inr v ↦ still_before w e s h a y z (new_before w Of finish e s h a n.0 y z ok g wh su st pr n.1.1 v.1 (was_pending w e s a y ok pr p v.0) v.0 writes)
    ]

-- ---- and not committed

abbrev pub PendingLast : {C : Type 0} → Fixed C → Machine C → History → Type 0
PendingLast w s h = (a : ℕ) (y z : Who) → is_pending s.book.acts y ≡ true → is_kept z h.kept ≡ true → is_ahead y z (told_at w s a) ≡ true → ⊥

-- when one commits that does not only read
pub commits_not_behind : {C : Type 0} (w : Fixed C) (Of : Tx → C → Type 0) (finish : C → List State → Alone) (s : Machine C) (h : History) (a : ℕ) (y u : Who) → AllGood w Of finish s h → Whole w Of finish s h → Prepared w s → ReadersFirst w s h → reads_who s.book.acts u ≡ false → KeptAhead h.kept u (h.long a) → is_key_among u (keys_in (h.long a)) ≡ true
    → is_pending s.book.acts y ≡ true → is_ahead y u (told_at w s a) ≡ true → ⊥
unfolding Tracked
commits_not_behind w Of finish s h a (OfBatch k) u g wh pr q r k' there p i = true≢false (sym p)
commits_not_behind w Of finish s h a (OfAct t) u g wh pr q r ahead there p i =
    let x = stands_read w Of finish t a s h g pr p (ahead_first (OfAct t) u (told_at w s a) i) in
    let reader : is_reader_act (act_of t s.book.acts) ≡ true = ap is_reader_act x.found ∙ x.reader in
    let other : is_who (OfAct t) u ≡ false = false_from_ne_true (is_who (OfAct t) u) (λ v. true≢false (sym reader ∙ (ap (reads_who s.book.acts) (is_who_true (OfAct t) u v) ∙ r))) in
    elim (one_behind (OfAct t) u (keys_in (h.long a)) other (subst (λ z. is_key_among (OfAct t) z ≡ true) (g.good.tracked a).stands x.stands) there) [
      | inl b ↦ true≢false (sym (ahead_kept h.kept (OfAct t) u (h.long a) ahead b) ∙ reader_not_kept s h t g.acts reader)
      | inr b ↦ before_once (OfAct t) u (h.placed a) (wh.ordered.chained.chains a).once (q a (OfAct t) u p r i) (before_keys u (OfAct t) (h.placed a) (keys_in (h.long a)) (wh.ordered.chained.chains a).in_order b)
    ]

new_fresh : {C : Type 0} (w : Fixed C) (Of : Tx → C → Type 0) (finish : C → List State → Alone) (e : Event) (s : Machine C) (h : History) (a : ℕ) (n : One) → IsAllowed w e s → AllGood w Of finish s h → ActsSure w s → ActsStand s h → IsNew e a n → is_kept n.who h.kept ≡ false
new_fresh w Of finish (Complete k b) s h a n ok g su st i = ap (λ v. is_kept v h.kept) i.0 ∙ completes_fresh w Of finish k b s h ok g
new_fresh w Of finish (Prepare t b) s h a n ok g su st i = ap (λ v. is_kept v h.kept) i.0 ∙ prepares_fresh w t b s h ok g.acts su st
new_fresh w Of finish e s h a n ok g su st i = absurd i

-- one that had committed
pub was_last : {C : Type 0} (w : Fixed C) (Of : Tx → C → Type 0) (finish : C → List State → Alone) (e : Event) (s : Machine C) (h : History) (a : ℕ) (y z : Who) → IsAllowed w e s → AllGood w Of finish s h → ActsSure w s → ActsStand s h → Prepared w s → PendingLast w s h
    → is_pending (after w e s).book.acts y ≡ true → is_kept z h.kept ≡ true → is_ahead y z (told_at w (after w e s) a) ≡ true → ⊥
was_last {C} w Of finish e s h a y z ok g su st pr q p k i = by (told_news w e s a)
  where
    old : is_ahead y z (told_at w s a) ≡ true → ⊥
    old v = q a y z (was_pending w e s a y ok pr p (ahead_first y z (told_at w s a) v)) k v

    by : (told_at w (after w e s) a ≡ told_at w s a) ⊎ ((n : One) × ((told_at w (after w e s) a ≡ told_at w s a ++ n ∷ []) × IsNew e a n)) → ⊥
    by (inl same) = old (subst (λ os. is_ahead y z os ≡ true) same i)
    by (inr n) = elim (ahead_split y z (told_at w s a) n.0 (subst (λ os. is_ahead y z os ≡ true) n.1.0 i)) [
      | inl v ↦ old v
      | inr v ↦ true≢false (sym k ∙ (ap (λ u. is_kept u h.kept) (is_who_true z n.0.who v.1) ∙ new_fresh w Of finish e s h a n.0 ok g su st n.1.1))
    ]

-- a record stays that of one that was pending
pub pending_before : {C : Type 0} (w : Fixed C) (e : Event) (s : Machine C) (a : ℕ) (y : Who) → IsAllowed w e s → Prepared w s → is_pending (after w e s).book.acts y ≡ true → names y (told_at w s a) ≡ true → is_pending s.book.acts y ≡ true
pending_before w e s a y ok pr p n = was_pending w e s a y ok pr p n
