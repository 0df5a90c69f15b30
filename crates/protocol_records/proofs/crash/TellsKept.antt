-- What records tell of the states of actors, event by event.
use Rattle.std.specs.Prelude.{◌≡◌, refl, ℕ, zero, suc, ◌<◌, ◌%◌, ◌==◌, not, Bool, true, false, ◌&&◌, ◌||◌, ◌⊎◌, if◌then◌else◌, Option, Some, None, is_some, List, [], ◌∷◌, ◌++◌, map, find, slice_index_or, slice_set}
use Rattle.std.specs.List.{AllByRecursion, list_any, list_all}
use Rattle.std.proofs.Common.{arith, sym, ap, subst, inl, inr, ◌∙◌}
use Rattle.std.proofs.lemmas.List.{append-nil}
use Rattle.std.proofs.lemmas.Bool.{true≢false, or_cases, or_left, or_right, or_parts, and_parts, eqb-true, eq-eqb, cases_Bool, false_from_ne_true, not-true}
use Rattle.protocol.specs.Cutting.{Ascends}
use Rattle.snap_base.specs.declared.transactions.Tx.{Tx}
use Rattle.snap_base.specs.declared.transactions.State.{State}
use Rattle.protocol_laws.proofs.machine.ActsGrow.{acts_grow, grown_holds}
use Rattle.protocol_laws.proofs.machine.ReadersSee.{ReadBy, not_read, reads_at}
use Rattle.protocol.specs.Facts.{Alone}
use Rattle.protocol.specs.Fixed.{Fixed, no_state}
use Rattle.protocol.specs.Records.{LogRecord, BatchInfo, BatchComplete, BatchDone, ActPrepare, ActDone, is_complete, is_prepare}
use Rattle.protocol.specs.Parts.{Act, Who, OfBatch, OfAct, Entry, BatchEntry, ActEntry, Waiting, Log, Machine}
use Rattle.protocol.specs.Events.{Event, Form, Arrive, Ask, Run, Complete, Sync, Commit, Rollback, Prepare, Decide, Finish, Trim}
use Rattle.protocol.specs.Words.{holds, is_who, is_act_who, is_value, is_doomed, is_aborted, who_of, who_on, is_entry_of, is_batch_entry, is_complete_batch, ahead, waiting_of, joined_of, act_of, is_ordered, value_of, lock_of}
use Rattle.protocol.specs.Contents.{complete_mark}
use Rattle.protocol.specs.Conditions.{IsAllowed, conditions}
use Rattle.protocol.specs.Effects.{after, cell_at, no_cell, no_log, added, act_commit, log_at}
use Rattle.protocol.specs.OnBook as book
use Rattle.protocol.specs.OnCell as cell
use Rattle.protocol.specs.History.{History, Ran, Stands, Gone, grown, with_at, not_run, completed, left_for_good, without_standing, asks, batches_in, batch_in, is_traceless, is_reader_act}
use Rattle.protocol_laws.specs.Tracks.{Key, key_of, keys_in, is_key_among, Differ, InOrder, has_read}
use Rattle.protocol_laws.specs.Places.{FitsCell}
use Rattle.protocol_laws.specs.Commits.{is_kept, KeptFront, reads_who}
use Rattle.protocol_laws.specs.Marks.{is_done, IsAbortedOrDone, Recorded}
use Rattle.protocol_records.specs.Logged.{logged_at, has_joined, Prepared, ActsSure, ActsStand}
use Rattle.protocol_records.specs.Telling.{One, told_states, AllTells, Telling}
use Rattle.protocol_laws.proofs.machine.TrackLists
use Rattle.protocol_laws.proofs.machine.TrackLists.{NotComplete}
use Rattle.protocol_laws.proofs.machine.TracksKept.{Tracked, held}
use Rattle.protocol_laws.proofs.machine.TurnsKept.{one_is}
use Rattle.protocol_laws.proofs.machine.PlacesKept.{Placed, message}
use Rattle.protocol_laws.proofs.machine.MarksKept as marks
use Rattle.protocol_laws.proofs.machine.BatchesCommit as commits
use Rattle.protocol_laws.proofs.machine.CommitsKept.{Committed}
use Rattle.protocol_laws.proofs.machine.CommitsKept as chain
use Rattle.protocol_laws.proofs.machine.StartsKept.{Starts, Started, ran_there}
use Rattle.protocol_laws.proofs.machine.ActsKept.{Acts}
use Rattle.protocol_laws.proofs.machine.ActResults as results
use Rattle.protocol_laws.proofs.machine.Good as whole
use Rattle.protocol_laws.proofs.machine.Good.{Given}
use Rattle.protocol_laws.proofs.machine.AllGood.{AllGood}
use Rattle.protocol_laws.proofs.machine.AllGood as all
use Rattle.protocol_records.proofs.crash.OnLong.{on_key}
use Rattle.protocol_records.proofs.crash.KeptAll.{no_batch, reader_there}
use Rattle.protocol_laws.proofs.machine.ReadersCommit.{ReadersOf, reads_with_value}
use Rattle.protocol_records.proofs.crash.TellLists as lists
use Rattle.protocol_records.proofs.crash.TellLists.{Unmarked, AheadDone}
use Rattle.protocol_laws.proofs.machine.PlaceLists.{ascends_back}
use Rattle.protocol_laws.proofs.machine.MarksKept.{log_synced}

-- ---- what is told

pub told_join : (a : ℕ) (xs ys : List LogRecord) → told_states a (xs ++ ys) ≡ told_states a xs ++ told_states a ys
told_join a [] ys = refl
told_join a (BatchInfo k actors tids ∷ xs) ys = told_join a xs ys
told_join a (BatchComplete k b st ∷ xs) ys = by (b == a) (told_join a xs ys)
  where
    by : (v : Bool) → told_states a (xs ++ ys) ≡ told_states a xs ++ told_states a ys → (if v then record { who = OfBatch k; state = st } ∷ told_states a (xs ++ ys) else told_states a (xs ++ ys)) ≡ (if v then record { who = OfBatch k; state = st } ∷ told_states a xs else told_states a xs) ++ told_states a ys
    by true e = ap (λ l. record { who = OfBatch k; state = st } ∷ l) e
    by false e = e
told_join a (BatchDone k vs ∷ xs) ys = told_join a xs ys
told_join a (ActPrepare t b st ∷ xs) ys = by (b == a) (told_join a xs ys)
  where
    by : (v : Bool) → told_states a (xs ++ ys) ≡ told_states a xs ++ told_states a ys → (if v then record { who = OfAct t; state = st } ∷ told_states a (xs ++ ys) else told_states a (xs ++ ys)) ≡ (if v then record { who = OfAct t; state = st } ∷ told_states a xs else told_states a xs) ++ told_states a ys
    by true e = ap (λ l. record { who = OfAct t; state = st } ∷ l) e
    by false e = e
told_join a (ActDone t m c v actors ∷ xs) ys = told_join a xs ys

pub told_added : (a : ℕ) (rs : List LogRecord) (logs : List Log) (l m : ℕ)
    → (told_states a (slice_index_or (slice_set logs l (added rs (slice_index_or logs l no_log))) m no_log).records ≡ told_states a (slice_index_or logs m no_log).records)
    ⊎ (told_states a (slice_index_or (slice_set logs l (added rs (slice_index_or logs l no_log))) m no_log).records ≡ told_states a (slice_index_or logs m no_log).records ++ told_states a rs)
told_added a rs [] l m = inl refl
told_added a rs (x ∷ xs) zero zero = inr (told_join a x.records rs)
told_added a rs (x ∷ xs) zero (suc m) = inl refl
told_added a rs (x ∷ xs) (suc l) zero = inl refl
told_added a rs (x ∷ xs) (suc l) (suc m) = told_added a rs xs l m

-- nothing is told of the actor
pub told_same : (a : ℕ) (rs : List LogRecord) (logs : List Log) (l m : ℕ) → told_states a rs ≡ [] → told_states a (slice_index_or (slice_set logs l (added rs (slice_index_or logs l no_log))) m no_log).records ≡ told_states a (slice_index_or logs m no_log).records
told_same a rs logs l m e = elim (told_added a rs logs l m) [ inl q ↦ q | inr q ↦ q ∙ (ap (λ z. told_states a (slice_index_or logs m no_log).records ++ z) e ∙ append-nil (told_states a (slice_index_or logs m no_log).records)) ]

pub told_commit : (a c : ℕ) (o : Option Act) → told_states a (act_commit c o) ≡ []
told_commit a c None = refl
told_commit a c (Some x) = by (is_value x.result)
  where
    by : (b : Bool) → told_states a (if b then ActDone x.tid x.m c (value_of x.result) (Rattle.protocol.specs.Effects.ascending (map (λ p. p.actor) x.places)) ∷ [] else []) ≡ []
    by true = refl
    by false = refl

-- who is told has a record
pub told_all : (P : Who → Type 0) (a : ℕ) (rs : List LogRecord) → ((k : ℕ) → list_any (is_complete k a) rs ≡ true → P (OfBatch k)) → ((t : ℕ) → list_any (is_prepare t a) rs ≡ true → P (OfAct t)) → AllByRecursion (λ o. P o.who) (told_states a rs)
told_all P a [] f g = tt
told_all P a (BatchInfo k actors tids ∷ rs) f g = told_all P a rs f g
told_all P a (BatchComplete k b st ∷ rs) f g = by (b == a) refl (told_all P a rs (λ j q. f j (or_right ((k == j) && (b == a)) _ q)) g)
  where
    by : (v : Bool) → (b == a) ≡ v → AllByRecursion (λ o. P o.who) (told_states a rs) → AllByRecursion (λ o. P o.who) (if v then record { who = OfBatch k; state = st } ∷ told_states a rs else told_states a rs)
    by true e h = (f k (or_left ((k == k) && (b == a)) _ (rw (eq-eqb k k refl, e) refl)), h)
    by false e h = h
told_all P a (BatchDone k vs ∷ rs) f g = told_all P a rs f g
told_all P a (ActPrepare t b st ∷ rs) f g = by (b == a) refl (told_all P a rs f (λ j q. g j (or_right ((t == j) && (b == a)) _ q)))
  where
    by : (v : Bool) → (b == a) ≡ v → AllByRecursion (λ o. P o.who) (told_states a rs) → AllByRecursion (λ o. P o.who) (if v then record { who = OfAct t; state = st } ∷ told_states a rs else told_states a rs)
    by true e h = (g t (or_left ((t == t) && (b == a)) _ (rw (eq-eqb t t refl, e) refl)), h)
    by false e h = h
told_all P a (ActDone t m c v actors ∷ rs) f g = told_all P a rs f g

-- ---- marks, from the entries

unmarked : (who : Who) (rs : List Ran) → NotComplete who (keys_in rs) → Unmarked who rs
unmarked who [] h = tt
unmarked who (Stands y c ss ∷ rs) h = (h.0, unmarked who rs h.1)
unmarked who (Gone y ss ∷ rs) h = unmarked who rs h

not_among : (who : Who) (ks : List Key) → is_key_among who ks ≡ false → NotComplete who ks
not_among who [] h = tt
not_among who (k ∷ ks) h = let p = or_parts (is_who k.who who) (is_key_among who ks) h in ((λ q. absurd (true≢false (sym q ∙ p.0))), not_among who ks p.1)

-- the entry that runs is not complete
runs_unmarked : (t : ℕ) (es : List Entry) → is_some (find (is_entry_of t) es) ≡ true → ((e : Entry) → find (is_entry_of t) es ≡ Some e → complete_mark e ≡ false) → Differ (map key_of es) → NotComplete (who_on t es) (map key_of es) × (is_key_among (who_on t es) (map key_of es) ≡ true)
runs_unmarked t [] s k d = absurd (true≢false (sym s))
runs_unmarked t (e ∷ es) s k d = by (is_entry_of t e) s k (λ s k. runs_unmarked t es s k d.1)
  where
    by : (v : Bool) → is_some (if v then Some e else find (is_entry_of t) es) ≡ true → ((x : Entry) → (if v then Some e else find (is_entry_of t) es) ≡ Some x → complete_mark x ≡ false)
        → (is_some (find (is_entry_of t) es) ≡ true → ((x : Entry) → find (is_entry_of t) es ≡ Some x → complete_mark x ≡ false) → NotComplete (who_on t es) (map key_of es) × (is_key_among (who_on t es) (map key_of es) ≡ true))
        → NotComplete (if v then who_of e else who_on t es) (map key_of (e ∷ es)) × (is_key_among (if v then who_of e else who_on t es) (map key_of (e ∷ es)) ≡ true)
    by true s k r = (((λ q. k e refl), not_among (who_of e) (map key_of es) d.0), or_left (is_who (who_of e) (who_of e)) _ (TrackLists.is_who_refl (who_of e)))
    by false s k r = let g = r s k in
        (((λ q. absurd (true≢false (sym g.1 ∙ (ap (λ z. is_key_among z (map key_of es)) (sym (TrackLists.is_who_true (who_of e) (who_on t es) q)) ∙ d.0)))), g.0), or_right (is_who (who_of e) (who_on t es)) _ g.1)

-- a batch that becomes complete
pub batch_unmarked : (k : ℕ) (es : List Entry) → holds (λ e. not (is_complete_batch e)) (find (is_batch_entry k) es) ≡ true → Differ (map key_of es) → NotComplete (OfBatch k) (map key_of es) × (is_key_among (OfBatch k) (map key_of es) ≡ true)
batch_unmarked k [] h d = absurd (true≢false (sym h))
batch_unmarked k (ActEntry x ∷ es) h d = let g = batch_unmarked k es h d.1 in (((λ q. absurd (true≢false (sym q))), g.0), g.1)
batch_unmarked k (BatchEntry b ∷ es) h d = by (b.bid == k) refl h (λ h. batch_unmarked k es h d.1)
  where
    by : (v : Bool) → (b.bid == k) ≡ v → holds (λ e. not (is_complete_batch e)) (if v then Some (BatchEntry b) else find (is_batch_entry k) es) ≡ true → (holds (λ e. not (is_complete_batch e)) (find (is_batch_entry k) es) ≡ true → NotComplete (OfBatch k) (map key_of es) × (is_key_among (OfBatch k) (map key_of es) ≡ true))
        → ((v ≡ true → b.complete ≡ false) × NotComplete (OfBatch k) (map key_of es)) × ((v || is_key_among (OfBatch k) (map key_of es)) ≡ true)
    by true e h r = (((λ q. not-true b.complete h), not_among (OfBatch k) (map key_of es) (subst (λ z. is_key_among (OfBatch z) (map key_of es) ≡ false) (eqb-true b.bid k e) d.0)), refl)
    by false e h r = let g = r h in (((λ q. absurd (true≢false (sym q))), g.0), g.1)

abbrev AheadKeys : Who → List Key → Type 0
AheadKeys who [] = Unit {0}
AheadKeys who (k ∷ ks) = (is_who k.who who ≡ false → is_key_among who ks ≡ true → k.complete ≡ true) × AheadKeys who ks

none_behind : (who : Who) (ks : List Key) → is_key_among who ks ≡ false → AheadKeys who ks
none_behind who [] h = tt
none_behind who (k ∷ ks) h = let p = or_parts (is_who k.who who) (is_key_among who ks) h in ((λ q v. absurd (true≢false (sym v ∙ p.1))), none_behind who ks p.1)

batch_ahead : (k : ℕ) (es : List Entry) → list_all is_complete_batch (ahead (is_batch_entry k) es) ≡ true → Differ (map key_of es) → AheadKeys (OfBatch k) (map key_of es)
batch_ahead k [] h d = tt
batch_ahead k (ActEntry x ∷ es) h d = absurd (true≢false (sym h))
batch_ahead k (BatchEntry b ∷ es) h d = by (b.bid == k) refl h (λ h. batch_ahead k es h d.1)
  where
    by : (v : Bool) → (b.bid == k) ≡ v → list_all is_complete_batch (if v then [] else BatchEntry b ∷ ahead (is_batch_entry k) es) ≡ true → (list_all is_complete_batch (ahead (is_batch_entry k) es) ≡ true → AheadKeys (OfBatch k) (map key_of es))
        → (v ≡ false → is_key_among (OfBatch k) (map key_of es) ≡ true → b.complete ≡ true) × AheadKeys (OfBatch k) (map key_of es)
    by true e h r = ((λ q. absurd (true≢false q)), none_behind (OfBatch k) (map key_of es) (subst (λ z. is_key_among (OfBatch z) (map key_of es) ≡ false) (eqb-true b.bid k e) d.0))
    by false e h r = let p = and_parts b.complete _ h in ((λ q v. p.0), r p.1)

ahead_done : (kept : List Who) (who : Who) (rs : List Ran) → is_kept who kept ≡ false → KeptFront kept rs → AheadKeys who (keys_in rs) → AheadDone who rs
ahead_done kept who [] n f h = tt
ahead_done kept who (Stands y c ss ∷ rs) n f h = ((λ q o. h.0 q (on_key kept who rs n f.1 o)), ahead_done kept who rs n f.1 h.1)
ahead_done kept who (Gone y ss ∷ rs) n f h = ahead_done kept who rs n f.1 h

-- an ACT that ran
act_ahead : {C : Type 0} (rd : ℕ → Bool) (t : ℕ) (xs : List (Waiting C)) (kept : List Who) (rs : List Ran) → is_some (waiting_of t xs) ≡ false → rd t ≡ false → is_kept (OfAct t) kept ≡ false → KeptFront kept rs → InOrder rs → Starts rd xs rs → AheadDone (OfAct t) rs
act_ahead rd t xs kept [] n nr k f o s = tt
act_ahead rd t xs kept (Gone y ss ∷ rs) n nr k f o s = act_ahead rd t xs kept rs n nr k f.1 o s
act_ahead rd t xs kept (Stands (OfBatch j) true ss ∷ rs) n nr k f o s = ((λ q v. refl), act_ahead rd t xs kept rs n nr k f.1 o.1 s)
act_ahead rd t xs kept (Stands (OfBatch j) false ss ∷ rs) n nr k f o s = ((λ q v. absurd (ran_there rd xs t rs n nr (on_key kept (OfAct t) rs k f.1 v) s (o.0 refl))), act_ahead rd t xs kept rs n nr k f.1 o.1 s)
act_ahead rd t xs kept (Stands (OfAct u) true ss ∷ rs) n nr k f o s = ((λ q v. refl), act_ahead rd t xs kept rs n nr k f.1 o.1 s.1)
act_ahead rd t xs kept (Stands (OfAct u) false ss ∷ rs) n nr k f o s = ((λ q v. absurd (ran_there rd xs t rs n nr (on_key kept (OfAct t) rs k f.1 v) s.1 (o.0 refl))), act_ahead rd t xs kept rs n nr k f.1 o.1 s.1)

-- one that stands there incomplete is not done
undone_there : (k : ℕ) (rs : List Ran) → NotComplete (OfBatch k) (keys_in rs) → is_key_among (OfBatch k) (keys_in rs) ≡ true → Ascends (batches_in rs) → is_done k rs ≡ true → ⊥
undone_there k [] u e a d = true≢false (sym d)
undone_there k (Stands y c ss ∷ rs) u e a d = elim (or_cases (c && is_who y (OfBatch k)) (is_done k rs) d) [
  | inl q ↦ let p = and_parts c (is_who y (OfBatch k)) q in true≢false (sym p.0 ∙ u.0 p.1)
  | inr q ↦ elim (or_cases (is_who y (OfBatch k)) (is_key_among (OfBatch k) (keys_in rs)) e) [
    | inl v ↦ omega (arith, marks.at_done (λ j. k < j) k rs q (commits.own_above y k (batches_in rs) v a))
    | inr v ↦ undone_there k rs u.1 v (ascends_back (batch_in y) (batches_in rs) a) q
  ]
]
undone_there k (Gone y ss ∷ rs) u e a d = elim (or_cases (is_who y (OfBatch k)) (is_done k rs) d) [
  | inl q ↦ true≢false (sym e ∙ commits.not_again k rs (commits.own_above y k (batches_in rs) q a))
  | inr q ↦ undone_there k rs u e (ascends_back (batch_in y) (batches_in rs) a) q
]

-- ---- the events

pub differ_at : {C : Type 0} (w : Fixed C) (s : Machine C) (h : History) (a : ℕ) → Tracked w s h → Differ (map key_of (cell_at s a).entries)
unfolding Tracked
differ_at w s h a t = (t a).differ

pub keys_at : {C : Type 0} (w : Fixed C) (s : Machine C) (h : History) (a : ℕ) (who : Who) → Tracked w s h → NotComplete who (map key_of (cell_at s a).entries) → Unmarked who (h.long a)
unfolding Tracked
keys_at w s h a who t n = unmarked who (h.long a) (subst (NotComplete who) (t a).stands n)

clear_found : (t : ℕ) (es : List Entry) → Rattle.protocol.specs.Words.is_clear t es ≡ true → is_some (find (is_entry_of t) es) ≡ true
clear_found t es h = by (find (is_entry_of t) es) h
  where
    by : (o : Option Entry) → holds (λ own. list_all (Rattle.protocol.specs.Words.is_over_for own) (ahead (is_entry_of t) es)) o ≡ true → is_some o ≡ true
    by None h = absurd (true≢false (sym h))
    by (Some e) h = refl

who_act : (t : ℕ) (es : List Entry) → is_act_who (who_on t es) ≡ true → who_on t es ≡ OfAct t
who_act t [] h = refl
who_act t (BatchEntry b ∷ es) h = by (Rattle.protocol.specs.Words.names_slot t b) h (who_act t es)
  where
    by : (v : Bool) → is_act_who (if v then OfBatch b.bid else who_on t es) ≡ true → (is_act_who (who_on t es) ≡ true → who_on t es ≡ OfAct t) → (if v then OfBatch b.bid else who_on t es) ≡ OfAct t
    by true h k = absurd (true≢false (sym h))
    by false h k = k h
who_act t (ActEntry x ∷ es) h = by (x.tid == t) refl h (who_act t es)
  where
    by : (v : Bool) → (x.tid == t) ≡ v → is_act_who (if v then OfAct x.tid else who_on t es) ≡ true → (is_act_who (who_on t es) ≡ true → who_on t es ≡ OfAct t) → (if v then OfAct x.tid else who_on t es) ≡ OfAct t
    by true e h k = ap OfAct (eqb-true x.tid t e)
    by false e h k = k h

-- who has a record has a value, so a result
pub record_result : {C : Type 0} (w : Fixed C) (s : Machine C) (t a : ℕ) → Prepared w s → logged_at (is_prepare t a) s.logs (a % w.text.logs) ≡ true → results.NoActResult t s.book.acts → ⊥
unfolding Prepared
record_result w s t a p q n =
    let x = one_is (λ x. is_value x.result && has_joined a x) (act_of t s.book.acts) (p t a q) in
    true≢false (sym (and_parts (is_value x.0.result) (has_joined a x.0) x.2).0 ∙ ap is_value (n t x.0 x.1 refl))

pub none_arrives : {C : Type 0} (w : Fixed C) (Of : Tx → C → Type 0) (finish : C → List State → Alone) (k a : ℕ) (s : Machine C) (h : History) → IsAllowed w (Arrive k a) s → AllGood w Of finish s h → (j : ℕ) → logged_at (is_complete j a) s.logs (a % w.text.logs) ≡ true → is_who (OfBatch k) (OfBatch j) ≡ false
unfolding conditions Recorded Placed
none_arrives w Of finish k a s h ok g j q = false_from_ne_true (k == j) (λ e. none (subst (λ z. IsAbortedOrDone z s.book.cascades (h.long a)) (sym (eqb-true k j e)) (g.good.recorded j a q)))
  where
    none : IsAbortedOrDone k s.book.cascades (h.long a) → ⊥
    none (inl q) = true≢false (sym q ∙ not-true (is_aborted k s.book.cascades) ok.1.0)
    none (inr q) = let m = message w k a s ok g.good.agreeing in omega (arith, m.behind, (marks.at_done (FitsCell s.ring.next_bid s.book.cascades (cell_at s a).epoch (cell_at s a).tail) k (h.long a) q (g.good.placed a).fit).is_last m.own)

-- a batch that becomes complete did not commit
pub completes_fresh : {C : Type 0} (w : Fixed C) (Of : Tx → C → Type 0) (finish : C → List State → Alone) (k a : ℕ) (s : Machine C) (h : History) → IsAllowed w (Complete k a) s → AllGood w Of finish s h → is_kept (OfBatch k) h.kept ≡ false
unfolding conditions Tracked Placed
completes_fresh w Of finish k a s h ok g = false_from_ne_true (is_kept (OfBatch k) h.kept) (λ q. none q (commits.kept_over s h k a g.good.known g.good.marked q declared))
  where
    u : NotComplete (OfBatch k) (map key_of (cell_at s a).entries) × (is_key_among (OfBatch k) (map key_of (cell_at s a).entries) ≡ true)
    u = batch_unmarked k (cell_at s a).entries (held (λ c. holds (λ e. not (is_complete_batch e)) (find (is_batch_entry k) c.entries)) s.cells a no_cell ok.0) (differ_at w s h a g.good.tracked)

    declared : Rattle.protocol_laws.specs.FromDesk.is_declared k a s.desk.batches ≡ true
    declared = Rattle.protocol_records.proofs.crash.KeptSure.declared_at a k s.desk.batches (map key_of (cell_at s a).entries) u.1 (Rattle.protocol_laws.proofs.machine.ActsOwed.good_keys a s.desk.batches (cell_at s a).entries (g.good.from_desk.entries a))

    none : is_kept (OfBatch k) h.kept ≡ true → IsAbortedOrDone k s.book.cascades (h.long a) → ⊥
    none q (inl v) = true≢false (sym q ∙ commits.cuts_fresh w s h g.good.settling g.good.known g.good.marked (OfBatch k) v)
    none q (inr v) = undone_there k (h.long a) (subst (NotComplete (OfBatch k)) (g.good.tracked a).stands u.0) (subst (λ z. is_key_among (OfBatch k) z ≡ true) (g.good.tracked a).stands u.1) (g.good.placed a).ascends v

-- an ACT whose record is added did not commit
pub prepares_fresh : {C : Type 0} (w : Fixed C) (t a : ℕ) (s : Machine C) (h : History) → IsAllowed w (Prepare t a) s → Acts s h → ActsSure w s → ActsStand s h → is_kept (OfAct t) h.kept ≡ false
unfolding conditions Acts ActsSure ActsStand
prepares_fresh w t a s h ok i su st =
    let x = one_is (λ x. holds (λ p. not p.prepared) (joined_of a x)) (act_of t s.book.acts) ok.1.0 in
    let p = one_is (λ p. not p.prepared) (joined_of a x.0) x.2 in
    false_from_ne_true (is_kept (OfAct t) h.kept) (λ q.
    let v = and_parts (is_ordered x.0.status) (is_value x.0.result && not x.0.reader) (sym (i t x.0 x.1).known ∙ q) in
    let vouched : p.0.vouched ≡ true = Rattle.protocol_records.proofs.crash.KeptSure.list_all_at (λ p. p.actor == a) (λ p. p.vouched) p.0 x.0.places p.1 ((su t x.0 x.1).everywhere v.0 (and_parts (is_value x.0.result) (not x.0.reader) v.1).0) in
    true≢false (sym ((st t x.0 x.1).first a p.0 p.1 vouched) ∙ not-true p.0.prepared p.2))

-- no batch is among the readers that committed
pub no_batch_reads : {C : Type 0} (w : Fixed C) (Of : Tx → C → Type 0) (finish : C → List State → Alone) (s : Machine C) (h : History) (k : ℕ) → AllGood w Of finish s h → is_kept (OfBatch k) h.kept_readers ≡ false
unfolding ReadersOf
no_batch_reads w Of finish s h k g = false_from_ne_true (is_kept (OfBatch k) h.kept_readers) (λ q. no_batch s.book.acts k h.kept_readers g.readers_of q)

-- nor an ACT whose record is added
pub prepares_unread : {C : Type 0} (w : Fixed C) (Of : Tx → C → Type 0) (finish : C → List State → Alone) (t a : ℕ) (s : Machine C) (h : History) → IsAllowed w (Prepare t a) s → AllGood w Of finish s h → ActsSure w s → ActsStand s h → is_kept (OfAct t) h.kept_readers ≡ false
unfolding conditions ActsSure ActsStand ReadersOf
prepares_unread w Of finish t a s h ok g su st =
    let x = one_is (λ x. holds (λ p. not p.prepared) (joined_of a x)) (act_of t s.book.acts) ok.1.0 in
    let p = one_is (λ p. not p.prepared) (joined_of a x.0) x.2 in
    false_from_ne_true (is_kept (OfAct t) h.kept_readers) (λ q.
    let v = and_parts (is_ordered x.0.status) (is_value x.0.result && x.0.reader) (subst (λ o. holds reads_with_value o ≡ true) x.1 (reader_there s.book.acts t h.kept_readers g.readers_of q)) in
    let vouched : p.0.vouched ≡ true = Rattle.protocol_records.proofs.crash.KeptSure.list_all_at (λ p. p.actor == a) (λ p. p.vouched) p.0 x.0.places p.1 ((su t x.0 x.1).everywhere v.0 (and_parts (is_value x.0.result) x.0.reader v.1).0) in
    true≢false (sym ((st t x.0 x.1).first a p.0 p.1 vouched) ∙ not-true p.0.prepared p.2))

marks_of : {C : Type 0} (w : Fixed C) (Of : Tx → C → Type 0) (finish : C → List State → Alone) (t a : ℕ) (s : Machine C) (h : History) → Given w Of finish → IsAllowed w (Run t a) s → AllGood w Of finish s h → (e : Entry) → find (is_entry_of t) (cell_at s a).entries ≡ Some e → complete_mark e ≡ false
unfolding Rattle.protocol_laws.proofs.machine.PlacesKept.Owed
marks_of w Of finish t a s h v ok g = (whole.for_places w Of finish (Run t a) s h v ok (all.owes w Of finish (Run t a) s h v ok g) g.good).0

no_reads : (a : ℕ) (o : Option Act) → is_reader_act o ≡ false → holds (reads_at a) o ≡ false
no_reads a None r = refl
no_reads a (Some x) r = rw r refl

abbrev pub TellsAt : {C : Type 0} → (Who → Bool) → Fixed C → Machine C → ℕ → List Ran → Type 0
TellsAt rd w s a long = AllTells rd (slice_index_or w.text.opening.states a no_state) (told_states a (slice_index_or s.logs (a % w.text.logs) no_log).records) long

any_who : {C : Type 0} (w : Fixed C) (s : Machine C) (a : ℕ) → AllByRecursion (λ o. Unit {0}) (told_states a (slice_index_or s.logs (a % w.text.logs) no_log).records)
any_who w s a = all (told_states a (slice_index_or s.logs (a % w.text.logs) no_log).records)
  where
    all : (os : List One) → AllByRecursion (λ o. Unit {0}) os
    all [] = tt
    all (o ∷ os) = (tt, all os)

-- one long schedule is changed, and no log
moved : {C : Type 0} (rd : Who → Bool) (w : Fixed C) (s : Machine C) (h : History) (a : ℕ) (new : List Ran) → (TellsAt rd w s a (h.long a) → TellsAt rd w s a new) → ((c : ℕ) → TellsAt rd w s c (h.long c)) → (c : ℕ) → TellsAt rd w s c (with_at a new h.long c)
moved rd w s h a new k g = chain.beside_carried (TellsAt rd w s) a new h.long k g

telling_for : {C : Type 0} (w : Fixed C) (Of : Tx → C → Type 0) (finish : C → List State → Alone) (e : Event) (s : Machine C) (h : History) → Given w Of finish → IsAllowed w e s → AllGood w Of finish s h → ActsSure w s → ActsStand s h → Prepared w s → Telling w s h → (a : ℕ) → AllTells (reads_who s.book.acts) (slice_index_or w.text.opening.states a no_state) (told_states a (log_at (after w e s) (a % w.text.logs)).records) ((grown w e s h).long a)
unfolding Telling Tracked Committed Started ReadBy conditions after grown
telling_for w Of finish (Form k) s h v ok g su st pr q = λ c. subst (λ os. AllTells (reads_who s.book.acts) (slice_index_or w.text.opening.states c no_state) os (h.long c)) (sym (told_same c _ s.logs (k % w.text.logs) (c % w.text.logs) refl)) (q c)
telling_for w Of finish (Commit k) s h v ok g su st pr q = λ c. subst (λ os. AllTells (reads_who s.book.acts) (slice_index_or w.text.opening.states c no_state) os (h.long c)) (sym (told_same c _ s.logs (k % w.text.logs) (c % w.text.logs) refl)) (q c)
telling_for w Of finish (Decide t) s h v ok g su st pr q = λ c. subst (λ os. AllTells (reads_who s.book.acts) (slice_index_or w.text.opening.states c no_state) os (h.long c)) (sym (told_same c _ s.logs (t % w.text.logs) (c % w.text.logs) (told_commit c s.book.next_c (act_of t s.book.acts)))) (q c)
telling_for w Of finish (Sync l) s h v ok g su st pr q = λ c. subst (λ rs. AllTells (reads_who s.book.acts) (slice_index_or w.text.opening.states c no_state) (told_states c rs) (h.long c)) (sym (log_synced s.logs l (c % w.text.logs))) (q c)
telling_for w Of finish (Arrive k a) s h v ok g su st pr q = moved (reads_who s.book.acts) w s h a _
    (λ z. lists.all_tells (reads_who s.book.acts) (λ y. is_who (OfBatch k) y ≡ false) _ _ (h.long a) _ (λ y i later n x. lists.more _ y i later (OfBatch k) (h.long a) n x)
    (told_all (λ y. is_who (OfBatch k) y ≡ false) a (slice_index_or s.logs (a % w.text.logs) no_log).records (λ j r. none_arrives w Of finish k a s h ok g j r) (λ j r. refl)) z) q
telling_for w Of finish (Ask t a) s h v ok g su st pr q = moved (reads_who s.book.acts) w s h a _ (by (book.in_the_way (lock_of t s.book.acts) (cell_at s a).entries)) q
  where
    by : (o : Option ℕ) → TellsAt (reads_who s.book.acts) w s a (h.long a) → TellsAt (reads_who s.book.acts) w s a (h.long a ++ map not_run (asks t o))
    by (Some older) z = subst (TellsAt (reads_who s.book.acts) w s a) (sym (append-nil (h.long a))) z
    by None z = lists.all_tells (reads_who s.book.acts) (λ y. is_who (OfAct t) y ≡ false) (slice_index_or w.text.opening.states a no_state) (told_states a (slice_index_or s.logs (a % w.text.logs) no_log).records) (h.long a) (h.long a ++ not_run (OfAct t) ∷ []) (λ y i later n x. lists.more (slice_index_or w.text.opening.states a no_state) y i later (OfAct t) (h.long a) n x)
        (told_all (λ y. is_who (OfAct t) y ≡ false) a (slice_index_or s.logs (a % w.text.logs) no_log).records (λ j r. refl) (λ j r. false_from_ne_true (t == j) (λ e. record_result w s j a pr r (subst (λ u. results.NoActResult u s.book.acts) (eqb-true t j e) (results.posted_none t a s ok.0 g.none))))) z
telling_for w Of finish (Run t a) s h v ok g su st pr q = moved (reads_who s.book.acts) w s h a _
    (λ z0. TrackLists.on_reads (TellsAt (reads_who s.book.acts) w s a) (cell.reads_on t (cell_at s a).entries) _ _ (h.long a) (λ z. lists.all_tells (reads_who s.book.acts) (λ y. is_who (who_on t (cell_at s a).entries) y ≡ true → is_act_who (who_on t (cell_at s a).entries) ≡ false) _ _ (h.long a) _ (λ y i later n x. lists.ran _ y i later (who_on t (cell_at s a).entries) _ (h.long a) n (keys_at w s h a (who_on t (cell_at s a).entries) g.good.tracked un.0) x)
    (told_all (λ y. is_who (who_on t (cell_at s a).entries) y ≡ true → is_act_who (who_on t (cell_at s a).entries) ≡ false) a (slice_index_or s.logs (a % w.text.logs) no_log).records
    (λ j r e. ap is_act_who (TrackLists.is_who_true (who_on t (cell_at s a).entries) (OfBatch j) e))
    (λ j r e. false_from_ne_true (is_act_who (who_on t (cell_at s a).entries)) (λ f. record_result w s j a pr r (subst (λ u. results.NoActResult u s.book.acts) (same t j (who_act t (cell_at s a).entries f) (TrackLists.is_who_true (who_on t (cell_at s a).entries) (OfAct j) e)) (results.waiting_none t a s (held (λ c. is_some (waiting_of t c.inbox)) s.cells a no_cell ok.0) g.none))))) z) z0) q
  where
    un : NotComplete (who_on t (cell_at s a).entries) (map key_of (cell_at s a).entries) × (is_key_among (who_on t (cell_at s a).entries) (map key_of (cell_at s a).entries) ≡ true)
    un = runs_unmarked t (cell_at s a).entries (clear_found t (cell_at s a).entries (held (λ c. Rattle.protocol.specs.Words.is_clear t c.entries) s.cells a no_cell ok.1.0)) (marks_of w Of finish t a s h v ok g) (differ_at w s h a g.good.tracked)

    same : (t j : ℕ) {y : Who} → y ≡ OfAct t → y ≡ OfAct j → t ≡ j
    same t j e f = cc (sym e ∙ f)
telling_for w Of finish (Complete k a) s h v ok g su st pr q = λ c. elim (cases_Bool (c == a)) [
  | inr f ↦ rw f (subst (λ os. AllTells (reads_who s.book.acts) (slice_index_or w.text.opening.states c no_state) os (h.long c)) (sym (told_same c _ s.logs (a % w.text.logs) (c % w.text.logs) (other c f))) (q c))
  | inl f ↦ rw f (own c (eqb-true c a f))
]
  where
    other : (c : ℕ) → (c == a) ≡ false → told_states c (BatchComplete k a (cell_at s a).state ∷ []) ≡ []
    other c f = let i : (a == c) ≡ false = Rattle.std.proofs.lemmas.Bool.ne_eqb a c (λ j. true≢false (sym (eq-eqb c a (sym j)) ∙ f)) in rw i refl

    u : NotComplete (OfBatch k) (map key_of (cell_at s a).entries) × (is_key_among (OfBatch k) (map key_of (cell_at s a).entries) ≡ true)
    u = batch_unmarked k (cell_at s a).entries (held (λ c. holds (λ e. not (is_complete_batch e)) (find (is_batch_entry k) c.entries)) s.cells a no_cell ok.0) (differ_at w s h a g.good.tracked)

    fresh : is_kept (OfBatch k) h.kept ≡ false
    fresh = completes_fresh w Of finish k a s h ok g

    here : AllTells (reads_who s.book.acts) (slice_index_or w.text.opening.states a no_state) (told_states a (slice_index_or (slice_set s.logs (a % w.text.logs) (added (BatchComplete k a (cell_at s a).state ∷ []) (slice_index_or s.logs (a % w.text.logs) no_log))) (a % w.text.logs) no_log).records) (map (completed k) (h.long a))
    here = elim (told_added a (BatchComplete k a (cell_at s a).state ∷ []) s.logs (a % w.text.logs) (a % w.text.logs)) [
      | inl e ↦ subst (λ os. AllTells (reads_who s.book.acts) (slice_index_or w.text.opening.states a no_state) os (map (completed k) (h.long a))) (sym e) (lists.all_tells (reads_who s.book.acts) (λ y. Unit {0}) (slice_index_or w.text.opening.states a no_state) (told_states a (slice_index_or s.logs (a % w.text.logs) no_log).records) (h.long a) (map (completed k) (h.long a)) (λ y i later n x. lists.complete (slice_index_or w.text.opening.states a no_state) y i later k (h.long a) x) (any_who w s a) (q a))
      | inr e ↦ subst (λ os. AllTells (reads_who s.book.acts) (slice_index_or w.text.opening.states a no_state) os (map (completed k) (h.long a))) (sym (e ∙ ap (λ z. told_states a (slice_index_or s.logs (a % w.text.logs) no_log).records ++ z) one))
          (lists.add_told (reads_who s.book.acts) (slice_index_or w.text.opening.states a no_state) (told_states a (slice_index_or s.logs (a % w.text.logs) no_log).records) (record { who = OfBatch k; state = (cell_at s a).state }) (h.long a) (map (completed k) (h.long a))
          (λ y i later x. lists.complete (slice_index_or w.text.opening.states a no_state) y i (later ++ record { who = OfBatch k; state = (cell_at s a).state } ∷ []) k (h.long a) (lists.later (slice_index_or w.text.opening.states a no_state) y i later (OfBatch k) (cell_at s a).state h.kept (h.long a) (keys_at w s h a (OfBatch k) g.good.tracked u.0) fresh (g.good.committed a).front x))
          (λ nr. lists.told_batch k (slice_index_or w.text.opening.states a no_state) (cell_at s a).state h.kept (h.long a) (g.good.tracked a).links (g.good.tracked a).in_order (keys_at w s h a (OfBatch k) g.good.tracked u.0)
          (ahead_done h.kept (OfBatch k) (h.long a) fresh (g.good.committed a).front (subst (AheadKeys (OfBatch k)) (g.good.tracked a).stands (batch_ahead k (cell_at s a).entries (held (λ c. list_all is_complete_batch (ahead (is_batch_entry k) c.entries)) s.cells a no_cell ok.1.0) (differ_at w s h a g.good.tracked)))) fresh (g.good.committed a).front)
          (q a))
    ]
      where
        one : told_states a (BatchComplete k a (cell_at s a).state ∷ []) ≡ record { who = OfBatch k; state = (cell_at s a).state } ∷ []
        one = rw (eq-eqb a a refl) refl

    own : (c : ℕ) → c ≡ a → AllTells (reads_who s.book.acts) (slice_index_or w.text.opening.states c no_state) (told_states c (slice_index_or (slice_set s.logs (a % w.text.logs) (added (BatchComplete k a (cell_at s a).state ∷ []) (slice_index_or s.logs (a % w.text.logs) no_log))) (c % w.text.logs) no_log).records) (map (completed k) (h.long a))
    own c e = subst (λ z. AllTells (reads_who s.book.acts) (slice_index_or w.text.opening.states z no_state) (told_states z (slice_index_or (slice_set s.logs (a % w.text.logs) (added (BatchComplete k a (cell_at s a).state ∷ []) (slice_index_or s.logs (a % w.text.logs) no_log))) (z % w.text.logs) no_log).records) (map (completed k) (h.long a))) (sym e) here
telling_for {C} w Of finish (Prepare t a) s h v ok g su st pr q = λ c. elim (cases_Bool (c == a)) [
  | inr f ↦ subst (λ os. AllTells (reads_who s.book.acts) (slice_index_or w.text.opening.states c no_state) os (h.long c)) (sym (told_same c _ s.logs (a % w.text.logs) (c % w.text.logs) (other c f))) (q c)
  | inl f ↦ own c (eqb-true c a f)
]
  where
    other : (c : ℕ) → (c == a) ≡ false → told_states c (ActPrepare t a (cell_at s a).state ∷ []) ≡ []
    other c f = let i : (a == c) ≡ false = Rattle.std.proofs.lemmas.Bool.ne_eqb a c (λ j. true≢false (sym (eq-eqb c a (sym j)) ∙ f)) in rw i refl

    fresh : is_kept (OfAct t) h.kept ≡ false
    fresh = prepares_fresh w t a s h ok g.acts su st

    u : Unmarked (OfAct t) (h.long a)
    u = keys_at w s h a (OfAct t) g.good.tracked (TrackLists.acts_not_complete t (cell_at s a).entries)

    away : is_some (waiting_of t (cell_at s a).inbox) ≡ false
    away =
        let x = one_is (λ x. is_value x.result && not (is_doomed x.status)) (act_of t s.book.acts) ok.0 in
        false_from_ne_true (is_some (waiting_of t (cell_at s a).inbox)) (λ i. true≢false (sym (and_parts (is_value x.0.result) (not (is_doomed x.0.status)) x.2).0 ∙ ap is_value (results.waiting_none t a s i g.none t x.0 x.1 refl)))

    here : AllTells (reads_who s.book.acts) (slice_index_or w.text.opening.states a no_state) (told_states a (slice_index_or (slice_set s.logs (a % w.text.logs) (added (ActPrepare t a (cell_at s a).state ∷ []) (slice_index_or s.logs (a % w.text.logs) no_log))) (a % w.text.logs) no_log).records) (h.long a)
    here = elim (told_added a (ActPrepare t a (cell_at s a).state ∷ []) s.logs (a % w.text.logs) (a % w.text.logs)) [
      | inl e ↦ subst (λ os. AllTells (reads_who s.book.acts) (slice_index_or w.text.opening.states a no_state) os (h.long a)) (sym e) (q a)
      | inr e ↦ subst (λ os. AllTells (reads_who s.book.acts) (slice_index_or w.text.opening.states a no_state) os (h.long a)) (sym (e ∙ ap (λ z. told_states a (slice_index_or s.logs (a % w.text.logs) no_log).records ++ z) one))
          (lists.add_told (reads_who s.book.acts) (slice_index_or w.text.opening.states a no_state) (told_states a (slice_index_or s.logs (a % w.text.logs) no_log).records) (record { who = OfAct t; state = (cell_at s a).state }) (h.long a) (h.long a)
          (λ y i later x. lists.later (slice_index_or w.text.opening.states a no_state) y i later (OfAct t) (cell_at s a).state h.kept (h.long a) u fresh (g.good.committed a).front x)
          (λ nr. lists.told_act t (slice_index_or w.text.opening.states a no_state) (cell_at s a).state h.kept (h.long a) (g.good.tracked a).links (g.good.tracked a).in_order u
          (act_ahead (has_read (h.reads a)) t (cell_at s a).inbox h.kept (h.long a) away (not_read a t s.book.acts (h.reads a) (no_reads a (act_of t s.book.acts) nr) (g.read_by a)) fresh (g.good.committed a).front (g.good.tracked a).in_order (g.started a)) fresh (g.good.committed a).front)
          (q a))
    ]
      where
        one : told_states a (ActPrepare t a (cell_at s a).state ∷ []) ≡ record { who = OfAct t; state = (cell_at s a).state } ∷ []
        one = rw (eq-eqb a a refl) refl

    own : (c : ℕ) → c ≡ a → AllTells (reads_who s.book.acts) (slice_index_or w.text.opening.states c no_state) (told_states c (slice_index_or (slice_set s.logs (a % w.text.logs) (added (ActPrepare t a (cell_at s a).state ∷ []) (slice_index_or s.logs (a % w.text.logs) no_log))) (c % w.text.logs) no_log).records) (h.long c)
    own c e = subst (λ z. AllTells (reads_who s.book.acts) (slice_index_or w.text.opening.states z no_state) (told_states z (slice_index_or (slice_set s.logs (a % w.text.logs) (added (ActPrepare t a (cell_at s a).state ∷ []) (slice_index_or s.logs (a % w.text.logs) no_log))) (z % w.text.logs) no_log).records) (h.long z)) (sym e) here
telling_for w Of finish (Rollback a) s h v ok g su st pr q = moved (reads_who s.book.acts) w s h a _ (λ z. lists.all_tells (reads_who s.book.acts) (λ y. Unit {0}) _ _ (h.long a) _ (λ y i later n x. lists.roll_back _ y i later s.book.cascades (h.long a) x) (any_who w s a) z) q
telling_for w Of finish (Finish t a) s h v ok g su st pr q = moved (reads_who s.book.acts) w s h a _ (by (is_traceless (act_of t s.book.acts)) fresh) q
  where
    fresh : is_kept (OfAct t) h.kept ≡ not (is_traceless (act_of t s.book.acts))
    fresh = Rattle.protocol_laws.proofs.machine.ActsOwed.finish_kept w t a s h ok g.acts

    by : (b : Bool) → is_kept (OfAct t) h.kept ≡ not b → TellsAt (reads_who s.book.acts) w s a (h.long a) → TellsAt (reads_who s.book.acts) w s a (if b then without_standing (OfAct t) (h.long a) else map (left_for_good (OfAct t)) (h.long a))
    by true n z = lists.all_tells (reads_who s.book.acts) (λ y. Unit {0}) (slice_index_or w.text.opening.states a no_state) (told_states a (slice_index_or s.logs (a % w.text.logs) no_log).records) (h.long a) (without_standing (OfAct t) (h.long a)) (λ y i later m x. lists.undo (slice_index_or w.text.opening.states a no_state) y i later (OfAct t) h.kept (h.long a) (keys_at w s h a (OfAct t) g.good.tracked (TrackLists.acts_not_complete t (cell_at s a).entries)) n (g.good.committed a).front x) (any_who w s a) z
    by false n z = lists.all_tells (reads_who s.book.acts) (λ y. Unit {0}) (slice_index_or w.text.opening.states a no_state) (told_states a (slice_index_or s.logs (a % w.text.logs) no_log).records) (h.long a) (map (left_for_good (OfAct t)) (h.long a)) (λ y i later m x. lists.leave (slice_index_or w.text.opening.states a no_state) y i later (OfAct t) (h.long a) x) (any_who w s a) z
telling_for w Of finish (Trim k a) s h v ok g su st pr q = moved (reads_who s.book.acts) w s h a _ (λ z. lists.all_tells (reads_who s.book.acts) (λ y. Unit {0}) _ _ (h.long a) _ (λ y i later m x. lists.leave _ y i later (OfBatch k) (h.long a) x) (any_who w s a) z) q
telling_for w Of finish e s h v ok g su st pr q = q

-- the book's readers stay so
pub telling_kept : {C : Type 0} (w : Fixed C) (Of : Tx → C → Type 0) (finish : C → List State → Alone) (e : Event) (s : Machine C) (h : History) → Given w Of finish → IsAllowed w e s → AllGood w Of finish s h → ActsSure w s → ActsStand s h → Prepared w s → Telling w s h → Telling w (after w e s) (grown w e s h)
unfolding Telling
telling_kept w Of finish e s h v ok g su st pr q = λ a. lists.fewer_tell (reads_who s.book.acts) (reads_who (after w e s).book.acts) (slice_index_or w.text.opening.states a no_state) (told_states a (log_at (after w e s) (a % w.text.logs)).records) ((grown w e s h).long a) stays (telling_for w Of finish e s h v ok g su st pr q a)
  where
    stays : (y : Who) → reads_who s.book.acts y ≡ true → reads_who (after w e s).book.acts y ≡ true
    stays (OfBatch k) q = q
    stays (OfAct t) q = grown_holds (λ x. x.reader) s.book.acts (after w e s).book.acts t (λ x y k q. k.reader ∙ q) (acts_grow w e s) q
