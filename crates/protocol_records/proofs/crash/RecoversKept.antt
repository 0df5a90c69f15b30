-- What records recover, event by event.
use Rattle.std.specs.Prelude.{◌≡◌, refl, ℕ, ◌%◌, ◌==◌, not, Bool, true, false, ◌&&◌, ◌||◌, ◌⊎◌, if◌then◌else◌, Option, Some, None, is_some, List, [], ◌∷◌, ◌++◌, map, filter, slice_index_or, slice_set}
use Rattle.std.specs.List.{AllByRecursion, list_any, list_all}
use Rattle.std.proofs.Common.{sym, ap, subst, inl, inr, ◌∙◌}
use Rattle.std.proofs.lemmas.List.{append-nil}
use Rattle.std.proofs.lemmas.Bool.{true≢false, or_cases, or_left, or_right, or_from, and_parts, eqb-true, eq-eqb, not-true, and_from}
use Rattle.snap_base.specs.declared.transactions.Tx.{Tx}
use Rattle.snap_base.specs.declared.transactions.State.{State}
use Rattle.protocol.specs.Facts.{Alone}
use Rattle.protocol.specs.Fixed.{Fixed, no_state}
use Rattle.protocol.specs.Records.{LogRecord, BatchComplete, ActPrepare, is_complete, is_prepare}
use Rattle.protocol.specs.Parts.{Act, Joined, Pact, Who, OfBatch, OfAct, Log, Machine}
use Rattle.protocol.specs.Events.{Event, Form, Complete, Sync, Commit, Prepare, Decide}
use Rattle.protocol.specs.Words.{is_who, is_value, is_failure, is_doomed, act_of, batch_of, declared_of, is_ordered}
use Rattle.protocol.specs.Conditions.{IsAllowed, conditions}
use Rattle.protocol.specs.Effects.{after, cell_at, log_at, no_log, added}
use Rattle.protocol.specs.History.{Done, History, Ran, grown, view_in, done_pact, done_act, done_batch, kept_act, slices_for, is_reader_act}
use Rattle.protocol_laws.specs.Tracks.{keys_in, Differ, Linked}
use Rattle.protocol_laws.specs.Commits.{is_kept, StatesLink, last_state, kept_slices, reads_who}
use Rattle.protocol_laws.specs.Marks.{is_done, Recorded, Marked}
use Rattle.protocol_records.specs.Logged.{durable_at, logged_at, is_on, has_joined, BatchesSure, ActsSure, ActsStand, OnJoined, Prepared, IsThere, AllThere}
use Rattle.protocol_records.specs.Telling.{One, told_states, names, Telling, FrontIn, last_one, writes, RecoversAt, RecoversEachActor}
use Rattle.protocol_laws.proofs.machine.TrackLists
use Rattle.protocol_laws.proofs.machine.TracksKept.{Tracked}
use Rattle.protocol_laws.proofs.machine.TurnsKept.{one_is}
use Rattle.protocol_laws.proofs.machine.CommitsKept.{Committed}
use Rattle.protocol_laws.proofs.machine.CommitsKept as chain
use Rattle.protocol_laws.proofs.machine.BatchesCommit as commits
use Rattle.protocol_laws.proofs.machine.ActsKept.{Acts}
use Rattle.protocol_laws.proofs.machine.Good as whole
use Rattle.protocol_laws.proofs.machine.Good.{Given}
use Rattle.protocol_laws.proofs.machine.AllGood.{AllGood}
use Rattle.protocol_laws.proofs.machine.AllGood as all
use Rattle.protocol_records.proofs.crash.OnLong.{on_stays, on_key}
use Rattle.protocol_records.proofs.crash.KeptSure.{declared_at, list_all_at, at_commit, at_decide}
use Rattle.protocol_laws.proofs.machine.ActsOwed.{good_keys}
use Rattle.protocol_records.proofs.crash.DonesSure.{view_on, own_batch, own_act}
use Rattle.protocol_records.proofs.crash.TellsKept.{told_same, told_added, told_commit, told_all, completes_fresh, prepares_fresh, prepares_unread, no_batch_reads}
use Rattle.protocol_records.proofs.crash.RecoverLists.{Commits1, recovers_commit, kept_end}
use Rattle.protocol_laws.proofs.first.Lists.{all_found, any_take, filter_join, weaker}
use Rattle.protocol_laws.proofs.first.Statuses.{live_not_doomed}
use Rattle.protocol_laws.proofs.machine.MarksKept.{log_synced}
use Rattle.protocol_theorems.specs.Order.{LeavesIt}
use Rattle.protocol_theorems.proofs.order.LastLaw.{Whole}
use Rattle.protocol_theorems.proofs.order.LastLaw as last

-- ---- nothing commits

front_same : (P on on' : Who → Bool) (kept : List Who) (ys : List Who) → ((y : Who) → is_kept y kept ≡ true → on' y ≡ on y) → ((y : Who) → is_kept y ys ≡ true → is_kept y kept ≡ true) → FrontIn P on' ys → FrontIn P on ys
front_same P on on' kept [] k i h = tt
front_same P on on' kept (y ∷ ys) k i h =
    let j : (z : Who) → is_kept z ys ≡ true → is_kept z kept ≡ true = λ z g. i z (or_right (is_who y z) _ g) in
    ((λ e q. h.0 (k y (i y (or_left (is_who y y) _ (TrackLists.is_who_refl y))) ∙ e) (any ys j q)), front_same P on on' kept ys k j h.1)
  where
    any : (zs : List Who) → ((z : Who) → is_kept z zs ≡ true → is_kept z kept ≡ true) → list_any (λ z. on z && P z) zs ≡ true → list_any (λ z. on' z && P z) zs ≡ true
    any [] j q = q
    any (z ∷ zs) j q = elim (or_cases (on z && P z) _ q) [
      | inl v ↦ let u = and_parts (on z) (P z) v in or_left (on' z && P z) _ (and_from (on' z) (P z) (k z (j z (or_left (is_who z z) _ (TrackLists.is_who_refl z))) ∙ u.0) u.1)
      | inr v ↦ or_right (on' z && P z) _ (any zs (λ x g. j x (or_right (is_who z x) _ g)) v)
    ]

-- what is told stays, or one more is told that did not commit
abbrev pub ToldStep : List Who → List Who → List One → List One → Type 0
ToldStep kept readers os os' = (os' ≡ os) ⊎ ((n : One) × (os' ≡ os ++ n ∷ []) × (is_kept n.who kept ≡ false) × (is_kept n.who readers ≡ false))

still : (a : ℕ) (first : State) (kept readers : List Who) (committed : List Done) (long long' : List Ran) (os os' : List One) → ((y : Who) → is_kept y kept ≡ true → is_on y long' ≡ is_on y long) → ToldStep kept readers os os' → RecoversAt a first kept committed long os → RecoversAt a first kept committed long' os'
still a first kept readers committed long long' os os' k t r P f = same t ∙ r P (front_same P (λ y. is_on y long) (λ y. is_on y long') kept kept k (λ y e. e) f)
  where
    same : ToldStep kept readers os os' → last_one first (filter (λ o. P o.who && is_kept o.who kept) os') ≡ last_one first (filter (λ o. P o.who && is_kept o.who kept) os)
    same (inl e) = ap (λ z. last_one first (filter (λ o. P o.who && is_kept o.who kept) z)) e
    same (inr n) = ap (λ z. last_one first (filter (λ o. P o.who && is_kept o.who kept) z)) n.1
        ∙ (ap (last_one first) (filter_join (λ o. P o.who && is_kept o.who kept) os (n.0 ∷ []))
        ∙ ap (last_one first) (ap (λ z. filter (λ o. P o.who && is_kept o.who kept) os ++ z) (none (P n.0.who) n.2) ∙ append-nil (filter (λ o. P o.who && is_kept o.who kept) os)))
      where
        none : (b : Bool) → is_kept n.0.who kept ≡ false → (if b && is_kept n.0.who kept then n.0 ∷ [] else []) ≡ []
        none true e = rw e refl
        none false e = refl

pub told_step : {C : Type 0} (w : Fixed C) (Of : Tx → C → Type 0) (finish : C → List State → Alone) (e : Event) (s : Machine C) (h : History) (c : ℕ) → IsAllowed w e s → AllGood w Of finish s h → ActsSure w s → ActsStand s h → ToldStep h.kept h.kept_readers (told_states c (log_at s (c % w.text.logs)).records) (told_states c (log_at (after w e s) (c % w.text.logs)).records)
unfolding after
told_step w Of finish (Form k) s h c ok g su st = inl (told_same c _ s.logs (k % w.text.logs) (c % w.text.logs) refl)
told_step w Of finish (Commit k) s h c ok g su st = inl (told_same c _ s.logs (k % w.text.logs) (c % w.text.logs) refl)
told_step w Of finish (Decide t) s h c ok g su st = inl (told_same c _ s.logs (t % w.text.logs) (c % w.text.logs) (told_commit c s.book.next_c (act_of t s.book.acts)))
told_step w Of finish (Sync l) s h c ok g su st = inl (ap (told_states c) (log_synced s.logs l (c % w.text.logs)))
told_step w Of finish (Complete k a) s h c ok g su st = elim (told_added c (BatchComplete k a (cell_at s a).state ∷ []) s.logs (a % w.text.logs) (c % w.text.logs)) [ inl q ↦ inl q | inr q ↦ by (a == c) q ]
  where
    by : (v : Bool) → told_states c (slice_index_or (slice_set s.logs (a % w.text.logs) (added (BatchComplete k a (cell_at s a).state ∷ []) (slice_index_or s.logs (a % w.text.logs) no_log))) (c % w.text.logs) no_log).records ≡ told_states c (slice_index_or s.logs (c % w.text.logs) no_log).records ++ (if v then record { who = OfBatch k; state = (cell_at s a).state } ∷ [] else [])
        → ToldStep h.kept h.kept_readers (told_states c (slice_index_or s.logs (c % w.text.logs) no_log).records) (told_states c (slice_index_or (slice_set s.logs (a % w.text.logs) (added (BatchComplete k a (cell_at s a).state ∷ []) (slice_index_or s.logs (a % w.text.logs) no_log))) (c % w.text.logs) no_log).records)
    by true q = inr (record { who = OfBatch k; state = (cell_at s a).state }, q, completes_fresh w Of finish k a s h ok g, no_batch_reads w Of finish s h k g)
    by false q = inl (q ∙ append-nil (told_states c (slice_index_or s.logs (c % w.text.logs) no_log).records))
told_step w Of finish (Prepare t a) s h c ok g su st = elim (told_added c (ActPrepare t a (cell_at s a).state ∷ []) s.logs (a % w.text.logs) (c % w.text.logs)) [ inl q ↦ inl q | inr q ↦ by (a == c) q ]
  where
    by : (v : Bool) → told_states c (slice_index_or (slice_set s.logs (a % w.text.logs) (added (ActPrepare t a (cell_at s a).state ∷ []) (slice_index_or s.logs (a % w.text.logs) no_log))) (c % w.text.logs) no_log).records ≡ told_states c (slice_index_or s.logs (c % w.text.logs) no_log).records ++ (if v then record { who = OfAct t; state = (cell_at s a).state } ∷ [] else [])
        → ToldStep h.kept h.kept_readers (told_states c (slice_index_or s.logs (c % w.text.logs) no_log).records) (told_states c (slice_index_or (slice_set s.logs (a % w.text.logs) (added (ActPrepare t a (cell_at s a).state ∷ []) (slice_index_or s.logs (a % w.text.logs) no_log))) (c % w.text.logs) no_log).records)
    by true q = inr (record { who = OfAct t; state = (cell_at s a).state }, q, prepares_fresh w t a s h ok g.acts su st, prepares_unread w Of finish t a s h ok g su st)
    by false q = inl (q ∙ append-nil (told_states c (slice_index_or s.logs (c % w.text.logs) no_log).records))
told_step w Of finish e s h c ok g su st = inl refl

-- ---- who has a record

-- a batch with a record is on the actor, or aborted
pub done_on : (k : ℕ) (rs : List Ran) → is_done k rs ≡ true → is_on (OfBatch k) rs ≡ true
done_on k [] h = h
done_on k (Rattle.protocol.specs.History.Stands y c ss ∷ rs) h = elim (or_cases (c && is_who y (OfBatch k)) (is_done k rs) h) [ inl q ↦ or_left (is_who y (OfBatch k)) _ (and_parts c (is_who y (OfBatch k)) q).1 | inr q ↦ or_right (is_who y (OfBatch k)) _ (done_on k rs q) ]
done_on k (Rattle.protocol.specs.History.Gone y ss ∷ rs) h = elim (or_cases (is_who y (OfBatch k)) (is_done k rs) h) [ inl q ↦ or_left (is_who y (OfBatch k)) _ q | inr q ↦ or_right (is_who y (OfBatch k)) _ (done_on k rs q) ]

place_on : (t a : ℕ) (long : ℕ → List Ran) (ps : List Joined) → list_any (λ p. p.actor == a) ps ≡ true → AllByRecursion (λ p. is_on (OfAct t) (long p.actor) ≡ true) ps → is_on (OfAct t) (long a) ≡ true
place_on t a long [] e h = absurd (true≢false (sym e))
place_on t a long (p ∷ ps) e h = elim (or_cases (p.actor == a) _ e) [ inl q ↦ subst (λ z. is_on (OfAct t) (long z) ≡ true) (eqb-true p.actor a q) h.0 | inr q ↦ place_on t a long ps q h.1 ]

value_fails : (r : Option Rattle.snap_base.specs.declared.transactions.TxResult.TxResult) → is_value r ≡ true → is_failure r ≡ false
value_fails None e = refl
value_fails (Some (Rattle.snap_base.specs.declared.transactions.TxResult.TheVariants.Value v)) e = refl
value_fails (Some (Rattle.snap_base.specs.declared.transactions.TxResult.TheVariants.Fail v)) e = absurd (true≢false (sym e))

placed_sound : (st : Rattle.protocol.specs.Parts.Status) → is_ordered st ≡ true → is_doomed st ≡ false
placed_sound Rattle.protocol.specs.Parts.Live e = refl
placed_sound (Rattle.protocol.specs.Parts.Doomed v) e = absurd (true≢false (sym e))
placed_sound (Rattle.protocol.specs.Parts.Decided c) e = refl
placed_sound (Rattle.protocol.specs.Parts.Sealed c) e = refl

-- one that committed, and does not only read
kept_act_sound : (x : Act) → (is_ordered x.status && (is_value x.result && not x.reader)) ≡ true → (is_doomed x.status ≡ false) × (x.reader ≡ false)
kept_act_sound x e =
    let p = and_parts (is_ordered x.status) (is_value x.result && not x.reader) e in
    (placed_sound x.status p.0, not-true x.reader (and_parts (is_value x.result) (not x.reader) p.1).1)

pub act_record_on : {C : Type 0} (w : Fixed C) (s : Machine C) (h : History) (t a : ℕ) → ActsStand s h → Prepared w s → logged_at (is_prepare t a) s.logs (a % w.text.logs) ≡ true → ((x : Act) → act_of t s.book.acts ≡ Some x → (is_doomed x.status ≡ false) × (x.reader ≡ false)) → is_on (OfAct t) (h.long a) ≡ true
unfolding ActsStand Prepared
act_record_on w s h t a st pr q d =
    let x = one_is (λ x. is_value x.result && has_joined a x) (act_of t s.book.acts) (pr t a q) in
    let v = and_parts (is_value x.0.result) (has_joined a x.0) x.2 in
    let e = d x.0 x.1 in
    place_on t a h.long x.0.places v.1 ((st t x.0 x.1).on e.0 (or_from (is_failure x.0.result) x.0.reader (value_fails x.0.result v.0) e.1))

-- who has a record is named
pub named_batch : (k a : ℕ) (rs : List LogRecord) → list_any (is_complete k a) rs ≡ true → names (OfBatch k) (told_states a rs) ≡ true
named_batch k a [] h = h
named_batch k a (Rattle.protocol.specs.Records.BatchInfo j actors tids ∷ rs) h = named_batch k a rs h
named_batch k a (BatchComplete j b st ∷ rs) h = by (b == a) refl (or_cases ((j == k) && (b == a)) _ h) (named_batch k a rs)
  where
    by : (v : Bool) → (b == a) ≡ v → (((j == k) && (b == a)) ≡ true) ⊎ (list_any (is_complete k a) rs ≡ true) → (list_any (is_complete k a) rs ≡ true → names (OfBatch k) (told_states a rs) ≡ true) → names (OfBatch k) (if v then record { who = OfBatch j; state = st } ∷ told_states a rs else told_states a rs) ≡ true
    by true e (inl q) r = or_left (k == j) _ (eq-eqb k j (sym (eqb-true j k (and_parts (j == k) (b == a) q).0)))
    by true e (inr q) r = or_right (k == j) _ (r q)
    by false e (inl q) r = absurd (true≢false (sym (and_parts (j == k) (b == a) q).1 ∙ e))
    by false e (inr q) r = r q
named_batch k a (Rattle.protocol.specs.Records.BatchDone j vs ∷ rs) h = named_batch k a rs h
named_batch k a (ActPrepare t b st ∷ rs) h = by (b == a) (named_batch k a rs h)
  where
    by : (v : Bool) → names (OfBatch k) (told_states a rs) ≡ true → names (OfBatch k) (if v then record { who = OfAct t; state = st } ∷ told_states a rs else told_states a rs) ≡ true
    by true r = r
    by false r = r
named_batch k a (Rattle.protocol.specs.Records.ActDone t m c v actors ∷ rs) h = named_batch k a rs h

pub named_act : (t a : ℕ) (rs : List LogRecord) → list_any (is_prepare t a) rs ≡ true → names (OfAct t) (told_states a rs) ≡ true
named_act t a [] h = h
named_act t a (Rattle.protocol.specs.Records.BatchInfo j actors tids ∷ rs) h = named_act t a rs h
named_act t a (BatchComplete k b st ∷ rs) h = by (b == a) (named_act t a rs h)
  where
    by : (v : Bool) → names (OfAct t) (told_states a rs) ≡ true → names (OfAct t) (if v then record { who = OfBatch k; state = st } ∷ told_states a rs else told_states a rs) ≡ true
    by true r = r
    by false r = r
named_act t a (Rattle.protocol.specs.Records.BatchDone j vs ∷ rs) h = named_act t a rs h
named_act t a (ActPrepare j b st ∷ rs) h = by (b == a) refl (or_cases ((j == t) && (b == a)) _ h) (named_act t a rs)
  where
    by : (v : Bool) → (b == a) ≡ v → (((j == t) && (b == a)) ≡ true) ⊎ (list_any (is_prepare t a) rs ≡ true) → (list_any (is_prepare t a) rs ≡ true → names (OfAct t) (told_states a rs) ≡ true) → names (OfAct t) (if v then record { who = OfAct j; state = st } ∷ told_states a rs else told_states a rs) ≡ true
    by true e (inl q) r = or_left (t == j) _ (eq-eqb t j (sym (eqb-true j t (and_parts (j == t) (b == a) q).0)))
    by true e (inr q) r = or_right (t == j) _ (r q)
    by false e (inl q) r = absurd (true≢false (sym (and_parts (j == t) (b == a) q).1 ∙ e))
    by false e (inr q) r = r q
named_act t a (Rattle.protocol.specs.Records.ActDone j m c v actors ∷ rs) h = named_act t a rs h

-- ---- a batch or an ACT commits

pub there_at : (kept : List Who) (long : ℕ → List Ran) (a : ℕ) (ds : List Done) → AllByRecursion (IsThere kept long) ds → AllByRecursion (λ d. is_some (d.views a) ≡ true → writes d ≡ true → (is_kept d.who kept ≡ true) × (is_on d.who (long a) ≡ true)) ds
there_at kept long a ds h = weaker (IsThere kept long) (λ d. is_some (d.views a) ≡ true → writes d ≡ true → (is_kept d.who kept ≡ true) × (is_on d.who (long a) ≡ true)) ds (λ d p v u. let q = and_parts (is_value d.result) (not d.reader) u in let r = not-true d.reader q.1 in (p.known q.0 r, p.there a v q.0 r)) h

came_batch : (k a : ℕ) (h : History) (ps : List Pact) → AllByRecursion (λ d. is_some (d.views a) ≡ true → is_on (OfBatch k) (h.long a) ≡ true) (map (done_pact k h) ps)
came_batch k a h [] = tt
came_batch k a h (p ∷ ps) = ((λ v. view_on p.tid (OfBatch k) (h.long a) v), came_batch k a h ps)

-- the record of each actor of a batch that commits
batch_record : {C : Type 0} (w : Fixed C) (Of : Tx → C → Type 0) (finish : C → List State → Alone) (k a : ℕ) (s : Machine C) (h : History) → IsAllowed w (Commit k) s → AllGood w Of finish s h → BatchesSure w s → is_on (OfBatch k) (h.long a) ≡ true → names (OfBatch k) (told_states a (log_at s (a % w.text.logs)).records) ≡ true
unfolding BatchesSure Tracked Marked Committed
batch_record w Of finish k a s h ok g b on =
    let c = at_commit w k s ok g.good.settling in
    let fresh : is_kept (OfBatch k) h.kept ≡ false = (g.good.marked k c.batch c.found).known ∙ ap not c.formed in
    let good = subst (AllByRecursion (commits.GoodKey a s.desk.batches)) (g.good.tracked a).stands (good_keys a s.desk.batches (cell_at s a).entries (g.good.from_desk.entries a)) in
    let d = declared_at a k s.desk.batches (keys_in (h.long a)) (on_key h.kept (OfBatch k) (h.long a) fresh (g.good.committed a).front on) good in
    let p = one_is (λ x. true) (declared_of a c.batch) (Rattle.protocol_records.proofs.crash.KeptSure.there_is (declared_of a c.batch) (Rattle.protocol_laws.proofs.first.Lists.some_of (λ b. is_some (declared_of a b)) (batch_of k s.desk.batches) c.batch c.found d)) in
    let n = all_found (λ p. p.noted ≡ true → durable_at (is_complete k p.actor) s.logs (p.actor % w.text.logs) ≡ true) (λ p. p.actor == a) c.batch.places p.0 (b k c.batch c.found).noted p.1 in
    let q = subst (λ z. durable_at (is_complete k z) s.logs (z % w.text.logs) ≡ true) (eqb-true p.0.actor a n.1) (n.0 (list_all_at (λ p. p.actor == a) (λ p. p.noted) p.0 c.batch.places p.1 c.noted)) in
    named_batch k a (log_at s (a % w.text.logs)).records (any_take (is_complete k a) (log_at s (a % w.text.logs)).synced (log_at s (a % w.text.logs)).records q)

all_places : (many : ℕ) (logs : List Log) (t a : ℕ) (ps : List Joined) → list_any (λ p. p.actor == a) ps ≡ true → list_all (λ p. p.vouched) ps ≡ true → AllByRecursion (λ p. p.vouched ≡ true → durable_at (is_prepare t p.actor) logs (p.actor % many) ≡ true) ps → durable_at (is_prepare t a) logs (a % many) ≡ true
all_places many logs t a [] e v h = absurd (true≢false (sym e))
all_places many logs t a (p ∷ ps) e v h = let u = and_parts p.vouched (list_all (λ p. p.vouched) ps) v in elim (or_cases (p.actor == a) _ e) [
  | inl q ↦ subst (λ z. durable_at (is_prepare t z) logs (z % many) ≡ true) (eqb-true p.actor a q) (h.0 u.0)
  | inr q ↦ all_places many logs t a ps q u.1 h.1
]

act_record : {C : Type 0} (w : Fixed C) (t a : ℕ) (s : Machine C) (h : History) (x : Act) → IsAllowed w (Decide t) s → act_of t s.book.acts ≡ Some x → is_value x.result ≡ true → ActsSure w s → OnJoined s h → is_on (OfAct t) (h.long a) ≡ true → names (OfAct t) (told_states a (log_at s (a % w.text.logs)).records) ≡ true
unfolding conditions ActsSure OnJoined
act_record w t a s h x ok e v su j on =
    let place = Rattle.protocol_laws.proofs.first.Lists.some_of (has_joined a) (act_of t s.book.acts) x e (j t a on) in
    let vouched : list_all (λ p. p.vouched) x.places ≡ true = elim (or_cases (is_failure x.result) (Rattle.protocol.specs.Words.is_vouched_everywhere x) (Rattle.protocol_laws.proofs.first.Lists.some_of (λ x. is_failure x.result || Rattle.protocol.specs.Words.is_vouched_everywhere x) (act_of t s.book.acts) x e ok.1.0)) [ inl f ↦ absurd (true≢false (sym f ∙ value_fails x.result v)) | inr f ↦ f ] in
    named_act t a (log_at s (a % w.text.logs)).records (any_take (is_prepare t a) (log_at s (a % w.text.logs)).synced (log_at s (a % w.text.logs)).records (all_places w.text.logs s.logs t a x.places place vouched (su t x e).vouched))

differs_at : {C : Type 0} (w : Fixed C) (s : Machine C) (h : History) (a : ℕ) → Tracked w s h → Differ (keys_in (h.long a))
unfolding Tracked
differs_at w s h a t = subst Differ (t a).stands (t a).differ

abbrev pub first_of : {C : Type 0} → Fixed C → ℕ → State
first_of w a = slice_index_or w.text.opening.states a no_state

pub one_batch : {C : Type 0} (w : Fixed C) (Of : Tx → C → Type 0) (finish : C → List State → Alone) (k a : ℕ) (s : Machine C) (h : History) → Given w Of finish → IsAllowed w (Commit k) s → AllGood w Of finish s h → BatchesSure w s → ActsStand s h → Prepared w s → AllThere h → Telling w s h → Whole w Of finish s h
    → Commits1 a (reads_who s.book.acts) (first_of w a) h.kept h.committed (done_batch k h (batch_of k s.desk.batches)) (OfBatch k) (h.long a) (told_states a (log_at s (a % w.text.logs)).records)
unfolding Committed Telling AllThere Recorded Acts grown chain.Assumed
one_batch w Of finish k a s h v ok g b st pr th te wh =
    let m = commits.may_commit w k s h ok g.good.settling g.good.known g.good.marked g.good.placed g.good.tracked g.good.turned g.good.from_desk g.good.numbered in
    let c = at_commit w k s ok g.good.settling in
    record {
      fresh = m.1.fresh;
      front = (g.good.committed a).front;
      ahead = m.1.ahead a;
      differ = differs_at w s h a g.good.tracked;
      ends = (chain.kept w (Commit k) s h ok m g.good.tracked g.good.committed a).ends;
      there = there_at h.kept h.long a h.committed th;
      links = (chain.kept w (Commit k) s h ok m g.good.tracked g.good.committed a).links;
      still = (last.kept w Of finish (Commit k) s h v ok g wh).ordered.stills a;
      own = own_batch k h (batch_of k s.desk.batches);
      came = subst (λ o. AllByRecursion (λ d. is_some (d.views a) ≡ true → is_on (OfBatch k) (h.long a) ≡ true) (done_batch k h o)) (sym m.1.is_it) (came_batch k a h m.0.pacts);
      tells = te a;
      other = refl;
      recorded = told_all (λ y. is_kept y (h.kept ++ OfBatch k ∷ []) ≡ true → is_on y (h.long a) ≡ true) a (log_at s (a % w.text.logs)).records
          (λ j q kk. elim (g.good.recorded j a q) [
            | inr u ↦ done_on j (h.long a) u
            | inl u ↦ absurd (elim (kept_end (OfBatch k) (OfBatch j) h.kept kk) [
              | inl i ↦ true≢false (sym i ∙ commits.cuts_fresh w s h g.good.settling g.good.known g.good.marked (OfBatch j) u)
              | inr i ↦ true≢false (sym u ∙ (ap (λ z. Rattle.protocol.specs.Words.is_aborted z s.book.cascades) (sym (eqb-true k j i)) ∙ c.sound))
            ])
          ])
          (λ t q kk. act_record_on w s h t a st pr q (λ x e. elim (kept_end (OfBatch k) (OfAct t) h.kept kk) [ inl i ↦ kept_act_sound x (sym (g.acts t x e).known ∙ i) | inr i ↦ absurd (true≢false (sym i)) ]));
      has_record = λ on. batch_record w Of finish k a s h ok g b on;
    }

pub one_act : {C : Type 0} (w : Fixed C) (Of : Tx → C → Type 0) (finish : C → List State → Alone) (t a : ℕ) (s : Machine C) (h : History) (x : Act) → Given w Of finish → IsAllowed w (Decide t) s → AllGood w Of finish s h → ActsSure w s → ActsStand s h → OnJoined s h → Prepared w s → AllThere h → Telling w s h → Whole w Of finish s h
    → act_of t s.book.acts ≡ Some x → x.tid ≡ t → is_value x.result ≡ true → x.reader ≡ false → Rattle.protocol.specs.Words.is_live_status x.status ≡ true
    → Commits1 a (reads_who s.book.acts) (first_of w a) h.kept h.committed (done_act s.book.next_c h (Some x)) (OfAct t) (h.long a) (told_states a (log_at s (a % w.text.logs)).records)
unfolding Committed Telling AllThere Recorded Acts grown chain.Assumed
one_act {C} w Of finish t a s h x v ok g su st j pr th te wh e i vx rx lx =
    let m = whole.for_chain w Of finish (Decide t) s h v ok (all.owes w Of finish (Decide t) s h v ok g) g.good in
    let same : m.0 ≡ x = cc (sym m.1.is_it ∙ e) in
    let c = chain.kept w (Decide t) s h ok m g.good.tracked g.good.committed a in
    let ks : kept_act (act_of t s.book.acts) ≡ OfAct t ∷ [] = ap kept_act e ∙ rw (vx, rx, i) refl in
    record {
      fresh = m.1.fresh;
      front = (g.good.committed a).front;
      ahead = m.1.ahead (ap (λ z. z.reader) same ∙ rx) a;
      differ = differs_at w s h a g.good.tracked;
      ends = subst (λ o. Linked (first_of w a) (kept_slices (h.kept ++ OfAct t ∷ []) (h.long a)) (last_state a (first_of w a) (h.committed ++ done_act s.book.next_c h o))) e (subst (λ z. Linked (first_of w a) (kept_slices (h.kept ++ z) (h.long a)) (last_state a (first_of w a) (h.committed ++ done_act s.book.next_c h (act_of t s.book.acts)))) ks c.ends);
      there = there_at h.kept h.long a h.committed th;
      links = subst (λ o. StatesLink a (first_of w a) (h.committed ++ done_act s.book.next_c h o)) e c.links;
      still = subst (λ o. AllByRecursion (λ d. d.reader ≡ true → LeavesIt (d.views a)) (h.committed ++ done_act s.book.next_c h o)) e ((last.kept w Of finish (Decide t) s h v ok g wh).ordered.stills a);
      own = own_act s.book.next_c t h (Some x) x refl i;
      came = ((λ u. subst (λ z. is_on (OfAct z) (h.long a) ≡ true) i (view_on x.tid (OfAct x.tid) (h.long a) (subst (λ r. is_some (view_in x.tid (slices_for r x.tid (h.reads a) (h.long a))) ≡ true) rx u))), tt);
      tells = te a;
      other = ap is_reader_act e ∙ rx;
      recorded = told_all (λ y. is_kept y (h.kept ++ OfAct t ∷ []) ≡ true → is_on y (h.long a) ≡ true) a (log_at s (a % w.text.logs)).records
          (λ k q kk. elim (g.good.recorded k a q) [
            | inr u ↦ done_on k (h.long a) u
            | inl u ↦ absurd (elim (kept_end (OfAct t) (OfBatch k) h.kept kk) [ inl p ↦ true≢false (sym p ∙ commits.cuts_fresh w s h g.good.settling g.good.known g.good.marked (OfBatch k) u) | inr p ↦ true≢false (sym p) ])
          ])
          (λ u q kk. act_record_on w s h u a st pr q (λ y f. elim (kept_end (OfAct t) (OfAct u) h.kept kk) [
            | inl p ↦ kept_act_sound y (sym (g.acts u y f).known ∙ p)
            | inr p ↦ let same : x ≡ y = cc (sym e ∙ (ap (λ z. act_of z s.book.acts) (eqb-true t u p) ∙ f)) in (ap (λ z. is_doomed z.status) (sym same) ∙ live_not_doomed x.status lx, ap (λ z. z.reader) (sym same) ∙ rx)
          ]));
      has_record = λ on. act_record w t a s h x ok e vx su j on;
    }

one_out : (P : Who → Bool) (d : Done) → writes d ≡ false → filter (λ d. P d.who && writes d) (d ∷ []) ≡ []
one_out P d e = off (P d.who) (writes d) e
  where
    off : (u c : Bool) → c ≡ false → (if u && c then d ∷ [] else []) ≡ []
    off true true e = absurd (true≢false e)
    off true false e = refl
    off false c e = refl

pub recovers_kept : {C : Type 0} (w : Fixed C) (Of : Tx → C → Type 0) (finish : C → List State → Alone) (e : Event) (s : Machine C) (h : History) → Given w Of finish → IsAllowed w e s → AllGood w Of finish s h → BatchesSure w s → ActsSure w s → ActsStand s h → OnJoined s h → Prepared w s → AllThere h → Telling w s h → Whole w Of finish s h → RecoversEachActor w s h → RecoversEachActor w (after w e s) (grown w e s h)
unfolding RecoversEachActor Committed grown chain.Assumed after
recovers_kept w Of finish (Commit k) s h v ok g b su st j pr th te wh r = λ a.
    subst (RecoversAt a (first_of w a) (h.kept ++ OfBatch k ∷ []) (h.committed ++ done_batch k h (batch_of k s.desk.batches)) (h.long a)) (sym (told_same a _ s.logs (k % w.text.logs) (a % w.text.logs) refl))
    (recovers_commit a (reads_who s.book.acts) (first_of w a) h.kept h.committed (done_batch k h (batch_of k s.desk.batches)) (OfBatch k) (h.long a) (told_states a (log_at s (a % w.text.logs)).records) (one_batch w Of finish k a s h v ok g b st pr th te wh) (r a))
recovers_kept {C} w Of finish (Decide t) s h v ok g b su st j pr th te wh r = λ a.
    subst (RecoversAt a (first_of w a) (h.kept ++ kept_act (act_of t s.book.acts)) (h.committed ++ done_act s.book.next_c h (act_of t s.book.acts)) (h.long a)) (sym (told_same a _ s.logs (t % w.text.logs) (a % w.text.logs) (told_commit a s.book.next_c (act_of t s.book.acts)))) (one a)
  where
    one : (a : ℕ) → RecoversAt a (first_of w a) (h.kept ++ kept_act (act_of t s.book.acts)) (h.committed ++ done_act s.book.next_c h (act_of t s.book.acts)) (h.long a) (told_states a (log_at s (a % w.text.logs)).records)
    one a = let x = at_decide w Of finish t s h ok g in
        subst (λ o. RecoversAt a (first_of w a) (h.kept ++ kept_act o) (h.committed ++ done_act s.book.next_c h o) (h.long a) (told_states a (log_at s (a % w.text.logs)).records)) (sym x.found) (by x.act x.found x.tid x.live (is_value x.act.result && not x.act.reader) refl)
      where
        by : (x : Act) → act_of t s.book.acts ≡ Some x → x.tid ≡ t → Rattle.protocol.specs.Words.is_live_status x.status ≡ true → (c : Bool) → (is_value x.result && not x.reader) ≡ c
            → RecoversAt a (first_of w a) (h.kept ++ (if is_value x.result && not x.reader then OfAct x.tid ∷ [] else [])) (h.committed ++ done_act s.book.next_c h (Some x)) (h.long a) (told_states a (log_at s (a % w.text.logs)).records)
        by x e i l true q =
            let ks : h.kept ++ (if is_value x.result && not x.reader then OfAct x.tid ∷ [] else []) ≡ h.kept ++ OfAct t ∷ [] = rw (q, i) refl in
            let p = and_parts (is_value x.result) (not x.reader) q in
            subst (λ z. RecoversAt a (first_of w a) z (h.committed ++ done_act s.book.next_c h (Some x)) (h.long a) (told_states a (log_at s (a % w.text.logs)).records)) (sym ks)
            (recovers_commit a (reads_who s.book.acts) (first_of w a) h.kept h.committed (done_act s.book.next_c h (Some x)) (OfAct t) (h.long a) (told_states a (log_at s (a % w.text.logs)).records)
            (one_act w Of finish t a s h x v ok g su st j pr th te wh e i p.0 (not-true x.reader p.1) l) (r a))
        by x e i l false q =
            let ks : h.kept ++ (if is_value x.result && not x.reader then OfAct x.tid ∷ [] else []) ≡ h.kept = rw q (append-nil h.kept) in
            subst (λ z. RecoversAt a (first_of w a) z (h.committed ++ done_act s.book.next_c h (Some x)) (h.long a) (told_states a (log_at s (a % w.text.logs)).records)) (sym ks)
            (λ P f. r a P f ∙ ap (last_state a (first_of w a)) (sym (filter_join (λ d. P d.who && writes d) h.committed (done_act s.book.next_c h (Some x)) ∙ (ap (λ z. filter (λ d. P d.who && writes d) h.committed ++ z) (one_out P _ q) ∙ append-nil (filter (λ d. P d.who && writes d) h.committed)))))
recovers_kept w Of finish e s h v ok g b su st j pr th te wh r = λ a.
    still a (first_of w a) h.kept h.kept_readers h.committed (h.long a) ((grown w e s h).long a) (told_states a (log_at s (a % w.text.logs)).records) (told_states a (log_at (after w e s) (a % w.text.logs)).records)
    (λ y k. on_stays w e s h a y (whole.for_chain w Of finish e s h v ok (all.owes w Of finish e s h v ok g) g.good) g.good.committed k) (told_step w Of finish e s h a ok g su st) (r a)
