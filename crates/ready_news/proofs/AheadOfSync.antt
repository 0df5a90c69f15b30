-- What waits for the records that a sync makes durable is all that the sync makes allowed.
use Rattle.std.specs.Prelude.{◌≡◌, ◌≢◌, ◌↔◌, refl, ℕ, ◌%◌, ◌<◌, ◌==◌, Bool, true, false, ◌&&◌, Some, List, length, map, drop, slice_get, slice_set, Contains}
use Rattle.std.specs.List.{list_any}
use Rattle.std.proofs.Common.{arith, sym, ap, subst, inl, ◌∙◌}
use Rattle.std.proofs.lemmas.Bool.{true≢false, and_parts, both_ways, eqb-true, eq-eqb, le-ltb}
use Rattle.std.proofs.lemmas.Option.{get_or_from_slice_get, slice_get_within}
use Rattle.snap_base.proofs.Booleans.{not_so}
use Rattle.aml_slice.specs.Controls.{Rest}
use Rattle.core_events.specs.Meant.{event_meant}
use Rattle.core_events.specs.declared.events.Event as code
use Rattle.core_events.specs.declared.events.Event.TheVariants as events
use Rattle.snap_hand.specs.log_set.Logs.{LogList}
use Rattle.snap_hand.specs.log_set.Shown.{ShowsLog, told_key}
use Rattle.txn_records.specs.declared.keys.Key.{Key}
use Rattle.protocol.specs.Conditions.{IsAllowed, conditions, has_unsynced, is_noted_everywhere, refusal}
use Rattle.protocol.specs.Effects.{after, log_at, no_log, synced}
use Rattle.protocol.specs.Events.{Event, Sync, Note, Commit, Settle, Vouch, Seal}
use Rattle.protocol.specs.Fixed.{Fixed}
use Rattle.protocol.specs.Footprints.{HasLogs}
use Rattle.protocol.specs.Laws.{AfterEveryRun}
use Rattle.protocol.specs.Parts.{Desk, Log, Machine}
use Rattle.protocol.specs.Records.{LogRecord, BatchInfo, BatchComplete, BatchDone, ActPrepare, ActDone, is_info, is_complete, is_commit, is_prepare, is_act_commit}
use Rattle.protocol.specs.Words.{holds}
use Rattle.protocol_ready.specs.Telling.{PartsTell}
use Rattle.protocol_ready.specs.Touched.{is_touched, made_durable, makes_durable}
use Rattle.protocol_ready.proofs.Again.{put_fails}
use Rattle.protocol_ready.proofs.Listing.{Has, any_of, from_has, has_flat_map, has_map, held}
use Rattle.snap_hand.specs.Hands.{Parts, Fits}
use Rattle.snap_hand.specs.core_rows.OnRuns.{HasRun}
use Rattle.ready_news.specs.Foreseen.{of_key, of_keys}
use Rattle.ready_news.specs.InBook.{only}
use Rattle.ready_news.specs.New.{is_new, is_sync}
use Rattle.ready_news.proofs.Common.{Among, new_is_allowed, new_is_touched, new_was_refused}

-- ---- what waits for a record, by its key

only_one : (b : Bool) (f : Event) → b ≡ true → Has (only b f) f
only_one true f h = inl refl
only_one false f h = not_so h

same_two : (kind : ℕ → ℕ → Event) (j k b a : ℕ) → ((j == k) && (b == a)) ≡ true → kind j b ≡ kind k a
same_two kind j k b a h =
    let q = and_parts (j == k) (b == a) h in
    ap (λ n. kind n b) (eqb-true j k q.0) ∙ ap (kind k) (eqb-true b a q.1)

module _ (d : Desk) where
  of_info : (k : ℕ) → is_noted_everywhere k d.batches ≡ true → (r : LogRecord) → is_info k r ≡ true → Has (of_key d (told_key r)) (Commit k)
  of_info k noted (BatchInfo j actors tids) h = subst (λ n. Has (only (is_noted_everywhere n d.batches) (Commit n)) (Commit k)) (sym (eqb-true j k h)) (only_one (is_noted_everywhere k d.batches) (Commit k) noted)
  of_info k noted _ h = not_so h

  of_complete : (k a : ℕ) (r : LogRecord) → is_complete k a r ≡ true → Has (of_key d (told_key r)) (Note k a)
  of_complete k a (BatchComplete j b state) h = inl (same_two Note j k b a h)
  of_complete k a _ h = not_so h

  of_commit : (k : ℕ) (r : LogRecord) → is_commit k r ≡ true → Has (of_key d (told_key r)) (Settle k)
  of_commit k (BatchDone j values) h = inl (ap Settle (eqb-true j k h))
  of_commit k _ h = not_so h

  of_prepare : (t a : ℕ) (r : LogRecord) → is_prepare t a r ≡ true → Has (of_key d (told_key r)) (Vouch t a)
  of_prepare t a (ActPrepare u b state) h = inl (same_two Vouch u t b a h)
  of_prepare t a _ h = not_so h

  of_act : (t : ℕ) (r : LogRecord) → is_act_commit t r ≡ true → Has (of_key d (told_key r)) (Seal t)
  of_act t (ActDone u m c value actors) h = inl (ap Seal (eqb-true u t h))
  of_act t _ h = not_so h

  -- of some record of a log
  of_some : (test : LogRecord → Bool) (f : Event) (rs : List LogRecord) → ((r : LogRecord) → test r ≡ true → Has (of_key d (told_key r)) f) → list_any test rs ≡ true → Contains (of_keys d (map told_key rs)) f
  of_some test f rs waits h =
      let r = any_of test rs h in
      from_has (of_keys d (map told_key rs)) f (has_flat_map (of_key d) (map told_key rs) (told_key r.it) f (has_map told_key rs r.it r.has) (waits r.it r.does))

-- ---- what a sync makes allowed

abbrev pub Ruled : Type 0
Ruled = (w : Fixed Rest) (e : Event) (s : Machine Rest) → (refusal w e s ≡ 0) ↔ IsAllowed w e s

module _ (w : Fixed Rest) (l : ℕ) (s : Machine Rest) where
  abbrev listed : List Event
  listed = of_keys s.desk (map told_key (made_durable (log_at s l)))

  by_record : (test : LogRecord → Bool) (n : ℕ) (f : Event) → ((r : LogRecord) → test r ≡ true → Has (of_key s.desk (told_key r)) f) → makes_durable (Sync l) s test n ≡ true → Contains listed f
  by_record test n f waits h = of_some s.desk test f (made_durable (log_at s l)) waits (and_parts (l == n) (list_any test (made_durable (log_at s l))) h).1

  -- nothing waits in the log after it
  none_waits : (m : ℕ) → (l == m) ≡ true → holds has_unsynced (slice_get (slice_set s.logs l (synced (log_at s l))) m) ≡ true → ⊥
  none_waits m same h =
      let fails : holds has_unsynced (slice_get (slice_set s.logs l (synced (log_at s l))) l) ≡ false = put_fails has_unsynced s.logs l (synced (log_at s l)) (le-ltb (length (log_at s l).records) (length (log_at s l).records) (omega arith)) in
      both_ways _ fails (subst (λ n. holds has_unsynced (slice_get (slice_set s.logs l (synced (log_at s l))) n) ≡ true) (sym (eqb-true l m same)) h)

  -- what is none of these has the same conditions after it
  is_listed : Ruled → (f : Event) → is_touched w (Sync l) s f ≡ true → (refusal w f s == 0) ≡ false → IsAllowed w f (after w (Sync l) s) → Contains listed f
  unfolding conditions after
  is_listed ruled (Sync m) touched was ok = absurd (none_waits m touched ok.0)
  is_listed ruled (Note k a) touched was ok = by_record (is_complete k a) (a % w.text.logs) (Note k a) (of_complete s.desk k a) touched
  is_listed ruled (Commit k) touched was ok = by_record (is_info k) (k % w.text.logs) (Commit k) (of_info s.desk k ok.1.1.0) touched
  is_listed ruled (Settle k) touched was ok = by_record (is_commit k) (k % w.text.logs) (Settle k) (of_commit s.desk k) touched
  is_listed ruled (Vouch t a) touched was ok = by_record (is_prepare t a) (a % w.text.logs) (Vouch t a) (of_prepare s.desk t a) touched
  is_listed ruled (Seal t) touched was ok = by_record (is_act_commit t) (t % w.text.logs) (Seal t) (of_act s.desk t) touched
  is_listed ruled f touched was ok = absurd (both_ways (refusal w f s == 0) was (eq-eqb (refusal w f s) 0 ((ruled w f s).1 ok)))

  pub all_listed : Ruled → (f : Event) → is_new w (Sync l) s f ≡ true → Contains listed f
  all_listed ruled f new = is_listed ruled f (new_is_touched w (Sync l) s f new) (new_was_refused w (Sync l) s f new) (new_is_allowed w (Sync l) s f new ruled)

  -- with what the hand shows of the desk and of the log
  pub sync_foreseen : Ruled → (h : Parts) (d : Desk) (list : LogList) (waiting : List Key) (es : List Event) → Fits h s → h.desk ≡ Some d → slice_get h.logs l ≡ Some (Some list)
      → ((g : Log) → ShowsLog list g → waiting ≡ map told_key (drop g.synced g.records)) → Among (of_keys d waiting) es → (f : Event) → is_new w (Sync l) s f ≡ true → Contains es f
  sync_foreseen ruled h d list waiting es fits desk log told more f new =
      let g = fits.logs l list log in
      let same : map told_key (made_durable (log_at s l)) ≡ waiting = ap (λ y. map told_key (drop y.synced y.records)) (get_or_from_slice_get s.logs l g.0 no_log g.1.0) ∙ sym (told g.0 g.1.1) in
      more f (subst (λ x. Contains (of_keys x waiting) f) (fits.desk d desk) (subst (λ ks. Contains (of_keys s.desk ks) f) same (all_listed ruled f new)))

-- ---- what is no sync, and a sync of a log that is not there

pub no_sync : (e : code.Event) → ((l : ℕ) → e ≢ events.Sync l) → is_sync (event_meant e) ≡ true → ⊥
no_sync (events.Sync l) other h = other l refl
no_sync e other h = true≢false (sym h)

pub is_a_log : (w : Fixed Rest) (l : ℕ) (s : Machine Rest) → AfterEveryRun (HasLogs {C = Rest}) → HasRun w s → IsAllowed w (Sync l) s → l < w.text.logs
unfolding conditions
is_a_log w l s stay run allowed =
    let g = held has_unsynced (slice_get s.logs l) allowed.0 in
    let as_many : HasLogs w s = subst (HasLogs w) (sym run.is_reached) (stay w run.events run.text run.run) in
    subst (λ n. l < n) as_many (slice_get_within s.logs l g.it g.is)

-- ---- events among which all are that are asked for are told by each part

pub all_told : (asked : Event → Bool) (w : Fixed Rest) (t : Machine Rest) (es : List Event) → ((f : Event) → asked f ≡ true → Contains es f) → PartsTell asked w t es
all_told asked w t es has = record {
  ring = record { submit = λ q a. has _ q; pass = λ q a b. has _ q; form = λ q a. has _ q; admit = λ q a. has _ q };
  post = record { arrive = λ k a q b. has _ q; drop_sub = λ k a q b. has _ q; ask = λ u a q b. has _ q; take = λ u a q b. has _ q; drop_control = λ u q b. has _ q };
  cells = λ a x at. record { run = λ u q b. has _ q; send = λ u q b. has _ q; end = λ u q b. has _ q; close = λ u q b. has _ q; complete = λ k q b. has _ q; rollback = λ q b. has _ q };
  logs = λ l g at q b. has _ q;
  desk = record { note = λ k a q b. has _ q; commit = λ k q b. has _ q; abort = λ k q b. has _ q; settle = λ k q b. has _ q; trim = λ k a q b. has _ q };
  book = record { prepare = λ u a q b c. has _ q; vouch = λ u a q b. has _ q; decide = λ u q b. has _ q; seal = λ u q b. has _ q; finish = λ u a q b c. has _ q };
  answers = λ n q b c. has _ q;
}
