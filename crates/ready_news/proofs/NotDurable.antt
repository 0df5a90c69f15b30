-- What an ACT is prepared or decided by is not durable at once: its record is added with the event, and no other is about the same.
use Rattle.std.specs.Prelude.{◌≡◌, refl, ℕ, zero, suc, ◌+◌, ◌≤◌, ◌%◌, ◌==◌, Bool, true, false, ◌&&◌, ◌||◌, if◌then◌else◌, is_some, Some, List, [], ◌∷◌, ◌++◌, length, map, filter, take, slice_get, slice_set, slice_index_or}
use Rattle.std.specs.List.{list_any}
use Rattle.std.proofs.Common.{arith, sym, ap, subst, length-append, ◌∙◌}
use Rattle.std.proofs.lemmas.Bool.{and_parts, and_from, eq-eqb}
use Rattle.std.proofs.lemmas.List.Elements.{filter-append}
use Rattle.aml_slice.specs.Controls.{Rest}
use Rattle.snap_hand.specs.core_rows.OnRuns.{HasRun}
use Rattle.protocol.specs.Conditions.{IsAllowed, conditions}
use Rattle.protocol.specs.Effects.{act_commit, added, adds, after, ascending, cell_at, no_log}
use Rattle.protocol.specs.Events.{Prepare, Vouch, Decide, Seal}
use Rattle.protocol.specs.Fixed.{Fixed}
use Rattle.protocol.specs.OnBook.{changed_act, change_if, decided_as, decided_status}
use Rattle.protocol.specs.Parts.{Status, Live, Doomed, Decided, Sealed, Act, Log, Machine}
use Rattle.protocol.specs.Records.{LogRecord, ActPrepare, ActDone, is_prepare, is_act_commit}
use Rattle.protocol.specs.Words.{act_of, count, holds, is_decided, is_durable, is_live_status, is_value, value_of}
use Rattle.protocol_records.specs.RecordLaws.{RecordKey, OfPrepare, OfActCommit, all_records, has_key}
use Rattle.protocol_records.proofs.recording.RecordsHold.{added_once}
use Rattle.protocol_ready.proofs.Listing.{held, found_in}
use Rattle.protocol_ready.proofs.TouchedListed.{no}
use Rattle.protocol_ready.proofs.TouchedParts.{durable_stays}
use Rattle.ready_news.proofs.BookBefore.{SyncedWithin}

-- ---- a record beside one that is durable is the second

durable_there : (test : LogRecord → Bool) (n : ℕ) (rs : List LogRecord) → list_any test (take n rs) ≡ true → 1 ≤ count test rs
durable_there test zero rs h = no h
durable_there test (suc n) [] h = no h
durable_there test (suc n) (r ∷ rs) h = by (test r) h (durable_there test n rs)
  where
    by : (b : Bool) → (b || list_any test (take n rs)) ≡ true → (list_any test (take n rs) ≡ true → 1 ≤ length (filter test rs)) → 1 ≤ length (if b then r ∷ filter test rs else filter test rs)
    by true g i = omega arith
    by false g i = i g

last_there : (test : LogRecord → Bool) (r : LogRecord) → test r ≡ true → (rs : List LogRecord) → 1 ≤ count test (rs ++ r ∷ [])
last_there test r e [] = rw e (omega arith)
last_there test r e (x ∷ rs) = by (test x) (last_there test r e rs)
  where
    by : (b : Bool) → 1 ≤ length (filter test (rs ++ r ∷ [])) → 1 ≤ length (if b then x ∷ filter test (rs ++ r ∷ []) else filter test (rs ++ r ∷ []))
    by true i = omega arith
    by false i = i

added_twice : (test : LogRecord → Bool) (r : LogRecord) → test r ≡ true → (rs : List LogRecord) → 1 ≤ count test rs → 2 ≤ count test (rs ++ r ∷ [])
added_twice test r e [] h = absurd (omega (arith, h))
added_twice test r e (x ∷ rs) h = by (test x) h (last_there test r e rs) (added_twice test r e rs)
  where
    by : (b : Bool) → 1 ≤ length (if b then x ∷ filter test rs else filter test rs) → 1 ≤ length (filter test (rs ++ r ∷ [])) → (1 ≤ length (filter test rs) → 2 ≤ length (filter test (rs ++ r ∷ [])))
        → 2 ≤ length (if b then x ∷ filter test (rs ++ r ∷ []) else filter test (rs ++ r ∷ []))
    by true g l i = omega (arith, l)
    by false g l i = i g

count_both : (test : LogRecord → Bool) (xs ys : List LogRecord) → count test (xs ++ ys) ≡ count test xs + count test ys
count_both test xs ys = ap length (filter-append test xs ys) ∙ length-append (filter test xs) (filter test ys)

two_in_all : (test : LogRecord → Bool) (r : LogRecord) → test r ≡ true → (logs : List Log) (l : ℕ) → holds (is_durable test) (slice_get logs l) ≡ true
    → 2 ≤ count test (all_records (slice_set logs l (added (r ∷ []) (slice_index_or logs l no_log))))
two_in_all test r e [] l h = no h
two_in_all test r e (g ∷ gs) zero h = omega (arith, count_both test (g.records ++ r ∷ []) (all_records gs), added_twice test r e g.records (durable_there test g.synced g.records h))
two_in_all test r e (g ∷ gs) (suc l) h =
    let rest = all_records (slice_set gs l (added (r ∷ []) (slice_index_or gs l no_log))) in
    omega (arith, count_both test g.records rest, two_in_all test r e gs l h)

-- ---- after a run no two records are about the same

abbrev pub AddedOnce : Machine Rest → Type 0
AddedOnce s = (k : RecordKey) → count (has_key k) (all_records s.logs) ≤ 1

pub once_after : (w : Fixed Rest) (s : Machine Rest) → HasRun w s → AddedOnce s
once_after w s r = subst AddedOnce (sym r.is_reached) (added_once w r.finish r.events r.facts r.text r.run).once

-- a durable record is none that is added now
not_at_once : (k : RecordKey) (r : LogRecord) (s : Machine Rest) (l : ℕ) (now : List Log) → has_key k r ≡ true → now ≡ adds s l (r ∷ []) → count (has_key k) (all_records now) ≤ 1 → holds (is_durable (has_key k)) (slice_get s.logs l) ≡ true → ⊥
not_at_once k r s l now e is once h = omega (arith, once, subst (λ logs. 2 ≤ count (has_key k) (all_records logs)) (sym is) (two_in_all (has_key k) r e s.logs l h))

-- ---- a prepare

pub unvouched_yet : (w : Fixed Rest) (v c : ℕ) (s : Machine Rest) → SyncedWithin s → AddedOnce (after w (Prepare v c) s) → IsAllowed w (Vouch v c) (after w (Prepare v c) s) → ⊥
unfolding conditions after
unvouched_yet w v c s within once h =
    not_at_once (OfPrepare v c) (ActPrepare v c (cell_at s c).state) s (c % w.text.logs) (after w (Prepare v c) s).logs (and_from (v == v) (c == c) (eq-eqb v v refl) (eq-eqb c c refl)) refl (once (OfPrepare v c))
    (sym (durable_stays w (Prepare v c) s (is_prepare v c) (c % w.text.logs) within refl) ∙ h.1.0)

-- ---- a decision

changed_found : (p : Act → Bool) (v : ℕ) (f : Act → Act) → ((x : Act) → (f x).tid ≡ x.tid) → (xs : List Act) → holds p (act_of v (changed_act v f xs)) ≡ true → holds (λ x. p (f x)) (act_of v xs) ≡ true
changed_found p v f tid [] h = h
changed_found p v f tid (x ∷ xs) h = by (x.tid == v) refl h (changed_found p v f tid xs)
  where
    by : (b : Bool) → (x.tid == v) ≡ b → holds p (if (change_if b f x).tid == v then Some (change_if b f x) else act_of v (changed_act v f xs)) ≡ true
        → (holds p (act_of v (changed_act v f xs)) ≡ true → holds (λ x. p (f x)) (act_of v xs) ≡ true)
        → holds (λ x. p (f x)) (if b then Some x else act_of v xs) ≡ true
    by true e g i = let own : ((f x).tid == v) ≡ true = ap (λ n. n == v) (tid x) ∙ e in subst (λ c. holds p (if c then Some (f x) else act_of v (changed_act v f xs)) ≡ true) own g
    by false e g i = i (subst (λ c. holds p (if c then Some x else act_of v (changed_act v f xs)) ≡ true) e g)

-- only one with a value is decided, and not sealed at once
decided_valued : (c : ℕ) (valued : Bool) (st : Status) → is_live_status st ≡ true → is_decided (decided_status c valued st) ≡ true → valued ≡ true
decided_valued c true st l h = refl
decided_valued c false Live l h = no h
decided_valued c false (Doomed v) l h = no l
decided_valued c false (Decided d) l h = no l
decided_valued c false (Sealed d) l h = no l

commit_of : (c : ℕ) (x : Act) (valued : Bool) → valued ≡ true → (if valued then ActDone x.tid x.m c (value_of x.result) (ascending (map (λ p. p.actor) x.places)) ∷ [] else []) ≡ ActDone x.tid x.m c (value_of x.result) (ascending (map (λ p. p.actor) x.places)) ∷ []
commit_of c x true e = refl
commit_of c x false e = no e

pub unsealed_yet : (w : Fixed Rest) (v : ℕ) (s : Machine Rest) → SyncedWithin s → AddedOnce (after w (Decide v) s) → IsAllowed w (Decide v) s → IsAllowed w (Seal v) (after w (Decide v) s) → ⊥
unfolding conditions after
unsealed_yet w v s within once allowed h =
    let c = s.book.next_c in
    let x = held (λ x. is_some x.result && is_live_status x.status) (act_of v s.book.acts) allowed.0 in
    let live = (and_parts (is_some x.it.result) (is_live_status x.it.status) x.does).1 in
    let now = subst (λ o. holds (λ x. is_decided (decided_status c (is_value x.result) x.status)) o ≡ true) x.is (changed_found (λ x. is_decided x.status) v (decided_as c) (λ x. refl) s.book.acts h.0) in
    let commit = commit_of c x.it (is_value x.it.result) (decided_valued c (is_value x.it.result) x.it.status live now) in
    not_at_once (OfActCommit v) (ActDone x.it.tid x.it.m c (value_of x.it.result) (ascending (map (λ p. p.actor) x.it.places))) s (v % w.text.logs) (after w (Decide v) s).logs
    (found_in (λ x. x.tid == v) s.book.acts x.it x.is).1
    (ap (λ rs. adds s (v % w.text.logs) rs) (ap (act_commit c) x.is ∙ commit))
    (once (OfActCommit v))
    (sym (durable_stays w (Decide v) s (is_act_commit v) (v % w.text.logs) within refl) ∙ h.1.0)
