-- Each record lies in its log; an info has the tids of its batch; a commit of an ACT its numbers.
use Rattle.std.specs.Prelude.{◌≡◌, refl, ℕ, ◌%◌, ◌<◌, ◌==◌, Bool, true, false, ◌&&◌, if◌then◌else◌, Option, Some, None, is_some, option_map, List, [], ◌∷◌, ◌++◌, map, replicate, slice_index_or}
use Rattle.std.specs.List.{AllByRecursion}
use Rattle.std.proofs.Common.{sym, ap, subst, ◌∙◌}
use Rattle.std.proofs.lemmas.Bool.{true≢false, and_parts, and_from, eq-eqb, eqb-true}
use Rattle.protocol.specs.Fixed.{Fixed}
use Rattle.protocol.specs.Records.{LogRecord, BatchInfo, BatchComplete, BatchDone, ActPrepare, ActDone}
use Rattle.protocol.specs.Parts.{Act, Batch, Status, Machine}
use Rattle.protocol.specs.Events.{Event, Form, Admit, Ask, End, Complete, Sync, Commit, Prepare, Vouch, Decide, Seal, Finish}
use Rattle.protocol.specs.Words.{holds, is_value, is_live_status, is_ordered, is_ended, act_of, batch_of, outcome_of, value_of}
use Rattle.protocol.specs.Conditions.{IsAllowed, conditions}
use Rattle.protocol.specs.Contents.{Bids, BatchTids}
use Rattle.protocol.specs.Effects.{after, log_at, no_cell, no_log, act_commit, ascending}
use Rattle.protocol.specs.OnRing as ring
use Rattle.protocol.specs.OnDesk as desk
use Rattle.protocol.specs.OnBook as book
use Rattle.protocol.specs.History.{History}
use Rattle.protocol_laws.proofs.machine.ActsTold.{at_placed, at_live, at_sealed, at_decided, now_at}
use Rattle.protocol_laws.specs.Told.{has_number}
use Rattle.protocol_records.specs.RecordLaws.{record_key, home, batch_pact_tids}
use Rattle.protocol_laws.proofs.first.EpochsKept as epochs
use Rattle.protocol_laws.proofs.first.Frames.{frame}
use Rattle.protocol_laws.proofs.machine.ControlWalk.{AllControls}
use Rattle.protocol_laws.proofs.machine.TracksKept.{held}
use Rattle.protocol_laws.proofs.machine.TurnsKept.{one_is}
use Rattle.protocol_laws.proofs.machine.ActResults as results
use Rattle.protocol_laws.proofs.machine.ActResults.{NoneActed}
use Rattle.protocol_laws.proofs.machine.ActsKept.{Acts}
use Rattle.protocol_laws.proofs.machine.ActsFound as acts
use Rattle.protocol_records.proofs.crash.ActPlaces.{fact_stays}
use Rattle.protocol_records.proofs.crash.ActsSure.{found_changed}
use Rattle.protocol_records.proofs.crash.CrashParts.{no_records}
use Rattle.protocol_theorems.proofs.quiet.SubPlaces.{new_batch}
use Rattle.protocol_records.proofs.recording.RecordLists.{each_added, each_synced, found_alike, found_more}
use Rattle.protocol_laws.proofs.first.Lists.{weaker, some_held}
use Rattle.protocol_laws.proofs.machine.ActsFound.{HoldsAnyway}
use Rattle.protocol_laws.proofs.machine.CommitRecords.{not_placed}

-- ---- where records lie

unfoldable pub AtHome : {C : Type 0} → Fixed C → Machine C → Type 0
AtHome w s = (l : ℕ) → AllByRecursion (λ r. home w.text.logs (record_key r) ≡ l) (log_at s l).records

commit_home : (many t c : ℕ) (o : Option Act) → ((x : Act) → o ≡ Some x → x.tid ≡ t) → AllByRecursion (λ r. home many (record_key r) ≡ t % many) (act_commit c o)
commit_home many t c None k = tt
commit_home many t c (Some x) k = by (is_value x.result)
  where
    by : (b : Bool) → AllByRecursion (λ r. home many (record_key r) ≡ t % many) (if b then ActDone x.tid x.m c (value_of x.result) (ascending (map (λ p. p.actor) x.places)) ∷ [] else [])
    by true = (ap (λ z. z % many) (k x refl), tt)
    by false = tt

pub home_kept : {C : Type 0} (w : Fixed C) (e : Event) (s : Machine C) → AtHome w s → AtHome w (after w e s)
unfolding AtHome after
home_kept w (Form k) s h = each_added (λ l r. home w.text.logs (record_key r) ≡ l) _ s.logs (k % w.text.logs) (refl, tt) h
home_kept w (Complete k a) s h = each_added (λ l r. home w.text.logs (record_key r) ≡ l) _ s.logs (a % w.text.logs) (refl, tt) h
home_kept w (Commit k) s h = each_added (λ l r. home w.text.logs (record_key r) ≡ l) _ s.logs (k % w.text.logs) (refl, tt) h
home_kept w (Prepare t a) s h = each_added (λ l r. home w.text.logs (record_key r) ≡ l) _ s.logs (a % w.text.logs) (refl, tt) h
home_kept w (Decide t) s h = each_added (λ l r. home w.text.logs (record_key r) ≡ l) _ s.logs (t % w.text.logs) (commit_home w.text.logs t s.book.next_c (act_of t s.book.acts) (λ x e. acts.found_tid t x s.book.acts e)) h
home_kept w (Sync i) s h = each_synced (λ l r. home w.text.logs (record_key r) ≡ l) s.logs i h
home_kept w e s h = h

pub home_opened : (many : ℕ) (P : ℕ → LogRecord → Type 0) (n l : ℕ) → AllByRecursion (P l) (slice_index_or (replicate n no_log) l no_log).records
home_opened many P n l = subst (AllByRecursion (P l)) (sym (no_records n l)) tt

-- ---- the tids of a batch

abbrev pub TidsAre : List Batch → LogRecord → Type 0
TidsAre bs (BatchInfo k actors tids) = option_map batch_pact_tids (batch_of k bs) ≡ Some tids
TidsAre bs (BatchComplete k a st) = Unit {0}
TidsAre bs (BatchDone k vs) = Unit {0}
TidsAre bs (ActPrepare t a st) = Unit {0}
TidsAre bs (ActDone t m c v actors) = Unit {0}

unfoldable pub InfoTids : {C : Type 0} → Machine C → Type 0
InfoTids s = (l : ℕ) → AllByRecursion (TidsAre s.desk.batches) (log_at s l).records

-- the tids of a batch that is known stay
tids_stay : {C : Type 0} (w : Fixed C) (e : Event) (s : Machine C) (k : ℕ) (ts : List ℕ) → option_map batch_pact_tids (batch_of k s.desk.batches) ≡ Some ts → option_map batch_pact_tids (batch_of k (after w e s).desk.batches) ≡ Some ts
unfolding after
tids_stay w (Form j) s k ts h = found_more batch_pact_tids k (desk.new_batch j (ring.next_actors w.text s.ring) (ring.next_pacts w.text s.ring)) s.desk.batches ts h
tids_stay w e s k ts h = found_alike batch_pact_tids k s.desk.batches (after w e s).desk.batches (frame w e s Bids refl) (frame w e s BatchTids refl) ∙ h

infos_stay : {C : Type 0} (w : Fixed C) (e : Event) (s : Machine C) (rs : List LogRecord) → AllByRecursion (TidsAre s.desk.batches) rs → AllByRecursion (TidsAre (after w e s).desk.batches) rs
infos_stay w e s rs h = weaker (TidsAre s.desk.batches) (TidsAre (after w e s).desk.batches) rs one h
  where
    one : (r : LogRecord) → TidsAre s.desk.batches r → TidsAre (after w e s).desk.batches r
    one (BatchInfo k actors tids) p = tids_stay w e s k tids p
    one (BatchComplete k a st) p = tt
    one (BatchDone k vs) p = tt
    one (ActPrepare t a st) p = tt
    one (ActDone t m c v actors) p = tt

no_info : (bs : List Batch) (c : ℕ) (o : Option Act) → AllByRecursion (TidsAre bs) (act_commit c o)
no_info bs c None = tt
no_info bs c (Some x) = by (is_value x.result)
  where
    by : (b : Bool) → AllByRecursion (TidsAre bs) (if b then ActDone x.tid x.m c (value_of x.result) (ascending (map (λ p. p.actor) x.places)) ∷ [] else [])
    by true = (tt, tt)
    by false = tt

pub tids_kept : {C : Type 0} (w : Fixed C) (e : Event) (s : Machine C) → IsAllowed w e s → epochs.Agreeing s → InfoTids s → InfoTids (after w e s)
unfolding InfoTids conditions after
tids_kept w (Form k) s ok ag g = each_added (λ l. TidsAre (after w (Form k) s).desk.batches) _ s.logs (k % w.text.logs) (ap (option_map batch_pact_tids) own.1, tt) (λ l. infos_stay w (Form k) s _ (g l))
  where
    own : (batch_of k s.desk.batches ≡ None) × (batch_of k (s.desk.batches ++ desk.new_batch k (ring.next_actors w.text s.ring) (ring.next_pacts w.text s.ring) ∷ []) ≡ Some (desk.new_batch k (ring.next_actors w.text s.ring) (ring.next_pacts w.text s.ring)))
    own = new_batch k (desk.new_batch k (ring.next_actors w.text s.ring) (ring.next_pacts w.text s.ring)) s.desk.batches refl (subst (λ z. AllByRecursion (λ j. j < z) (map (λ b. b.bid) s.desk.batches)) (sym (eqb-true k s.ring.next_bid ok.0)) (epochs.bids_below s ag))
tids_kept w (Complete k a) s ok ag g = each_added (λ l. TidsAre (after w (Complete k a) s).desk.batches) _ s.logs (a % w.text.logs) (tt, tt) (λ l. infos_stay w (Complete k a) s _ (g l))
tids_kept w (Commit k) s ok ag g = each_added (λ l. TidsAre (after w (Commit k) s).desk.batches) _ s.logs (k % w.text.logs) (tt, tt) (λ l. infos_stay w (Commit k) s _ (g l))
tids_kept w (Prepare t a) s ok ag g = each_added (λ l. TidsAre (after w (Prepare t a) s).desk.batches) _ s.logs (a % w.text.logs) (tt, tt) (λ l. infos_stay w (Prepare t a) s _ (g l))
tids_kept w (Decide t) s ok ag g = each_added (λ l. TidsAre (after w (Decide t) s).desk.batches) _ s.logs (t % w.text.logs) (no_info _ s.book.next_c (act_of t s.book.acts)) (λ l. infos_stay w (Decide t) s _ (g l))
tids_kept w (Sync i) s ok ag g = each_synced (λ l. TidsAre s.desk.batches) s.logs i g
tids_kept w e s ok ag g = λ l. infos_stay w e s _ (g l)

-- ---- the numbers of an ACT that committed

abbrev pub is_placed : ℕ → ℕ → Act → Bool
is_placed m c x = (x.m == m) && has_number c x.status

abbrev pub NumbersAre : List Act → LogRecord → Type 0
NumbersAre xs (BatchInfo k actors tids) = Unit {0}
NumbersAre xs (BatchComplete k a st) = Unit {0}
NumbersAre xs (BatchDone k vs) = Unit {0}
NumbersAre xs (ActPrepare t a st) = Unit {0}
NumbersAre xs (ActDone t m c v actors) = holds (is_placed m c) (act_of t xs) ≡ true

unfoldable pub CommitNumbers : {C : Type 0} → Machine C → Type 0
CommitNumbers s = (l : ℕ) → AllByRecursion (NumbersAre s.book.acts) (log_at s l).records

placed_ordered : (m c : ℕ) (x : Act) → is_placed m c x ≡ true → is_ordered x.status ≡ true
placed_ordered m c x e = at_placed c x.status (and_parts (x.m == m) (has_number c x.status) e).1

placed_again : (m c : ℕ) (x : Act) (st : Status) → (has_number c x.status ≡ true → has_number c st ≡ true) → is_placed m c x ≡ true → is_placed m c (record x { status = st }) ≡ true
placed_again m c x st k e = let v = and_parts (x.m == m) (has_number c x.status) e in and_from (x.m == m) (has_number c st) v.0 (k v.1)

holds_placed : (t m c : ℕ) → HoldsAnyway (λ u x. u ≡ t → is_placed m c x ≡ true)
holds_placed t m c = record {
  numbered = λ u x n p e. p e;
  doomed = λ u x v l p e. absurd (at_live c x.status l (and_parts (x.m == m) (has_number c x.status) (p e)).1);
  rises = λ u k x l p e. absurd (true≢false (sym (placed_ordered m c x (p e)) ∙ l));
}

ready_placed : {C : Type 0} (w : Fixed C) (e : Event) (s : Machine C) (h : History) (t m c : ℕ) → IsAllowed w e s → AllControls (NoneActed s) s → Acts s h → is_some (act_of t s.book.acts) ≡ true → acts.ReadyAll w e s (λ u x. u ≡ t → is_placed m c x ≡ true)
unfolding acts.ReadyAll conditions
ready_placed w (Admit u) s h t m c ok n i q = λ e f. absurd (true≢false (sym q ∙ ap is_some (ap (λ z. act_of z s.book.acts) (sym f) ∙ e)))
ready_placed w (Ask u a) s h t m c ok n i q = λ o x e p f. absurd (not_placed s h u x i (results.posted_none u a s ok.0 n) e (placed_ordered m c x (p f)))
ready_placed w (End u a) s h t m c ok n i q = λ x v e p f. absurd (not_placed s h u x i (results.outcome_none (λ x. is_ended x.next) u a s (held (λ c. holds (λ x. is_ended x.next) (outcome_of u c.outbox)) s.cells a no_cell ok.0) n) e (placed_ordered m c x (p f)))
ready_placed w (Prepare u a) s h t m c ok n i q = λ x e p f. p f
ready_placed w (Vouch u a) s h t m c ok n i q = λ x e p f. p f
ready_placed w (Finish u a) s h t m c ok n i q = λ x e p f. p f
ready_placed w (Seal u) s h t m c ok n i q = λ x e p f. placed_again m c x (book.sealed_status x.status) (λ q. at_sealed c x.status ∙ q) (p f)
ready_placed w (Decide u) s h t m c ok n i q = λ x e p f. placed_again m c x (book.decided_status s.book.next_c (is_value x.result) x.status) (at_decided c s.book.next_c (is_value x.result) x.status) (p f)
ready_placed w e s h t m c ok n i q = tt

numbers_stay : {C : Type 0} (w : Fixed C) (e : Event) (s : Machine C) (h : History) (rs : List LogRecord) → IsAllowed w e s → AllControls (NoneActed s) s → Acts s h → AllByRecursion (NumbersAre s.book.acts) rs → AllByRecursion (NumbersAre (after w e s).book.acts) rs
numbers_stay w e s h rs ok n i g = weaker (NumbersAre s.book.acts) (NumbersAre (after w e s).book.acts) rs one g
  where
    one : (r : LogRecord) → NumbersAre s.book.acts r → NumbersAre (after w e s).book.acts r
    one (BatchInfo k actors tids) p = tt
    one (BatchComplete k a st) p = tt
    one (BatchDone k vs) p = tt
    one (ActPrepare t a st) p = tt
    one (ActDone t m c v actors) p = fact_stays w e s t (is_placed m c) (holds_placed t m c) (ready_placed w e s h t m c ok n i (some_held (is_placed m c) (act_of t s.book.acts) p)) p

pub numbers_kept : {C : Type 0} (w : Fixed C) (e : Event) (s : Machine C) (h : History) → IsAllowed w e s → AllControls (NoneActed s) s → Acts s h → CommitNumbers s → CommitNumbers (after w e s)
unfolding CommitNumbers conditions after
numbers_kept w (Form k) s h ok n i g = each_added (λ l. NumbersAre s.book.acts) _ s.logs (k % w.text.logs) (tt, tt) g
numbers_kept w (Complete k a) s h ok n i g = each_added (λ l. NumbersAre s.book.acts) _ s.logs (a % w.text.logs) (tt, tt) g
numbers_kept w (Commit k) s h ok n i g = each_added (λ l. NumbersAre s.book.acts) _ s.logs (k % w.text.logs) (tt, tt) g
numbers_kept w (Prepare t a) s h ok n i g = each_added (λ l. NumbersAre (after w (Prepare t a) s).book.acts) _ s.logs (a % w.text.logs) (tt, tt) (λ l. numbers_stay w (Prepare t a) s h _ ok n i (g l))
numbers_kept w (Decide t) s h ok n i g = each_added (λ l. NumbersAre (after w (Decide t) s).book.acts) _ s.logs (t % w.text.logs) own (λ l. numbers_stay w (Decide t) s h _ ok n i (g l))
  where
    q : (x : Act) × (act_of t s.book.acts ≡ Some x) × ((is_some x.result && is_live_status x.status) ≡ true)
    q = one_is (λ x. is_some x.result && is_live_status x.status) (act_of t s.book.acts) ok.0

    by : (x : Act) → act_of t s.book.acts ≡ Some x → is_live_status x.status ≡ true → (b : Bool) → AllByRecursion (NumbersAre (book.changed_act t (book.decided_as s.book.next_c) s.book.acts)) (if b then ActDone x.tid x.m s.book.next_c (value_of x.result) (ascending (map (λ p. p.actor) x.places)) ∷ [] else [])
    by x e l true = (
      subst (λ o. holds (is_placed x.m s.book.next_c) o ≡ true) (sym (ap (λ z. act_of z (book.changed_act t (book.decided_as s.book.next_c) s.book.acts)) (acts.found_tid t x s.book.acts e) ∙ found_changed t (book.decided_as s.book.next_c) x s.book.acts (λ x. refl) e))
          (and_from (x.m == x.m) (has_number s.book.next_c (book.decided_status s.book.next_c (is_value x.result) x.status)) (eq-eqb x.m x.m refl) (now_at s.book.next_c (is_value x.result) x.status l)),
      tt,
    )
    by x e l false = tt

    own : AllByRecursion (NumbersAre (book.changed_act t (book.decided_as s.book.next_c) s.book.acts)) (act_commit s.book.next_c (act_of t s.book.acts))
    own = subst (λ o. AllByRecursion (NumbersAre (book.changed_act t (book.decided_as s.book.next_c) s.book.acts)) (act_commit s.book.next_c o)) (sym q.1) (by q.0 q.1 (and_parts (is_some q.0.result) (is_live_status q.0.status) q.2).1 (is_value q.0.result))
numbers_kept w (Sync j) s h ok n i g = each_synced (λ l. NumbersAre s.book.acts) s.logs j g
numbers_kept w e s h ok n i g = λ l. numbers_stay w e s h _ ok n i (g l)
