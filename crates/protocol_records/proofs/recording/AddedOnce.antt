-- No two records of all logs have the same key.
use Rattle.std.specs.Prelude.{◌≡◌, refl, ℕ, ◌+◌, ◌≤◌, ◌%◌, ◌==◌, not, Bool, true, false, ◌&&◌, if◌then◌else◌, Some, None, is_some, option_map, List, [], ◌∷◌, length, map, slice_index_or, slice_set}
use Rattle.std.specs.List.{AllByRecursion, list_any}
use Rattle.std.proofs.Common.{arith, sym, ap, subst, ◌∙◌}
use Rattle.std.proofs.lemmas.Bool.{true≢false, and_parts, eqb-true, not-true}
use Rattle.snap_base.specs.declared.transactions.Tx.{Tx}
use Rattle.snap_base.specs.declared.transactions.State.{State}
use Rattle.protocol.specs.Facts.{Alone}
use Rattle.protocol.specs.Fixed.{Fixed}
use Rattle.protocol.specs.Records.{LogRecord, BatchInfo, BatchComplete, BatchDone, ActPrepare, ActDone, is_info, is_complete, is_commit, is_prepare, is_act_commit}
use Rattle.protocol.specs.Parts.{Act, Batch, Log, Machine}
use Rattle.protocol.specs.Events.{Event, Form, Complete, Sync, Commit, Prepare, Decide}
use Rattle.protocol.specs.Words.{count, holds, is_open, is_formed, is_value, is_next_to_commit, is_live_status, act_of, batch_of, value_of, values_of}
use Rattle.protocol.specs.Conditions.{IsAllowed, conditions}
use Rattle.protocol.specs.Effects.{after, log_at, no_log, cell_at, added, act_commit, ascending}
use Rattle.protocol.specs.OnRing as ring
use Rattle.protocol.specs.OnDesk as desk
use Rattle.protocol.specs.History.{History}
use Rattle.protocol_laws.proofs.machine.ActsTold.{at_live}
use Rattle.protocol_laws.specs.Told.{has_number}
use Rattle.protocol_records.specs.RecordLaws.{RecordKey, OfInfo, OfComplete, OfCommit, OfPrepare, OfActCommit, home, record_key, has_key, all_records, batch_actors, TellsOf, RecordsTell}
use Rattle.protocol_laws.proofs.first.EpochsKept as epochs
use Rattle.protocol_laws.proofs.first.Lists.{some_of}
use Rattle.protocol_laws.proofs.machine.TurnsKept.{one_is}
use Rattle.protocol_laws.proofs.machine.AllGood.{AllGood}
use Rattle.protocol_records.proofs.crash.RecoversKept.{named_batch, named_act}
use Rattle.protocol_records.proofs.crash.OnceKept.{batch_new, act_new}
use Rattle.protocol_records.proofs.crash.NoneBehind.{Both}
use Rattle.protocol_theorems.proofs.quiet.SubPlaces.{new_batch}
use Rattle.protocol_records.proofs.recording.RecordLists.{of_any, count_added, all_synced, none_counted}
use Rattle.protocol_records.proofs.recording.TellsTids.{AtHome}

unfoldable pub OnceKeys : {C : Type 0} → Machine C → Type 0
OnceKeys s = (k : RecordKey) → count (has_key k) (all_records s.logs) ≤ 1

-- no log has a record of this key
abbrev pub NoneHas : List Log → RecordKey → Type 0
NoneHas logs k = (l : ℕ) → list_any (has_key k) (slice_index_or logs l no_log).records ≡ true → ⊥

add_one : (k : RecordKey) (r : LogRecord) (logs : List Log) (i : ℕ) → (has_key k r ≡ true → NoneHas logs k) → count (has_key k) (all_records logs) ≤ 1 → count (has_key k) (all_records (slice_set logs i (added (r ∷ []) (slice_index_or logs i no_log)))) ≤ 1
add_one k r logs i n h = by (has_key k r) refl (count_added (has_key k) (r ∷ []) logs i)
  where
    by : (v : Bool) → has_key k r ≡ v → count (has_key k) (all_records (slice_set logs i (added (r ∷ []) (slice_index_or logs i no_log)))) ≤ count (has_key k) (all_records logs) + length (if v then r ∷ [] else []) → count (has_key k) (all_records (slice_set logs i (added (r ∷ []) (slice_index_or logs i no_log)))) ≤ 1
    by true e l = omega (arith, l, none_counted (has_key k) logs (n e))
    by false e l = omega (arith, l, h)

add_none : (k : RecordKey) (logs : List Log) (i : ℕ) → count (has_key k) (all_records logs) ≤ 1 → count (has_key k) (all_records (slice_set logs i (added [] (slice_index_or logs i no_log)))) ≤ 1
add_none k logs i h = omega (arith, count_added (has_key k) [] logs i, h)

-- ---- who has a record, and who has none yet

known_info : (bs : List Batch) (xs : List Act) (j : ℕ) (r : LogRecord) → TellsOf bs xs r → is_info j r ≡ true → is_some (option_map batch_actors (batch_of j bs)) ≡ true
known_info bs xs j (BatchInfo k actors tids) t e = ap is_some (subst (λ z. option_map batch_actors (batch_of z bs) ≡ Some actors) (eqb-true k j e) t.0)
known_info bs xs j (BatchComplete k a st) t e = absurd (true≢false (sym e))
known_info bs xs j (BatchDone k vs) t e = absurd (true≢false (sym e))
known_info bs xs j (ActPrepare u a st) t e = absurd (true≢false (sym e))
known_info bs xs j (ActDone u m c v actors) t e = absurd (true≢false (sym e))

known_commit : (bs : List Batch) (xs : List Act) (j : ℕ) (r : LogRecord) → TellsOf bs xs r → is_commit j r ≡ true → holds (λ b. not (is_formed b.stage)) (batch_of j bs) ≡ true
known_commit bs xs j (BatchInfo k actors tids) t e = absurd (true≢false (sym e))
known_commit bs xs j (BatchComplete k a st) t e = absurd (true≢false (sym e))
known_commit bs xs j (BatchDone k vs) t e = subst (λ z. holds (λ b. not (is_formed b.stage)) (batch_of z bs) ≡ true) (eqb-true k j e) t.0
known_commit bs xs j (ActPrepare u a st) t e = absurd (true≢false (sym e))
known_commit bs xs j (ActDone u m c v actors) t e = absurd (true≢false (sym e))

live_has_none : (bs : List Batch) (xs : List Act) (j : ℕ) (x : Act) (r : LogRecord) → act_of j xs ≡ Some x → is_live_status x.status ≡ true → TellsOf bs xs r → is_act_commit j r ≡ true → ⊥
live_has_none bs xs j x (BatchInfo k actors tids) f l t e = true≢false (sym e)
live_has_none bs xs j x (BatchComplete k a st) f l t e = true≢false (sym e)
live_has_none bs xs j x (BatchDone k vs) f l t e = true≢false (sym e)
live_has_none bs xs j x (ActPrepare u a st) f l t e = true≢false (sym e)
live_has_none bs xs j x (ActDone u m c v actors) f l t e =
    let i : t.act ≡ x = cc (sym t.found ∙ (ap (λ z. act_of z xs) (eqb-true u j e) ∙ f)) in
    at_live c x.status l (subst (λ z. has_number c z.status ≡ true) i t.c_is)

home_complete : (many j b l : ℕ) (r : LogRecord) → home many (record_key r) ≡ l → is_complete j b r ≡ true → l ≡ b % many
home_complete many j b l (BatchInfo k actors tids) h e = absurd (true≢false (sym e))
home_complete many j b l (BatchComplete k a st) h e = sym h ∙ ap (λ z. z % many) (eqb-true a b (and_parts (k == j) (a == b) e).1)
home_complete many j b l (BatchDone k vs) h e = absurd (true≢false (sym e))
home_complete many j b l (ActPrepare u a st) h e = absurd (true≢false (sym e))
home_complete many j b l (ActDone u m c v actors) h e = absurd (true≢false (sym e))

home_prepare : (many j b l : ℕ) (r : LogRecord) → home many (record_key r) ≡ l → is_prepare j b r ≡ true → l ≡ b % many
home_prepare many j b l (BatchInfo k actors tids) h e = absurd (true≢false (sym e))
home_prepare many j b l (BatchComplete k a st) h e = absurd (true≢false (sym e))
home_prepare many j b l (BatchDone k vs) h e = absurd (true≢false (sym e))
home_prepare many j b l (ActPrepare u a st) h e = sym h ∙ ap (λ z. z % many) (eqb-true a b (and_parts (u == j) (a == b) e).1)
home_prepare many j b l (ActDone u m c v actors) h e = absurd (true≢false (sym e))

open_formed : (b : Batch) (r : Bool) → (is_open b && r) ≡ true → is_formed b.stage ≡ true
open_formed b r e = (and_parts (is_formed b.stage) (not b.aborted) (and_parts (is_open b) r e).0).0

-- ---- each event

pub once_kept : {C : Type 0} (w : Fixed C) (Of : Tx → C → Type 0) (finish : C → List State → Alone) (e : Event) (s : Machine C) (h : History) → IsAllowed w e s → AllGood w Of finish s h → Both w s h → AtHome w s → RecordsTell w finish s h → OnceKeys s → OnceKeys (after w e s)
unfolding OnceKeys AtHome conditions after
once_kept w Of finish (Form k) s h ok g b home tells q = λ key. add_one key (BatchInfo k (ring.next_actors w.text s.ring) (map (λ p. p.tid) (ring.next_pacts w.text s.ring))) s.logs (k % w.text.logs) (fresh key) (q key)
  where
    none : batch_of k s.desk.batches ≡ None
    none = (new_batch k (desk.new_batch k (ring.next_actors w.text s.ring) (ring.next_pacts w.text s.ring)) s.desk.batches refl (subst (λ z. AllByRecursion (λ j. Rattle.std.specs.Prelude.◌<◌ j z) (map (λ b. b.bid) s.desk.batches)) (sym (eqb-true k s.ring.next_bid ok.0)) (epochs.bids_below s g.good.agreeing))).0

    fresh : (key : RecordKey) → has_key key (BatchInfo k (ring.next_actors w.text s.ring) (map (λ p. p.tid) (ring.next_pacts w.text s.ring))) ≡ true → NoneHas s.logs key
    fresh (OfInfo j) e l i = of_any (TellsOf s.desk.batches s.book.acts) (is_info j) ⊥ (log_at s l).records (tells l) (λ r t v. true≢false (sym (known_info s.desk.batches s.book.acts j r t v) ∙ ap (λ o. is_some (option_map batch_actors o)) (ap (λ z. batch_of z s.desk.batches) (sym (eqb-true k j e)) ∙ none))) i
    fresh (OfComplete j a) e l i = true≢false (sym e)
    fresh (OfCommit j) e l i = true≢false (sym e)
    fresh (OfPrepare u a) e l i = true≢false (sym e)
    fresh (OfActCommit u) e l i = true≢false (sym e)
once_kept w Of finish (Complete k a) s h ok g b home tells q = λ key. add_one key (BatchComplete k a (cell_at s a).state) s.logs (a % w.text.logs) (fresh key) (q key)
  where
    none : list_any (is_complete k a) (log_at s (a % w.text.logs)).records ≡ true → ⊥
    none i = true≢false (sym (named_batch k a (log_at s (a % w.text.logs)).records i) ∙ batch_new w Of finish k a s h ok g b.logs.telling)

    fresh : (key : RecordKey) → has_key key (BatchComplete k a (cell_at s a).state) ≡ true → NoneHas s.logs key
    fresh (OfInfo j) e l i = true≢false (sym e)
    fresh (OfComplete j c) e l i =
        let v = and_parts (k == j) (a == c) e in
        let m : l ≡ a % w.text.logs = of_any (λ r. Rattle.protocol_records.specs.RecordLaws.home w.text.logs (record_key r) ≡ l) (is_complete j c) (l ≡ a % w.text.logs) (log_at s l).records (home l) (λ r t u. home_complete w.text.logs j c l r t u ∙ ap (λ z. z % w.text.logs) (sym (eqb-true a c v.1))) i in
        none (subst (λ z. list_any (is_complete k z) (log_at s (a % w.text.logs)).records ≡ true) (sym (eqb-true a c v.1)) (subst (λ z. list_any (is_complete z c) (log_at s (a % w.text.logs)).records ≡ true) (sym (eqb-true k j v.0)) (subst (λ z. list_any (is_complete j c) (log_at s z).records ≡ true) m i)))
    fresh (OfCommit j) e l i = true≢false (sym e)
    fresh (OfPrepare u c) e l i = true≢false (sym e)
    fresh (OfActCommit u) e l i = true≢false (sym e)
once_kept w Of finish (Commit k) s h ok g b home tells q = λ key. add_one key (BatchDone k (values_of (batch_of k s.desk.batches))) s.logs (k % w.text.logs) (fresh key) (q key)
  where
    none : holds (λ b. not (is_formed b.stage)) (batch_of k s.desk.batches) ≡ true → ⊥
    none i =
        let x = one_is (λ b. is_open b && is_next_to_commit k s.desk.batches) (batch_of k s.desk.batches) ok.0 in
        true≢false (sym (open_formed x.0 (is_next_to_commit k s.desk.batches) x.2) ∙ not-true (is_formed x.0.stage) (some_of (λ b. not (is_formed b.stage)) (batch_of k s.desk.batches) x.0 x.1 i))

    fresh : (key : RecordKey) → has_key key (BatchDone k (values_of (batch_of k s.desk.batches))) ≡ true → NoneHas s.logs key
    fresh (OfInfo j) e l i = true≢false (sym e)
    fresh (OfComplete j c) e l i = true≢false (sym e)
    fresh (OfCommit j) e l i = of_any (TellsOf s.desk.batches s.book.acts) (is_commit j) ⊥ (log_at s l).records (tells l) (λ r t v. none (subst (λ z. holds (λ b. not (is_formed b.stage)) (batch_of z s.desk.batches) ≡ true) (sym (eqb-true k j e)) (known_commit s.desk.batches s.book.acts j r t v))) i
    fresh (OfPrepare u c) e l i = true≢false (sym e)
    fresh (OfActCommit u) e l i = true≢false (sym e)
once_kept w Of finish (Prepare t a) s h ok g b home tells q = λ key. add_one key (ActPrepare t a (cell_at s a).state) s.logs (a % w.text.logs) (fresh key) (q key)
  where
    none : list_any (is_prepare t a) (log_at s (a % w.text.logs)).records ≡ true → ⊥
    none i = true≢false (sym (named_act t a (log_at s (a % w.text.logs)).records i) ∙ act_new w t a s ok b.once.marked)

    fresh : (key : RecordKey) → has_key key (ActPrepare t a (cell_at s a).state) ≡ true → NoneHas s.logs key
    fresh (OfInfo j) e l i = true≢false (sym e)
    fresh (OfComplete j c) e l i = true≢false (sym e)
    fresh (OfCommit j) e l i = true≢false (sym e)
    fresh (OfPrepare j c) e l i =
        let v = and_parts (t == j) (a == c) e in
        let m : l ≡ a % w.text.logs = of_any (λ r. Rattle.protocol_records.specs.RecordLaws.home w.text.logs (record_key r) ≡ l) (is_prepare j c) (l ≡ a % w.text.logs) (log_at s l).records (home l) (λ r x u. home_prepare w.text.logs j c l r x u ∙ ap (λ z. z % w.text.logs) (sym (eqb-true a c v.1))) i in
        none (subst (λ z. list_any (is_prepare t z) (log_at s (a % w.text.logs)).records ≡ true) (sym (eqb-true a c v.1)) (subst (λ z. list_any (is_prepare z c) (log_at s (a % w.text.logs)).records ≡ true) (sym (eqb-true t j v.0)) (subst (λ z. list_any (is_prepare j c) (log_at s z).records ≡ true) m i)))
    fresh (OfActCommit u) e l i = true≢false (sym e)
once_kept {C} w Of finish (Decide t) s h ok g b home tells q = λ key. subst (λ o. count (has_key key) (all_records (slice_set s.logs (t % w.text.logs) (added (act_commit s.book.next_c o) (log_at s (t % w.text.logs))))) ≤ 1) (sym x.1) (by key (is_value x.0.result))
  where
    x : (x : Act) × (act_of t s.book.acts ≡ Some x) × ((is_some x.result && is_live_status x.status) ≡ true)
    x = one_is (λ x. is_some x.result && is_live_status x.status) (act_of t s.book.acts) ok.0

    live : is_live_status x.0.status ≡ true
    live = (and_parts (is_some x.0.result) (is_live_status x.0.status) x.2).1

    fresh : (actors : List ℕ) (key : RecordKey) → has_key key (ActDone x.0.tid x.0.m s.book.next_c (value_of x.0.result) actors) ≡ true → NoneHas s.logs key
    fresh actors (OfInfo j) e l i = true≢false (sym e)
    fresh actors (OfComplete j c) e l i = true≢false (sym e)
    fresh actors (OfCommit j) e l i = true≢false (sym e)
    fresh actors (OfPrepare u c) e l i = true≢false (sym e)
    fresh actors (OfActCommit u) e l i =
        let f : act_of u s.book.acts ≡ Some x.0 = ap (λ z. act_of z s.book.acts) (sym (eqb-true x.0.tid u e) ∙ Rattle.protocol_laws.proofs.machine.ActsFound.found_tid t x.0 s.book.acts x.1) ∙ x.1 in
        of_any (TellsOf s.desk.batches s.book.acts) (is_act_commit u) ⊥ (log_at s l).records (tells l) (λ r y v. live_has_none s.desk.batches s.book.acts u x.0 r f live y v) i

    by : (key : RecordKey) (v : Bool) → count (has_key key) (all_records (slice_set s.logs (t % w.text.logs) (added (if v then ActDone x.0.tid x.0.m s.book.next_c (value_of x.0.result) (ascending (map (λ p. p.actor) x.0.places)) ∷ [] else []) (log_at s (t % w.text.logs))))) ≤ 1
    by key true = add_one key (ActDone x.0.tid x.0.m s.book.next_c (value_of x.0.result) (ascending (map (λ p. p.actor) x.0.places))) s.logs (t % w.text.logs) (fresh (ascending (map (λ p. p.actor) x.0.places)) key) (q key)
    by key false = add_none key s.logs (t % w.text.logs) (q key)
once_kept w Of finish (Sync i) s h ok g b home tells q = λ key. subst (λ z. count (has_key key) z ≤ 1) (sym (all_synced s.logs i)) (q key)
once_kept w Of finish e s h ok g b home tells q = q
