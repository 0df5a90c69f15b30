-- Who committed has its commit record in its log; a fact of each batch that is found by its number, as events change batches.
use Rattle.std.specs.Prelude.{◌≡◌, refl, ℕ, zero, suc, ◌%◌, ◌<◌, ◌==◌, nat_lt, not, Bool, true, false, ◌&&◌, if◌then◌else◌, Option, Some, None, is_some, List, [], ◌∷◌, ◌++◌, length, map, slice_get, slice_index_or, slice_set}
use Rattle.std.specs.List.{list_any}
use Rattle.std.proofs.Common.{arith, sym, ap, subst, inl, inr, ◌∙◌}
use Rattle.std.proofs.lemmas.Bool.{true≢false, eqb-true, eq-eqb, and_parts, or_cases, or_left, or_right, lt-ltb, cases_lt}
use Rattle.std.proofs.lemmas.List.{take_all}
use Rattle.snap_base.specs.declared.transactions.TxResult.{TxResult}
use Rattle.protocol.specs.Fixed.{Fixed, IsText, Next, Go, Ended}
use Rattle.protocol.specs.Records.{LogRecord, is_commit, is_act_commit}
use Rattle.protocol.specs.Parts.{Act, Batch, Declared, Committing, Settled, Status, Live, Doomed, Decided, Sealed, Log, Outcome, Machine}
use Rattle.protocol.specs.Events.{Event, Form, Admit, Ask, End, Complete, Sync, Note, Commit, Settle, Abort, Prepare, Decide, Trim}
use Rattle.protocol.specs.Words.{holds, is_value, is_decided, is_ended, is_formed, is_committing, is_durable, act_of, batch_of, has_act, outcome_of, is_ordered}
use Rattle.protocol.specs.Conditions.{IsAllowed, conditions}
use Rattle.protocol.specs.Effects.{after, cell_at, log_at, no_cell, no_log, added, synced, act_commit}
use Rattle.protocol.specs.OnRing as ring
use Rattle.protocol.specs.OnDesk as desk
use Rattle.protocol.specs.OnBook as book
use Rattle.protocol.specs.Runs.{IsQuiet}
use Rattle.protocol.specs.History.{History}
use Rattle.protocol_laws.specs.Told.{EachAct, EachBatch}
use Rattle.protocol_laws.proofs.machine.MarksKept as marks
use Rattle.protocol_laws.proofs.machine.ControlWalk.{AllControls}
use Rattle.protocol_laws.proofs.machine.TracksKept.{held}
use Rattle.protocol_laws.proofs.machine.ActsFound as acts
use Rattle.protocol_laws.proofs.machine.ActsFound.{Holds}
use Rattle.protocol_laws.proofs.machine.ActResults as results
use Rattle.protocol_laws.proofs.machine.ActResults.{NoneActed, NoActResult}
use Rattle.protocol_laws.proofs.machine.ActsKept.{Acts}
use Rattle.protocol_laws.proofs.first.Lists.{some_of}
use Rattle.protocol_laws.proofs.first.Statuses.{committing_not_formed, if_bid, ordered_sealed, sealed_not_decided}
use Rattle.protocol_laws.proofs.first.OnePlace.{remainder}

-- ---- records stay

any_more : (p : LogRecord → Bool) (xs ys : List LogRecord) → list_any p xs ≡ true → list_any p (xs ++ ys) ≡ true
any_more p [] ys h = absurd (true≢false (sym h))
any_more p (x ∷ xs) ys h = elim (or_cases (p x) (list_any p xs) h) [ inl q ↦ or_left (p x) _ q | inr q ↦ or_right (p x) _ (any_more p xs ys q) ]

any_new : (p : LogRecord → Bool) (xs ys : List LogRecord) → list_any p ys ≡ true → list_any p (xs ++ ys) ≡ true
any_new p [] ys h = h
any_new p (x ∷ xs) ys h = or_right (p x) _ (any_new p xs ys h)

adds_stay : (p : LogRecord → Bool) (rs : List LogRecord) (logs : List Log) (l m : ℕ) → list_any p (slice_index_or logs m no_log).records ≡ true → list_any p (slice_index_or (slice_set logs l (added rs (slice_index_or logs l no_log))) m no_log).records ≡ true
adds_stay p rs [] l m h = h
adds_stay p rs (x ∷ xs) zero zero h = any_more p x.records rs h
adds_stay p rs (x ∷ xs) zero (suc m) h = h
adds_stay p rs (x ∷ xs) (suc l) zero h = h
adds_stay p rs (x ∷ xs) (suc l) (suc m) h = adds_stay p rs xs l m h

adds_new : (p : LogRecord → Bool) (rs : List LogRecord) (logs : List Log) (l : ℕ) → l < length logs → list_any p rs ≡ true → list_any p (slice_index_or (slice_set logs l (added rs (slice_index_or logs l no_log))) l no_log).records ≡ true
adds_new p rs [] l lt h = absurd (omega (arith, lt))
adds_new p rs (x ∷ xs) zero lt h = any_new p x.records rs h
adds_new p rs (x ∷ xs) (suc l) lt h = adds_new p rs xs l (omega (arith, lt)) h

syncs_stay : (p : LogRecord → Bool) (logs : List Log) (l m : ℕ) → list_any p (slice_index_or logs m no_log).records ≡ true → list_any p (slice_index_or (slice_set logs l (synced (slice_index_or logs l no_log))) m no_log).records ≡ true
syncs_stay p [] l m h = h
syncs_stay p (x ∷ xs) zero zero h = h
syncs_stay p (x ∷ xs) zero (suc m) h = h
syncs_stay p (x ∷ xs) (suc l) zero h = h
syncs_stay p (x ∷ xs) (suc l) (suc m) h = syncs_stay p xs l m h

pub record_stays : {C : Type 0} (w : Fixed C) (e : Event) (s : Machine C) (p : LogRecord → Bool) (l : ℕ) → list_any p (log_at s l).records ≡ true → list_any p (log_at (after w e s) l).records ≡ true
unfolding after
record_stays w (Form k) s p l h = adds_stay p _ s.logs (k % w.text.logs) l h
record_stays w (Complete k a) s p l h = adds_stay p _ s.logs (a % w.text.logs) l h
record_stays w (Sync i) s p l h = syncs_stay p s.logs i l h
record_stays w (Commit k) s p l h = adds_stay p _ s.logs (k % w.text.logs) l h
record_stays w (Prepare t a) s p l h = adds_stay p _ s.logs (a % w.text.logs) l h
record_stays w (Decide t) s p l h = adds_stay p _ s.logs (t % w.text.logs) l h
record_stays w e s p l h = h

-- where there is a log
pub has_log : {C : Type 0} (w : Fixed C) (s : Machine C) (n : ℕ) → IsText w.text → length s.logs ≡ w.text.logs → n % w.text.logs < length s.logs
has_log w s n t e = omega (arith, remainder n w.text.logs t.some_logs, e)

-- ---- who has its place with a value has its record

abbrev pub ActRecorded : {C : Type 0} → Fixed C → Machine C → ℕ → Act → Type 0
ActRecorded w s t x = is_ordered x.status ≡ true → is_value x.result ≡ true → list_any (is_act_commit t) (log_at s (t % w.text.logs)).records ≡ true

-- one that is decided and not sealed has a value
abbrev pub DecidedValue : ℕ → Act → Type 0
DecidedValue t x = is_decided x.status ≡ true → is_value x.result ≡ true

unfoldable pub ActsRecorded : {C : Type 0} → Fixed C → Machine C → Type 0
ActsRecorded w s = EachAct (λ t x. ActRecorded w s t x × DecidedValue t x) s.book.acts

recorded_holds : {C : Type 0} (w : Fixed C) (s : Machine C) → Holds (λ t x. ActRecorded w s t x × DecidedValue t x)
recorded_holds w s = record {
  numbered = λ t x n p. p;
  marked = λ t a x f i p. p;
  sealed = λ t x p. ((λ e v. p.0 (sym (ordered_sealed x.status) ∙ e) v), (λ e. absurd (true≢false (sym e ∙ sealed_not_decided x.status))));
  doomed = λ t x v l p. ((λ e. absurd (true≢false (sym e))), (λ e. absurd (true≢false (sym e))));
  rises = λ t k x l p. p;
}

pub not_placed : {C : Type 0} (s : Machine C) (h : History) (t : ℕ) (x : Act) → Acts s h → NoActResult t s.book.acts → act_of t s.book.acts ≡ Some x → is_ordered x.status ≡ true → ⊥
unfolding Acts
not_placed s h t x i n e a = true≢false (sym ((i t x e).ended a) ∙ ap is_some (n t x e refl))

pub decided_placed : (st : Status) → is_decided st ≡ true → is_ordered st ≡ true
decided_placed st e = or_left (is_decided st) _ e

stay_recorded : {C : Type 0} (w : Fixed C) (e : Event) (s : Machine C) → EachAct (λ t x. ActRecorded w s t x × DecidedValue t x) s.book.acts → EachAct (λ t x. ActRecorded w (after w e s) t x × DecidedValue t x) s.book.acts
stay_recorded w e s g = λ t x f. ((λ p v. record_stays w e s (is_act_commit t) (t % w.text.logs) ((g t x f).0 p v)), (g t x f).1)

commits_new : (t c : ℕ) (x : Act) → x.tid ≡ t → is_value x.result ≡ true → list_any (is_act_commit t) (act_commit c (Some x)) ≡ true
commits_new t c x e v = rw (v, eq-eqb x.tid t e) refl

pub decided_value : (c : ℕ) (b : Bool) (st : Status) → (is_decided st ≡ true → b ≡ true) → is_decided (book.decided_status c b st) ≡ true → b ≡ true
decided_value c true st k e = refl
decided_value c false Live k e = absurd (true≢false (sym e))
decided_value c false (Doomed v) k e = absurd (true≢false (sym e))
decided_value c false (Decided d) k e = k refl
decided_value c false (Sealed d) k e = absurd (true≢false (sym e))

pub acts_recorded : {C : Type 0} (w : Fixed C) (e : Event) (s : Machine C) (h : History) → IsText w.text → length s.logs ≡ w.text.logs → IsAllowed w e s → AllControls (NoneActed s) s → Acts s h → ActsRecorded w s → ActsRecorded w (after w e s)
unfolding ActsRecorded acts.Ready conditions after
acts_recorded w (Admit t) s h tx l ok n i g = acts.acts_keep w (Admit t) s (λ t x. ActRecorded w (after w (Admit t) s) t x × DecidedValue t x) (recorded_holds w (after w (Admit t) s)) (λ e. ((λ p. absurd (true≢false (sym p))), (λ p. absurd (true≢false (sym p))))) (stay_recorded w (Admit t) s g)
acts_recorded w (Ask t a) s h tx l ok n i g = acts.acts_keep w (Ask t a) s (λ u x. ActRecorded w (after w (Ask t a) s) u x × DecidedValue u x) (recorded_holds w (after w (Ask t a) s)) (λ x e p. p) (stay_recorded w (Ask t a) s g)
acts_recorded w (End t a) s h tx l ok n i g =
    let r = results.outcome_none (λ x. is_ended x.next) t a s (held (λ c. holds (λ x. is_ended x.next) (outcome_of t c.outbox)) s.cells a no_cell ok.0) n in
    acts.acts_keep w (End t a) s (λ u x. ActRecorded w (after w (End t a) s) u x × DecidedValue u x) (recorded_holds w (after w (End t a) s)) (λ x v e p. ((λ q. absurd (not_placed s h t x i r e q)), (λ q. absurd (not_placed s h t x i r e (decided_placed x.status q))))) (stay_recorded w (End t a) s g)
acts_recorded w (Decide t) s h tx l ok n i g =
    acts.acts_keep w (Decide t) s (λ u x. ActRecorded w (after w (Decide t) s) u x × DecidedValue u x) (recorded_holds w (after w (Decide t) s))
    (λ x e p. ((λ q v. adds_new (is_act_commit t) (act_commit s.book.next_c (act_of t s.book.acts)) s.logs (t % w.text.logs) (has_log w s t tx l) (ap (λ z. list_any (is_act_commit t) (act_commit s.book.next_c z)) e ∙ commits_new t s.book.next_c x (acts.found_tid t x s.book.acts e) v)), decided_value s.book.next_c (is_value x.result) x.status p.1)) (stay_recorded w (Decide t) s g)
acts_recorded w e s h tx l ok n i g = acts.acts_keep w e s (λ u x. ActRecorded w (after w e s) u x × DecidedValue u x) (recorded_holds w (after w e s)) tt (stay_recorded w e s g)

-- ---- facts of batches

-- Changes that any batch may undergo leave the fact.
pub record BatchHolds (P : ℕ → Batch → Type 0) : Type 0 where
  pub placed : (k : ℕ) (b : Batch) (ps : List Declared) → P k b → P k (record b { places = ps })
  pub taken : (k : ℕ) (b : Batch) (v : Bool) → P k b → P k (record b { aborted = v })

unfoldable pub BatchReady : {C : Type 0} → Fixed C → Event → Machine C → (ℕ → Batch → Type 0) → Type 0
BatchReady w (Form k) s P = (j : ℕ) → batch_of j s.desk.batches ≡ None → P j (desk.new_batch k (ring.next_actors w.text s.ring) (ring.next_pacts w.text s.ring))
BatchReady w (End t a) s P = (k : ℕ) (b : Batch) (r : TxResult) → batch_of k s.desk.batches ≡ Some b → P k b → P k (desk.with_results t r b)
BatchReady w (Commit k) s P = (b : Batch) → batch_of k s.desk.batches ≡ Some b → P k b → P k (desk.with_stage Committing b)
BatchReady w (Settle k) s P = (b : Batch) → batch_of k s.desk.batches ≡ Some b → P k b → P k (desk.with_stage Settled b)
BatchReady w _ s P = Unit {0}

pub batch_map : (P Q : ℕ → Batch → Type 0) (f : Batch → Batch) (bs : List Batch) → ((b : Batch) → (f b).bid ≡ b.bid) → ((k : ℕ) (b : Batch) → batch_of k bs ≡ Some b → P k b → Q k (f b)) → EachBatch P bs → EachBatch Q (map f bs)
batch_map P Q f bs i k h = λ j c e. let g = marks.found_mapped f i j c bs e in subst (Q j) g.2 (k j g.0 g.1 (h j g.0 g.1))

one_changed : (P : ℕ → Batch → Type 0) (j : ℕ) (f : Batch → Batch) (bs : List Batch) → ((b : Batch) → (f b).bid ≡ b.bid) → ((b : Batch) → batch_of j bs ≡ Some b → P j b → P j (f b)) → EachBatch P bs → EachBatch P (desk.changed_batch j f bs)
one_changed P j f bs i own h = batch_map P P (λ b. desk.change_if (b.bid == j) f b) bs (λ b. if_bid (b.bid == j) f b (i b)) (λ k b e p. by k b e p (b.bid == j) refl) h
  where
    by : (k : ℕ) (b : Batch) → batch_of k bs ≡ Some b → P k b → (v : Bool) → (b.bid == j) ≡ v → P k (desk.change_if v f b)
    by k b e p true q = let n : k ≡ j = sym (eqb-true b.bid k (marks.found_bid k b bs e)) ∙ eqb-true b.bid j q in subst (λ z. P z (f b)) (sym n) (own b (subst (λ z. batch_of z bs ≡ Some b) n e) (subst (λ z. P z b) n p))
    by k b e p false q = p

pub batches_keep : {C : Type 0} (w : Fixed C) (e : Event) (s : Machine C) (P : ℕ → Batch → Type 0) → BatchHolds P → BatchReady w e s P → EachBatch P s.desk.batches → EachBatch P (after w e s).desk.batches
unfolding after BatchReady
batches_keep w (Form k) s P c r g = λ j b e. elim (marks.found_more j b _ s.desk.batches e) [ inl q ↦ g j b q | inr q ↦ subst (P j) q.1 (r j q.0) ]
batches_keep {C} w (End t a) s P c r g = by (has_act t (cell_at s a).entries) (outcome_of t (cell_at s a).outbox)
  where
    next : (n : Next C) → EachBatch P (desk.noted_for t n s.desk.batches)
    next (Go b x) = g
    next (Ended v) = batch_map P P (desk.with_results t v) s.desk.batches (λ b. refl) (λ k b e p. r k b v e p) g

    by : (v : Bool) (o : Option (Outcome C)) → EachBatch P (if v then s.desk.batches else desk.noted_from t o s.desk.batches)
    by true o = g
    by false None = g
    by false (Some x) = next x.next
batches_keep w (Note k a) s P c r g = one_changed P k (desk.marked a desk.is_noted) s.desk.batches (λ b. refl) (λ b e p. c.placed k b _ p) g
batches_keep w (Commit k) s P c r g = one_changed P k (desk.with_stage Committing) s.desk.batches (λ b. refl) r g
batches_keep w (Settle k) s P c r g = one_changed P k (desk.with_stage Settled) s.desk.batches (λ b. refl) r g
batches_keep w (Abort k) s P c r g = batch_map P P (desk.taken k) s.desk.batches (λ b. refl) (λ j b e p. c.taken j b _ p) g
batches_keep w (Trim k a) s P c r g = one_changed P k (desk.marked a desk.is_trimmed) s.desk.batches (λ b. refl) (λ b e p. c.placed k b _ p) g
batches_keep w e s P c r g = g

abbrev pub BatchRecorded : {C : Type 0} → Fixed C → Machine C → ℕ → Batch → Type 0
BatchRecorded w s k b = is_formed b.stage ≡ false → list_any (is_commit k) (log_at s (k % w.text.logs)).records ≡ true

unfoldable pub BatchesRecorded : {C : Type 0} → Fixed C → Machine C → Type 0
BatchesRecorded w s = EachBatch (BatchRecorded w s) s.desk.batches

batch_recorded_holds : {C : Type 0} (w : Fixed C) (s : Machine C) → BatchHolds (BatchRecorded w s)
batch_recorded_holds w s = record { placed = λ k b ps p. p; taken = λ k b v p. p }

stay_batches : {C : Type 0} (w : Fixed C) (e : Event) (s : Machine C) → EachBatch (BatchRecorded w s) s.desk.batches → EachBatch (BatchRecorded w (after w e s)) s.desk.batches
stay_batches w e s g = λ k b f n. record_stays w e s (is_commit k) (k % w.text.logs) (g k b f n)

pub batches_recorded : {C : Type 0} (w : Fixed C) (e : Event) (s : Machine C) → IsText w.text → length s.logs ≡ w.text.logs → IsAllowed w e s → BatchesRecorded w s → BatchesRecorded w (after w e s)
unfolding BatchesRecorded BatchReady conditions after
batches_recorded w (Form k) s tx l ok g = batches_keep w (Form k) s (BatchRecorded w (after w (Form k) s)) (batch_recorded_holds w (after w (Form k) s)) (λ j e f. absurd (true≢false f)) (stay_batches w (Form k) s g)
batches_recorded w (End t a) s tx l ok g = batches_keep w (End t a) s (BatchRecorded w (after w (End t a) s)) (batch_recorded_holds w (after w (End t a) s)) (λ k b r e p. p) (stay_batches w (End t a) s g)
batches_recorded w (Commit k) s tx l ok g = batches_keep w (Commit k) s (BatchRecorded w (after w (Commit k) s)) (batch_recorded_holds w (after w (Commit k) s)) (λ b e p f. adds_new (is_commit k) _ s.logs (k % w.text.logs) (has_log w s k tx l) (or_left (k == k) false (eq-eqb k k refl))) (stay_batches w (Commit k) s g)
batches_recorded w (Settle k) s tx l ok g = batches_keep w (Settle k) s (BatchRecorded w (after w (Settle k) s)) (batch_recorded_holds w (after w (Settle k) s)) (λ b e p f. p (committing_not_formed b.stage (and_parts (is_committing b.stage) (not b.aborted) (some_of (λ b. is_committing b.stage && not b.aborted) (batch_of k s.desk.batches) b e ok.0)).0)) (stay_batches w (Settle k) s g)
batches_recorded w e s tx l ok g = batches_keep w e s (BatchRecorded w (after w e s)) (batch_recorded_holds w (after w e s)) tt (stay_batches w e s g)

-- ---- in a quiet state what is recorded is durable

durable_in : (p : LogRecord → Bool) (logs : List Log) (l : ℕ) → (holds (λ g. nat_lt g.synced (length g.records)) (slice_get logs l) ≡ true → ⊥) → list_any p (slice_index_or logs l no_log).records ≡ true → holds (is_durable p) (slice_get logs l) ≡ true
durable_in p [] l n h = absurd (true≢false (sym h))
durable_in p (x ∷ xs) zero n h = elim (cases_lt x.synced (length x.records)) [ inl l ↦ absurd (n (lt-ltb x.synced (length x.records) l)) | inr l ↦ ap (list_any p) (take_all x.synced x.records l) ∙ h ]
durable_in p (x ∷ xs) (suc l) n h = durable_in p xs l n h

pub quiet_durable : {C : Type 0} (w : Fixed C) (s : Machine C) (p : LogRecord → Bool) (l : ℕ) → IsQuiet w s → list_any p (log_at s l).records ≡ true → holds (is_durable p) (slice_get s.logs l) ≡ true
unfolding conditions
quiet_durable w s p l q h = durable_in p s.logs l (λ e. q (Sync l) (e, tt)) h
