-- A commit of a batch has the values of its PACTs, and a commit of an ACT its value, whatever comes later.
use Rattle.std.specs.Prelude.{◌≡◌, refl, ℕ, ℤ, ◌%◌, ◌==◌, Bool, true, false, ◌&&◌, if◌then◌else◌, Option, Some, None, is_some, option_map, List, [], ◌∷◌, map}
use Rattle.std.specs.List.{AllByRecursion, list_all}
use Rattle.std.proofs.Common.{sym, ap, subst, ◌∙◌}
use Rattle.std.proofs.lemmas.Bool.{true≢false, and_parts, eqb-true}
use Rattle.snap_base.specs.declared.transactions.TxResult.{TxResult}
use Rattle.snap_base.specs.declared.transactions.TxResult.TheVariants.{Value, Fail}
use Rattle.protocol.specs.Fixed.{Fixed, Next, Go, Ended}
use Rattle.protocol.specs.Records.{LogRecord, BatchInfo, BatchComplete, BatchDone, ActPrepare, ActDone}
use Rattle.protocol.specs.Parts.{Act, Batch, Pact, Outcome, Machine}
use Rattle.protocol.specs.Events.{Event, Form, Admit, Ask, End, Complete, Sync, Commit, Prepare, Vouch, Decide, Seal, Finish}
use Rattle.protocol.specs.Words.{holds, is_value, value_of, values_of, is_live_status, is_ordered, is_ended, has_act, act_of, batch_of, outcome_of}
use Rattle.protocol.specs.Conditions.{IsAllowed, conditions}
use Rattle.protocol.specs.Contents.{Bids, PactResults}
use Rattle.protocol.specs.Effects.{after, cell_at, log_at, no_cell, act_commit, ascending}
use Rattle.protocol.specs.OnRing as ring
use Rattle.protocol.specs.OnDesk as desk
use Rattle.protocol.specs.OnBook as book
use Rattle.protocol.specs.History.{History}
use Rattle.protocol_laws.specs.Told.{EachAct}
use Rattle.protocol_laws.proofs.first.Frames.{frame}
use Rattle.protocol_laws.proofs.first.Lists.{weaker, all_found}
use Rattle.protocol_laws.proofs.machine.ControlWalk.{AllControls}
use Rattle.protocol_laws.proofs.machine.TracksKept.{held}
use Rattle.protocol_laws.proofs.machine.TurnsKept.{one_is}
use Rattle.protocol_laws.proofs.machine.Resting.{NoResult, NoneNoted}
use Rattle.protocol_laws.proofs.machine.RunOwed.{found_all}
use Rattle.protocol_laws.proofs.machine.ActResults as results
use Rattle.protocol_laws.proofs.machine.ActResults.{NoneActed}
use Rattle.protocol_laws.proofs.machine.ActsKept.{Acts}
use Rattle.protocol_laws.proofs.machine.ActsFound as acts
use Rattle.protocol_laws.proofs.machine.ActsFound.{HoldsAnyway}
use Rattle.protocol_laws.proofs.machine.CommitRecords.{not_placed}
use Rattle.protocol_laws.proofs.machine.QueuedKept.{in_book}
use Rattle.protocol_laws.proofs.first.Statuses.{live_unordered, ordered_decided, ordered_sealed}
use Rattle.protocol_records.specs.RecordLaws.{batch_results, valued}
use Rattle.protocol_records.proofs.crash.ActsSure.{found_changed, now_placed}
use Rattle.protocol_records.proofs.crash.KeptSure.{there_is}
use Rattle.protocol_records.proofs.recording.RecordLists.{each_added, each_synced, found_alike, found_more}

-- it committed, or is to, with this value
abbrev pub ActEnds : List Act → ℕ → ℤ → Type 0
ActEnds xs t v = (x : Act) × (act_of t xs ≡ Some x) × (is_ordered x.status ≡ true) × (x.result ≡ valued v)

abbrev pub ValuesAre : List Batch → List Act → LogRecord → Type 0
ValuesAre bs xs (BatchInfo k actors tids) = Unit {0}
ValuesAre bs xs (BatchComplete k a st) = Unit {0}
ValuesAre bs xs (BatchDone k vs) = option_map batch_results (batch_of k bs) ≡ Some (map valued vs)
ValuesAre bs xs (ActPrepare t a st) = Unit {0}
ValuesAre bs xs (ActDone t m c v actors) = ActEnds xs t v

unfoldable pub CommitValues : {C : Type 0} → Machine C → Type 0
CommitValues s = (l : ℕ) → AllByRecursion (ValuesAre s.desk.batches s.book.acts) (log_at s l).records

-- ---- results

is_valued : (r : Option TxResult) → is_value r ≡ true → r ≡ valued (value_of r)
is_valued (Some (Value v)) e = refl
is_valued (Some (Fail code)) e = absurd (true≢false (sym e))
is_valued None e = absurd (true≢false (sym e))

all_valued : (ps : List Pact) → list_all (λ p. is_value p.result) ps ≡ true → map (λ p. p.result) ps ≡ map valued (map (λ p. value_of p.result) ps)
all_valued [] e = refl
all_valued (p ∷ ps) e =
    let q = and_parts (is_value p.result) (list_all (λ p. is_value p.result) ps) e in
    rw (sym (is_valued p.result q.0)) (ap (λ z. p.result ∷ z) (all_valued ps q.1))

batch_valued : (o : Option Batch) → holds (λ b. list_all (λ p. is_value p.result) b.pacts) o ≡ true → option_map batch_results o ≡ Some (map valued (values_of o))
batch_valued None e = absurd (true≢false (sym e))
batch_valued (Some b) e = ap Some (all_valued b.pacts e)

-- ---- the results of a batch that committed stay

-- a result is noted of nobody who has one
noted_same : (t : ℕ) (r : TxResult) (ps : List Pact) (vs : List ℤ) → AllByRecursion (λ p. p.tid ≡ t → p.result ≡ None) ps → map (λ p. p.result) ps ≡ map valued vs → map (λ p. p.result) (map (desk.with_result t r) ps) ≡ map valued vs
noted_same t r [] vs n e = e
noted_same t r (p ∷ ps) [] n e = absurd (cc e)
noted_same t r (p ∷ ps) (v ∷ vs) n e = by (p.tid == t) refl (noted_same t r ps vs n.1 (cc e))
  where
    own : p.result ≡ valued v
    own = cc e

    by : (b : Bool) → (p.tid == t) ≡ b → map (λ p. p.result) (map (desk.with_result t r) ps) ≡ map valued vs → (if b then Some r else p.result) ∷ map (λ p. p.result) (map (desk.with_result t r) ps) ≡ valued v ∷ map valued vs
    by true f k = let q : None ≡ valued v = sym (n.0 (eqb-true p.tid t f)) ∙ own in absurd (cc q)
    by false f k = rw own (ap (λ z. valued v ∷ z) k)

noted_batch : (t : ℕ) (r : TxResult) (b : Batch) (vs : List ℤ) → AllByRecursion (λ p. p.tid ≡ t → p.result ≡ None) b.pacts → batch_results b ≡ map valued vs → batch_results (desk.with_results t r b) ≡ map valued vs
noted_batch t r b vs n e = by b.aborted
  where
    by : (v : Bool) → map (λ p. p.result) (if v then b.pacts else map (desk.with_result t r) b.pacts) ≡ map valued vs
    by true = e
    by false = noted_same t r b.pacts vs n e

noted_all : (t : ℕ) (r : TxResult) (k : ℕ) (bs : List Batch) (vs : List ℤ) → ((b : Batch) → batch_of k bs ≡ Some b → AllByRecursion (λ p. p.tid ≡ t → p.result ≡ None) b.pacts) → option_map batch_results (batch_of k bs) ≡ Some (map valued vs) → option_map batch_results (batch_of k (map (desk.with_results t r) bs)) ≡ Some (map valued vs)
noted_all t r k [] vs n e = e
noted_all t r k (b ∷ bs) vs n e = by (b.bid == k) n e (noted_all t r k bs vs)
  where
    by : (v : Bool) → ((c : Batch) → (if v then Some b else batch_of k bs) ≡ Some c → AllByRecursion (λ p. p.tid ≡ t → p.result ≡ None) c.pacts) → option_map batch_results (if v then Some b else batch_of k bs) ≡ Some (map valued vs)
        → (((c : Batch) → batch_of k bs ≡ Some c → AllByRecursion (λ p. p.tid ≡ t → p.result ≡ None) c.pacts) → option_map batch_results (batch_of k bs) ≡ Some (map valued vs) → option_map batch_results (batch_of k (map (desk.with_results t r) bs)) ≡ Some (map valued vs))
        → option_map batch_results (if v then Some (desk.with_results t r b) else batch_of k (map (desk.with_results t r) bs)) ≡ Some (map valued vs)
    by true n e f = ap Some (noted_batch t r b vs (n b refl) (cc e))
    by false n e f = f n e

batch_stays : {C : Type 0} (w : Fixed C) (e : Event) (s : Machine C) (k : ℕ) (vs : List ℤ) → IsAllowed w e s → AllControls (NoneNoted s) s → option_map batch_results (batch_of k s.desk.batches) ≡ Some (map valued vs) → option_map batch_results (batch_of k (after w e s).desk.batches) ≡ Some (map valued vs)
unfolding conditions after
batch_stays w (Form j) s k vs ok n h = found_more batch_results k (desk.new_batch j (ring.next_actors w.text s.ring) (ring.next_pacts w.text s.ring)) s.desk.batches (map valued vs) h
batch_stays {C} w (End t a) s k vs ok n h = by (has_act t (cell_at s a).entries) (outcome_of t (cell_at s a).outbox) refl
  where
    none : (x : Outcome C) → outcome_of t (cell_at s a).outbox ≡ Some x → NoResult t s.desk.batches
    none x e = let f = all_found (λ x. NoneNoted s x.tid x.next) (λ x. x.tid == t) (cell_at s a).outbox x (n.outboxes a) e in subst (λ z. NoResult z s.desk.batches) (eqb-true x.tid t f.1) f.0

    next : (m : Next C) → NoResult t s.desk.batches → option_map batch_results (batch_of k (desk.noted_for t m s.desk.batches)) ≡ Some (map valued vs)
    next (Go b x) q = h
    next (Ended r) q = noted_all t r k s.desk.batches vs (λ b e. found_all (λ b. AllByRecursion (λ p. p.tid ≡ t → p.result ≡ None) b.pacts) k b s.desk.batches e q) h

    by : (v : Bool) (o : Option (Outcome C)) → outcome_of t (cell_at s a).outbox ≡ o → option_map batch_results (batch_of k (if v then s.desk.batches else desk.noted_from t o s.desk.batches)) ≡ Some (map valued vs)
    by true o e = h
    by false None e = h
    by false (Some x) e = next x.next (none x e)
batch_stays w e s k vs ok n h = found_alike batch_results k s.desk.batches (after w e s).desk.batches (frame w e s Bids refl) (frame w e s PactResults refl) ∙ h

-- ---- the result of an ACT that committed stays

record Ends (u : ℕ) (v : ℤ) (t : ℕ) (x : Act) : Type 0 where
  placed : is_ordered x.status ≡ true
  same : x.result ≡ valued v

holds_ends : (u : ℕ) (v : ℤ) → HoldsAnyway (λ t x. t ≡ u → Ends u v t x)
holds_ends u v = record {
  numbered = λ t x n p e. let k = p e in record { placed = k.placed; same = k.same };
  doomed = λ t x v l p e. let k = p e in absurd (true≢false (sym k.placed ∙ live_unordered x.status l));
  rises = λ t n x l p e. let k = p e in absurd (true≢false (sym k.placed ∙ l));
}

ready_ends : {C : Type 0} (w : Fixed C) (e : Event) (s : Machine C) (h : History) (u : ℕ) (v : ℤ) → IsAllowed w e s → AllControls (NoneActed s) s → Acts s h → is_some (act_of u s.book.acts) ≡ true → acts.ReadyAll w e s (λ t x. t ≡ u → Ends u v t x)
unfolding acts.ReadyAll conditions
ready_ends w (Admit t) s h u v ok n i q = λ e f. absurd (true≢false (sym q ∙ ap is_some (ap (λ z. act_of z s.book.acts) (sym f) ∙ e)))
ready_ends w (Ask t a) s h u v ok n i q = λ o x e p f. let k = p f in absurd (not_placed s h t x i (results.posted_none t a s ok.0 n) e k.placed)
ready_ends w (End t a) s h u v ok n i q = λ x r e p f. let k = p f in absurd (not_placed s h t x i (results.outcome_none (λ x. is_ended x.next) t a s (held (λ c. holds (λ x. is_ended x.next) (outcome_of t c.outbox)) s.cells a no_cell ok.0) n) e k.placed)
ready_ends w (Prepare t a) s h u v ok n i q = λ x e p f. let k = p f in record { placed = k.placed; same = k.same }
ready_ends w (Vouch t a) s h u v ok n i q = λ x e p f. let k = p f in record { placed = k.placed; same = k.same }
ready_ends w (Finish t a) s h u v ok n i q = λ x e p f. let k = p f in record { placed = k.placed; same = k.same }
ready_ends w (Seal t) s h u v ok n i q = λ x e p f. let k = p f in record { placed = ordered_sealed x.status ∙ k.placed; same = k.same }
ready_ends w (Decide t) s h u v ok n i q = λ x e p f. let k = p f in record { placed = ordered_decided s.book.next_c (is_value x.result) x.status k.placed; same = k.same }
ready_ends w e s h u v ok n i q = tt

act_stays : {C : Type 0} (w : Fixed C) (e : Event) (s : Machine C) (h : History) (u : ℕ) (v : ℤ) → IsAllowed w e s → AllControls (NoneActed s) s → Acts s h → ActEnds s.book.acts u v → ActEnds (after w e s).book.acts u v
act_stays w e s h u v ok n i p =
    let k : EachAct (λ t x. t ≡ u → Ends u v t x) (after w e s).book.acts = acts.acts_change w e s (λ t x. t ≡ u → Ends u v t x) (holds_ends u v) (ready_ends w e s h u v ok n i (ap is_some p.1)) start in
    let y = one_is (λ x. true) (act_of u (after w e s).book.acts) (there_is (act_of u (after w e s).book.acts) (in_book w e s u (ap is_some p.1))) in
    let f = k u y.0 y.1 refl in
    (y.0, y.1, f.placed, f.same)
  where
    start : EachAct (λ t x. t ≡ u → Ends u v t x) s.book.acts
    start t x q f = let j : p.0 ≡ x = cc (sym p.1 ∙ (ap (λ z. act_of z s.book.acts) (sym f) ∙ q)) in record { placed = subst (λ z. is_ordered z.status ≡ true) j p.2; same = subst (λ z. z.result ≡ valued v) j p.3 }

-- ---- all records

values_stay : {C : Type 0} (w : Fixed C) (e : Event) (s : Machine C) (h : History) (rs : List LogRecord) → IsAllowed w e s → AllControls (NoneNoted s) s → AllControls (NoneActed s) s → Acts s h → AllByRecursion (ValuesAre s.desk.batches s.book.acts) rs → AllByRecursion (ValuesAre (after w e s).desk.batches (after w e s).book.acts) rs
values_stay w e s h rs ok b n i g = weaker (ValuesAre s.desk.batches s.book.acts) (ValuesAre (after w e s).desk.batches (after w e s).book.acts) rs one g
  where
    one : (r : LogRecord) → ValuesAre s.desk.batches s.book.acts r → ValuesAre (after w e s).desk.batches (after w e s).book.acts r
    one (BatchInfo k actors tids) p = tt
    one (BatchComplete k a st) p = tt
    one (BatchDone k vs) p = batch_stays w e s k vs ok b p
    one (ActPrepare t a st) p = tt
    one (ActDone t m c v actors) p = act_stays w e s h t v ok n i p

pub values_kept : {C : Type 0} (w : Fixed C) (e : Event) (s : Machine C) (h : History) → IsAllowed w e s → AllControls (NoneNoted s) s → AllControls (NoneActed s) s → Acts s h → CommitValues s → CommitValues (after w e s)
unfolding CommitValues conditions after
values_kept w (Form k) s h ok b n i g = each_added (λ l. ValuesAre (after w (Form k) s).desk.batches (after w (Form k) s).book.acts) _ s.logs (k % w.text.logs) (tt, tt) (λ l. values_stay w (Form k) s h _ ok b n i (g l))
values_kept w (Complete k a) s h ok b n i g = each_added (λ l. ValuesAre (after w (Complete k a) s).desk.batches (after w (Complete k a) s).book.acts) _ s.logs (a % w.text.logs) (tt, tt) (λ l. values_stay w (Complete k a) s h _ ok b n i (g l))
values_kept w (Commit k) s h ok b n i g = each_added (λ l. ValuesAre (after w (Commit k) s).desk.batches (after w (Commit k) s).book.acts) _ s.logs (k % w.text.logs) (batch_stays w (Commit k) s k _ ok b (batch_valued (batch_of k s.desk.batches) ok.1.0), tt) (λ l. values_stay w (Commit k) s h _ ok b n i (g l))
values_kept w (Prepare t a) s h ok b n i g = each_added (λ l. ValuesAre (after w (Prepare t a) s).desk.batches (after w (Prepare t a) s).book.acts) _ s.logs (a % w.text.logs) (tt, tt) (λ l. values_stay w (Prepare t a) s h _ ok b n i (g l))
values_kept w (Decide t) s h ok b n i g = each_added (λ l. ValuesAre (after w (Decide t) s).desk.batches (after w (Decide t) s).book.acts) _ s.logs (t % w.text.logs) own (λ l. values_stay w (Decide t) s h _ ok b n i (g l))
  where
    q : (x : Act) × (act_of t s.book.acts ≡ Some x) × ((is_some x.result && is_live_status x.status) ≡ true)
    q = one_is (λ x. is_some x.result && is_live_status x.status) (act_of t s.book.acts) ok.0

    new : List Act
    new = book.changed_act t (book.decided_as s.book.next_c) s.book.acts

    by : (x : Act) → act_of t s.book.acts ≡ Some x → is_live_status x.status ≡ true → (v : Bool) → is_value x.result ≡ v → AllByRecursion (ValuesAre s.desk.batches new) (if v then ActDone x.tid x.m s.book.next_c (value_of x.result) (ascending (map (λ p. p.actor) x.places)) ∷ [] else [])
    by x e l true f = (
      (book.decided_as s.book.next_c x, ap (λ z. act_of z new) (acts.found_tid t x s.book.acts e) ∙ found_changed t (book.decided_as s.book.next_c) x s.book.acts (λ x. refl) e, now_placed s.book.next_c (is_value x.result) x.status l, is_valued x.result f),
      tt,
    )
    by x e l false f = tt

    own : AllByRecursion (ValuesAre s.desk.batches new) (act_commit s.book.next_c (act_of t s.book.acts))
    own = subst (λ o. AllByRecursion (ValuesAre s.desk.batches new) (act_commit s.book.next_c o)) (sym q.1) (by q.0 q.1 (and_parts (is_some q.0.result) (is_live_status q.0.status) q.2).1 (is_value q.0.result) refl)
values_kept w (Sync j) s h ok b n i g = each_synced (λ l. ValuesAre s.desk.batches s.book.acts) s.logs j g
values_kept w e s h ok b n i g = λ l. values_stay w e s h _ ok b n i (g l)
