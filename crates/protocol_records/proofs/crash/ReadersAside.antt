-- The records of readers tell nothing else than the others, event by event.
use Rattle.std.specs.Prelude.{◌≡◌, refl, ℕ, ◌%◌, ◌==◌, not, Bool, true, false, ◌&&◌, ◌||◌, ◌⊎◌, if◌then◌else◌, Option, Some, None, is_some, List, [], ◌∷◌, ◌++◌, map, filter, slice_index_or}
use Rattle.std.specs.List.{AllByRecursion, list_any}
use Rattle.std.proofs.Common.{sym, ap, subst, inl, inr, ◌∙◌}
use Rattle.std.proofs.lemmas.List.{append-nil}
use Rattle.std.proofs.lemmas.Bool.{true≢false, or_right, and_parts, and_from, eqb-true, cases_Bool, false_from_ne_true, not-true}
use Rattle.snap_base.specs.declared.transactions.Tx.{Tx}
use Rattle.snap_base.specs.declared.transactions.State.{State}
use Rattle.protocol.specs.Facts.{Alone}
use Rattle.protocol.specs.Fixed.{Fixed, no_state}
use Rattle.protocol.specs.Records.{LogRecord, BatchComplete, ActPrepare, is_prepare}
use Rattle.protocol.specs.Parts.{Act, Status, Live, Doomed, Decided, Sealed, Who, OfBatch, OfAct, Machine}
use Rattle.protocol.specs.Events.{Event, Form, Arrive, Ask, Run, Complete, Sync, Commit, Rollback, Prepare, Decide, Finish, Trim}
use Rattle.protocol.specs.Words.{holds, is_who, is_value, is_doomed, is_sealed, joined_of, act_of, batch_of, lock_of, waiting_of}
use Rattle.protocol.specs.Conditions.{IsAllowed, conditions}
use Rattle.protocol.specs.Effects.{after, cell_at, log_at, no_cell}
use Rattle.protocol.specs.OnBook as book
use Rattle.protocol.specs.OnCell as cell
use Rattle.protocol.specs.History.{History, Slice, Ran, grown, not_run, completed, left_for_good, without_standing, asks, read_on, is_traceless, is_reader_act, kept_act, kept_reader, done_act, done_batch, act_view, slices_for, view_in}
use Rattle.protocol_laws.specs.Tracks.{keys_in, is_key_among, has_read}
use Rattle.protocol_laws.specs.Commits.{is_kept, last_state, reads_who}
use Rattle.protocol_records.specs.Logged.{is_sure, is_on, has_joined, BatchesSure, ActsSure, AllKeptSure, ActsStand, OnJoined, Prepared, AllThere}
use Rattle.protocol_records.specs.Telling.{One, told_states, names, AllTells, Telling, last_one, writes, RecoversEachActor, ToldRead, ToldReads, is_uncommitted_writer, NoneLater, AllNoneLater, AllAside}
use Rattle.protocol_laws.proofs.machine.TrackLists
use Rattle.protocol_laws.proofs.machine.TracksKept.{Tracked, held}
use Rattle.protocol_laws.proofs.machine.TurnsKept.{one_is}
use Rattle.protocol_laws.proofs.machine.ReadersSee.{ReadBy, AllSee, not_read, none_seen, entry_sees, reads_at}
use Rattle.protocol_laws.proofs.machine.ReadersKept.{Locks}
use Rattle.protocol_laws.proofs.machine.ActResults as results
use Rattle.protocol_laws.proofs.machine.ActsGrow.{acts_grow, grown_holds}
use Rattle.protocol_laws.proofs.machine.CommitLists
use Rattle.protocol_laws.proofs.machine.CommitsKept.{Committed, MayDecide, beside_carried}
use Rattle.protocol_laws.proofs.machine.CommitsKept as chain
use Rattle.protocol_laws.proofs.machine.Good as whole
use Rattle.protocol_laws.proofs.machine.Good.{Given}
use Rattle.protocol_laws.proofs.machine.AllGood.{AllGood}
use Rattle.protocol_laws.proofs.machine.AllGood as all
use Rattle.protocol_theorems.proofs.order.ChainsKept.{Owes}
use Rattle.protocol_theorems.proofs.order.OwedHolds.{owed}
use Rattle.protocol_theorems.proofs.order.LastLaw.{Whole}
use Rattle.protocol_records.proofs.crash.AsideLists as lists
use Rattle.protocol_records.proofs.crash.DonesSure.{has_view}
use Rattle.protocol_records.proofs.crash.Durable.{sure_stays}
use Rattle.protocol_records.proofs.crash.KeptSure.{SureOf, AtDecide, at_decide}
use Rattle.protocol_records.proofs.crash.OnLong.{on_more, on_map, ran_same, completed_same, left_same}
use Rattle.protocol_records.proofs.crash.ReadersOver.{stands_unsealed}
use Rattle.protocol_records.proofs.crash.ReadersSure.{reader_sure}
use Rattle.protocol_records.proofs.crash.RecoverLists.{all_in}
use Rattle.protocol_records.proofs.crash.RecoversKept.{ToldStep, told_step, one_batch, one_act, there_at, first_of}
use Rattle.protocol_records.proofs.crash.TellLists.{Unmarked, on_less_without, on_less_staying}
use Rattle.protocol_records.proofs.crash.TellsKept.{told_same, told_added, told_commit, told_all, none_arrives, record_result, keys_at}
use Rattle.protocol_laws.proofs.first.Lists.{all_join, filter_join, weaker, both_all}
use Rattle.protocol_laws.proofs.first.Statuses.{live_not_doomed}
use Rattle.protocol_laws.proofs.machine.MarksKept.{log_synced}
use Rattle.protocol_laws.proofs.machine.ShowsKept.{kept_join}

every : {X : Type 0} {P : X → Type 0} (xs : List X) → ((x : X) → P x) → AllByRecursion P xs
every [] k = tt
every (x ∷ xs) k = (k x, every xs k)

-- ---- what a reader has read is what its record tells

-- who has a record of the actor
told_at : {C : Type 0} → Fixed C → Machine C → ℕ → List One
told_at w s a = told_states a (log_at s (a % w.text.logs)).records

new_batch : (zs : List Slice) (k : ℕ) (st : State) (v : Bool) → AllByRecursion (ToldRead zs) (if v then record { who = OfBatch k; state = st } ∷ [] else [])
new_batch zs k st true = (every zs (λ z e. absurd (true≢false (sym e))), tt)
new_batch zs k st false = tt

-- the state that a reader has seen is the one that it is told of
prepared_reads : {C : Type 0} (w : Fixed C) (Of : Tx → C → Type 0) (finish : C → List State → Alone) (t a : ℕ) (s : Machine C) (h : History) → IsAllowed w (Prepare t a) s → AllGood w Of finish s h → ActsSure w s → ActsStand s h → ToldRead (h.reads a) (record { who = OfAct t; state = (cell_at s a).state })
unfolding conditions ActsSure ActsStand ReadBy AllSee Locks
prepared_reads w Of finish t a s h ok g su st = weaker (λ z. z.tid ≡ t → (z.found ≡ now) × (z.left ≡ now)) (λ z. (t == z.tid) ≡ true → z.found ≡ now) (h.reads a) (λ z k q. (k (sym (eqb-true t z.tid q))).0) (seen (cases_Bool (has_read (h.reads a) t)))
  where
    now : State
    now = (cell_at s a).state

    seen : (has_read (h.reads a) t ≡ true) ⊎ (has_read (h.reads a) t ≡ false) → AllByRecursion (λ z. z.tid ≡ t → (z.found ≡ now) × (z.left ≡ now)) (h.reads a)
    seen (inr n) = none_seen now t (h.reads a) n
    seen (inl r) =
        let x = one_is (λ x. is_value x.result && not (is_doomed x.status)) (act_of t s.book.acts) ok.0 in
        let v = and_parts (is_value x.0.result) (not (is_doomed x.0.status)) x.2 in
        let y = one_is (λ x. holds (λ p. not p.prepared) (joined_of a x)) (act_of t s.book.acts) ok.1.0 in
        let p = one_is (λ p. not p.prepared) (joined_of a y.0) y.2 in
        let same : y.0 ≡ x.0 = cc (sym y.1 ∙ x.1) in
        let unsealed : is_sealed x.0.status ≡ false = false_from_ne_true (is_sealed x.0.status) (λ q.
        let vouched : p.0.vouched ≡ true = Rattle.protocol_records.proofs.crash.KeptSure.list_all_at (λ p. p.actor == a) (λ p. p.vouched) p.0 x.0.places (ap (joined_of a) (sym same) ∙ p.1) ((su t x.0 x.1).everywhere (or_right (Rattle.protocol.specs.Words.is_decided x.0.status) _ q) v.0) in
        true≢false (sym ((st t x.0 x.1).first a p.0 (ap (joined_of a) (sym same) ∙ p.1) vouched) ∙ not-true p.0.prepared p.2)) in
        let reads = reads_here x.0 x.1 in
        let u = and_parts x.0.reader (has_joined a x.0) reads in
        entry_sees s.book.acts now t (h.reads a) (cell_at s a).entries (g.locks a) (ap is_reader_act x.1 ∙ u.0) (stands_unsealed s t a x.0 g.left g.standing x.1 (not-true (is_doomed x.0.status) v.1) unsealed u.1) (g.see a)
      where
        reads_here : (x : Act) → act_of t s.book.acts ≡ Some x → (x.reader && has_joined a x) ≡ true
        reads_here x e = elim (cases_Bool (x.reader && has_joined a x)) [
          | inl q ↦ q
          | inr q ↦ absurd (true≢false (sym r ∙ not_read a t s.book.acts (h.reads a) (subst (λ o. holds (reads_at a) o ≡ false) (sym e) q) (g.read_by a)))
        ]

pub reads_told : {C : Type 0} (w : Fixed C) (Of : Tx → C → Type 0) (finish : C → List State → Alone) (e : Event) (s : Machine C) (h : History) → IsAllowed w e s → AllGood w Of finish s h → ActsSure w s → ActsStand s h → Prepared w s → ToldReads w s h → ToldReads w (after w e s) (grown w e s h)
unfolding ToldReads conditions after grown
reads_told w Of finish (Form k) s h ok g su st pr q = λ a. subst (AllByRecursion (ToldRead (h.reads a))) (sym (told_same a _ s.logs (k % w.text.logs) (a % w.text.logs) refl)) (q a)
reads_told w Of finish (Commit k) s h ok g su st pr q = λ a. subst (AllByRecursion (ToldRead (h.reads a))) (sym (told_same a _ s.logs (k % w.text.logs) (a % w.text.logs) refl)) (q a)
reads_told w Of finish (Decide t) s h ok g su st pr q = λ a. subst (AllByRecursion (ToldRead (h.reads a))) (sym (told_same a _ s.logs (t % w.text.logs) (a % w.text.logs) (told_commit a s.book.next_c (act_of t s.book.acts)))) (q a)
reads_told w Of finish (Sync l) s h ok g su st pr q = λ a. subst (AllByRecursion (ToldRead (h.reads a))) (sym (ap (told_states a) (log_synced s.logs l (a % w.text.logs)))) (q a)
reads_told w Of finish (Run t b) s h ok g su st pr q = beside_carried (λ c zs. AllByRecursion (ToldRead zs) (told_states c (log_at s (c % w.text.logs)).records)) b _ h.reads (λ k. more (cell.reads_on t (cell_at s b).entries) k) q
  where
    ran : Slice
    ran = record { tid = t; found = (cell_at s b).state; left = (cell.slice_run w.code t b (cell_at s b)).state }

    others : AllByRecursion (λ o. is_who o.who (OfAct t) ≡ false) (told_states b (log_at s (b % w.text.logs)).records)
    others = told_all (λ y. is_who y (OfAct t) ≡ false) b (log_at s (b % w.text.logs)).records (λ j r. refl)
        (λ j r. false_from_ne_true (j == t) (λ e. record_result w s j b pr r (subst (λ u. results.NoActResult u s.book.acts) (sym (eqb-true j t e)) (results.waiting_none t b s (held (λ c. is_some (waiting_of t c.inbox)) s.cells b no_cell ok.0) g.none))))

    more : (v : Bool) → AllByRecursion (ToldRead (h.reads b)) (told_states b (log_at s (b % w.text.logs)).records) → AllByRecursion (ToldRead (read_on v ran (h.reads b))) (told_states b (log_at s (b % w.text.logs)).records)
    more true k = both_all (ToldRead (h.reads b)) (λ o. is_who o.who (OfAct t) ≡ false) (ToldRead (h.reads b ++ ran ∷ [])) (told_states b (log_at s (b % w.text.logs)).records) (λ o p n. all_join (λ z. is_who o.who (OfAct z.tid) ≡ true → z.found ≡ o.state) (h.reads b) (ran ∷ []) p ((λ e. absurd (true≢false (sym e ∙ n))), tt)) k others
    more false k = k
reads_told w Of finish (Complete k b) s h ok g su st pr q = λ a. elim (told_added a (BatchComplete k b (cell_at s b).state ∷ []) s.logs (b % w.text.logs) (a % w.text.logs)) [
  | inl e ↦ subst (AllByRecursion (ToldRead (h.reads a))) (sym e) (q a)
  | inr e ↦ subst (AllByRecursion (ToldRead (h.reads a))) (sym e) (all_join (ToldRead (h.reads a)) (told_states a (log_at s (a % w.text.logs)).records) (told_states a (BatchComplete k b (cell_at s b).state ∷ [])) (q a) (new_batch (h.reads a) k (cell_at s b).state (b == a)))
]
reads_told w Of finish (Prepare t b) s h ok g su st pr q = λ a. elim (told_added a (ActPrepare t b (cell_at s b).state ∷ []) s.logs (b % w.text.logs) (a % w.text.logs)) [
  | inl e ↦ subst (AllByRecursion (ToldRead (h.reads a))) (sym e) (q a)
  | inr e ↦ subst (AllByRecursion (ToldRead (h.reads a))) (sym e) (all_join (ToldRead (h.reads a)) (told_states a (log_at s (a % w.text.logs)).records) (told_states a (ActPrepare t b (cell_at s b).state ∷ [])) (q a) (new_act a (b == a) refl))
]
  where
    new_act : (a : ℕ) (v : Bool) → (b == a) ≡ v → AllByRecursion (ToldRead (h.reads a)) (if v then record { who = OfAct t; state = (cell_at s b).state } ∷ [] else [])
    new_act a true e = (subst (λ n. ToldRead (h.reads n) (record { who = OfAct t; state = (cell_at s b).state })) (eqb-true b a e) (prepared_reads w Of finish t b s h ok g su st), tt)
    new_act a false e = tt
reads_told w Of finish e s h ok g su st pr q = q

-- ---- who was on the actor

on_asked : {C : Type 0} (w : Fixed C) (s : Machine C) (h : History) (t b : ℕ) (o : Option ℕ) → Prepared w s → results.NoActResult t s.book.acts → AllByRecursion (λ o. is_on o.who (h.long b) ≡ true → is_on o.who (h.long b) ≡ true) (told_states b (log_at s (b % w.text.logs)).records)
    → AllByRecursion (λ x. is_on x.who (h.long b ++ map not_run (asks t o)) ≡ true → is_on x.who (h.long b) ≡ true) (told_states b (log_at s (b % w.text.logs)).records)
on_asked w s h t b (Some older) pr n k = subst (λ rs. AllByRecursion (λ x. is_on x.who rs ≡ true → is_on x.who (h.long b) ≡ true) (told_states b (log_at s (b % w.text.logs)).records)) (sym (append-nil (h.long b))) k
on_asked w s h t b None pr n k = told_all (λ y. is_on y (h.long b ++ not_run (OfAct t) ∷ []) ≡ true → is_on y (h.long b) ≡ true) b (log_at s (b % w.text.logs)).records (λ j r o. sym (on_more (OfBatch j) (OfAct t) (h.long b) refl) ∙ o)
    (λ j r o. sym (on_more (OfAct j) (OfAct t) (h.long b) (false_from_ne_true (t == j) (λ e. record_result w s j b pr r (subst (λ u. results.NoActResult u s.book.acts) (eqb-true t j e) n)))) ∙ o)

on_finished : (t : ℕ) (v : Bool) (rs : List Ran) (y : Who) → is_on y (if v then without_standing (OfAct t) rs else map (left_for_good (OfAct t)) rs) ≡ true → is_on y rs ≡ true
on_finished t true rs y o = on_less_without y (OfAct t) rs o
on_finished t false rs y o = sym (on_map y (left_for_good (OfAct t)) rs (left_same y (OfAct t))) ∙ o

-- who has a record of an actor, and is on it, was on it
was_on : {C : Type 0} (w : Fixed C) (Of : Tx → C → Type 0) (finish : C → List State → Alone) (e : Event) (s : Machine C) (h : History) → IsAllowed w e s → AllGood w Of finish s h → Prepared w s → (a : ℕ) → AllByRecursion (λ o. is_on o.who ((grown w e s h).long a) ≡ true → is_on o.who (h.long a) ≡ true) (told_states a (log_at s (a % w.text.logs)).records)
unfolding conditions grown
was_on w Of finish (Arrive k b) s h ok g pr = beside_carried (λ c rs. AllByRecursion (λ o. is_on o.who rs ≡ true → is_on o.who (h.long c) ≡ true) (told_states c (log_at s (c % w.text.logs)).records)) b _ h.long
    (λ i. told_all (λ y. is_on y (h.long b ++ not_run (OfBatch k) ∷ []) ≡ true → is_on y (h.long b) ≡ true) b (log_at s (b % w.text.logs)).records (λ j r o. sym (on_more (OfBatch j) (OfBatch k) (h.long b) (none_arrives w Of finish k b s h ok g j r)) ∙ o) (λ j r o. sym (on_more (OfAct j) (OfBatch k) (h.long b) refl) ∙ o))
    (λ c. every (told_states c (log_at s (c % w.text.logs)).records) (λ o q. q))
was_on w Of finish (Ask t b) s h ok g pr = beside_carried (λ c rs. AllByRecursion (λ o. is_on o.who rs ≡ true → is_on o.who (h.long c) ≡ true) (told_states c (log_at s (c % w.text.logs)).records)) b _ h.long
    (λ i. on_asked w s h t b (book.in_the_way (lock_of t s.book.acts) (cell_at s b).entries) pr (results.posted_none t b s ok.0 g.none) i)
    (λ c. every (told_states c (log_at s (c % w.text.logs)).records) (λ o q. q))
was_on w Of finish (Run t b) s h ok g pr = beside_carried (λ c rs. AllByRecursion (λ o. is_on o.who rs ≡ true → is_on o.who (h.long c) ≡ true) (told_states c (log_at s (c % w.text.logs)).records)) b _ h.long
    (λ i. TrackLists.on_reads (λ rs. AllByRecursion (λ o. is_on o.who rs ≡ true → is_on o.who (h.long b) ≡ true) (told_states b (log_at s (b % w.text.logs)).records)) (cell.reads_on t (cell_at s b).entries) _ _ (h.long b) (λ j. every (told_states b (log_at s (b % w.text.logs)).records) (λ o q. sym (on_map o.who _ (h.long b) (ran_same o.who _ _)) ∙ q)) i)
    (λ c. every (told_states c (log_at s (c % w.text.logs)).records) (λ o q. q))
was_on w Of finish (Complete k b) s h ok g pr = beside_carried (λ c rs. AllByRecursion (λ o. is_on o.who rs ≡ true → is_on o.who (h.long c) ≡ true) (told_states c (log_at s (c % w.text.logs)).records)) b _ h.long
    (λ i. every (told_states b (log_at s (b % w.text.logs)).records) (λ o q. sym (on_map o.who (completed k) (h.long b) (completed_same o.who k)) ∙ q))
    (λ c. every (told_states c (log_at s (c % w.text.logs)).records) (λ o q. q))
was_on w Of finish (Rollback b) s h ok g pr = beside_carried (λ c rs. AllByRecursion (λ o. is_on o.who rs ≡ true → is_on o.who (h.long c) ≡ true) (told_states c (log_at s (c % w.text.logs)).records)) b _ h.long
    (λ i. every (told_states b (log_at s (b % w.text.logs)).records) (λ o q. on_less_staying o.who s.book.cascades (h.long b) q))
    (λ c. every (told_states c (log_at s (c % w.text.logs)).records) (λ o q. q))
was_on w Of finish (Finish t b) s h ok g pr = beside_carried (λ c rs. AllByRecursion (λ o. is_on o.who rs ≡ true → is_on o.who (h.long c) ≡ true) (told_states c (log_at s (c % w.text.logs)).records)) b _ h.long
    (λ i. every (told_states b (log_at s (b % w.text.logs)).records) (λ o q. on_finished t (is_traceless (act_of t s.book.acts)) (h.long b) o.who q))
    (λ c. every (told_states c (log_at s (c % w.text.logs)).records) (λ o q. q))
was_on w Of finish (Trim k b) s h ok g pr = beside_carried (λ c rs. AllByRecursion (λ o. is_on o.who rs ≡ true → is_on o.who (h.long c) ≡ true) (told_states c (log_at s (c % w.text.logs)).records)) b _ h.long
    (λ i. every (told_states b (log_at s (b % w.text.logs)).records) (λ o q. sym (on_map o.who (left_for_good (OfBatch k)) (h.long b) (left_same o.who (OfBatch k))) ∙ q))
    (λ c. every (told_states c (log_at s (c % w.text.logs)).records) (λ o q. q))
was_on w Of finish e s h ok g pr = λ a. every (told_states a (log_at s (a % w.text.logs)).records) (λ o q. q)

-- the book's readers stay so
reads_on_still : {C : Type 0} (w : Fixed C) (e : Event) (s : Machine C) (y : Who) → reads_who s.book.acts y ≡ true → reads_who (after w e s).book.acts y ≡ true
reads_on_still w e s (OfBatch k) q = q
reads_on_still w e s (OfAct t) q = grown_holds (λ x. x.reader) s.book.acts (after w e s).book.acts t (λ x y k q. k.reader ∙ q) (acts_grow w e s) q

-- ---- a reader gets its place

-- where it has a record it stands, and has read
record ReadsThere {C : Type 0} (s : Machine C) (h : History) (t a : ℕ) : Type 0 where
  act : Act
  is_it : act_of t s.book.acts ≡ Some act
  may : MayDecide s h t act
  reader : act.reader ≡ true
  view : is_some (act_view h act a) ≡ true
  read : has_read (h.reads a) t ≡ true
  stands : is_key_among (OfAct t) (keys_in (h.long a)) ≡ true

-- who is named has a record
named_logged : (t a : ℕ) (rs : List LogRecord) → names (OfAct t) (told_states a rs) ≡ true → list_any (is_prepare t a) rs ≡ true
named_logged t a rs n = elim (cases_Bool (list_any (is_prepare t a) rs)) [
  | inl q ↦ q
  | inr q ↦ absurd (true≢false (sym n ∙ none (told_states a rs) (told_all (λ y. is_who (OfAct t) y ≡ false) a rs (λ j r. refl) (λ u r. false_from_ne_true (t == u) (λ e. true≢false (sym (subst (λ z. list_any (is_prepare z a) rs ≡ true) (sym (eqb-true t u e)) r) ∙ q))))))
]
  where
    none : (os : List One) → AllByRecursion (λ o. is_who (OfAct t) o.who ≡ false) os → names (OfAct t) os ≡ false
    none [] h = refl
    none (o ∷ os) h = rw (h.0, none os h.1) refl

reads_there : {C : Type 0} (w : Fixed C) (Of : Tx → C → Type 0) (finish : C → List State → Alone) (t a : ℕ) (s : Machine C) (h : History) → Given w Of finish → IsAllowed w (Decide t) s → AllGood w Of finish s h → Whole w Of finish s h → Prepared w s → (x : AtDecide s h t) → x.act.reader ≡ true → names (OfAct t) (told_states a (log_at s (a % w.text.logs)).records) ≡ true → ReadsThere s h t a
unfolding chain.Assumed Owes Prepared Tracked
reads_there {C} w Of finish t a s h v ok g wh pr x r n =
    let m = whole.for_chain w Of finish (Decide t) s h v ok (all.owes w Of finish (Decide t) s h v ok g) g.good in
    let same : x.act ≡ m.0 = cc (sym x.found ∙ m.1.is_it) in
    let y = one_is (λ y. is_value y.result && has_joined a y) (act_of t s.book.acts) (pr t a (named_logged t a (log_at s (a % w.text.logs)).records n)) in
    let place : has_joined a x.act ≡ true = let z : y.0 ≡ x.act = cc (sym y.1 ∙ x.found) in subst (λ u. has_joined a u ≡ true) z (and_parts (is_value y.0.result) (has_joined a y.0) y.2).1 in
    let stands : is_key_among (OfAct t) (keys_in (h.long a)) ≡ true = subst (λ z. is_key_among (OfAct t) z ≡ true) (g.good.tracked a).stands (stands_unsealed s t a x.act g.left g.standing x.found (live_not_doomed x.act.status x.live) (unsealed x.act.status x.live) place) in
    let view : is_some (act_view h x.act a) ≡ true = (owed w Of finish (Decide t) s h v ok wh.once g).placing x.act x.found a stands in
    record { act = x.act; is_it = x.found; may = subst (λ z. MayDecide s h t z) (sym same) m.1; reader = r; view = view; read = has_view t a h x.act x.tid r view; stands = stands }
  where
    unsealed : (st : Status) → Rattle.protocol.specs.Words.is_live_status st ≡ true → is_sealed st ≡ false
    unsealed Live e = refl
    unsealed (Doomed d) e = absurd (true≢false (sym e))
    unsealed (Decided c) e = refl
    unsealed (Sealed c) e = absurd (true≢false (sym e))

-- then none that has a record there is open
none_open_there : {C : Type 0} (w : Fixed C) (Of : Tx → C → Type 0) (finish : C → List State → Alone) (t a : ℕ) (s : Machine C) (h : History) → AllGood w Of finish s h → Telling w s h → ReadsThere s h t a → AllByRecursion (λ o. is_uncommitted_writer (reads_who s.book.acts) h.kept (h.long a) o.who ≡ false) (told_states a (log_at s (a % w.text.logs)).records)
unfolding Committed Telling
none_open_there w Of finish t a s h g te r = each (told_states a (log_at s (a % w.text.logs)).records) (te a)
  where
    unmarked : Unmarked (OfAct t) (h.long a)
    unmarked = keys_at w s h a (OfAct t) g.good.tracked (TrackLists.acts_not_complete t (cell_at s a).entries)

    closed : (o : One) (os : List One) → (reads_who s.book.acts o.who ≡ false → Rattle.protocol_records.specs.Telling.TellsState (slice_index_or w.text.opening.states a no_state) o.who o.state os (h.long a)) → is_uncommitted_writer (reads_who s.book.acts) h.kept (h.long a) o.who ≡ true → ⊥
    closed o os k e =
        let p = and_parts (is_on o.who (h.long a)) (not (is_kept o.who h.kept) && not (reads_who s.book.acts o.who)) e in
        let q = and_parts (not (is_kept o.who h.kept)) (not (reads_who s.book.acts o.who)) p.1 in
        let ro : reads_who s.book.acts o.who ≡ false = not-true (reads_who s.book.acts o.who) q.1 in
        let other : is_who (OfAct t) o.who ≡ false = false_from_ne_true (is_who (OfAct t) o.who) (λ i. true≢false (sym (ap is_reader_act r.is_it ∙ r.reader) ∙ (ap (reads_who s.book.acts) (TrackLists.is_who_true (OfAct t) o.who i) ∙ ro))) in
        lists.none_is_open s.book.acts h.kept (OfAct t) o.who (slice_index_or w.text.opening.states a no_state) o.state os (h.long a) other (g.good.committed a).front unmarked (r.may.around r.reader a r.view) r.stands (k ro) p.0 (not-true (is_kept o.who h.kept) q.0) ro

    each : (os : List One) → AllTells (reads_who s.book.acts) (slice_index_or w.text.opening.states a no_state) os (h.long a) → AllByRecursion (λ o. is_uncommitted_writer (reads_who s.book.acts) h.kept (h.long a) o.who ≡ false) os
    each [] k = tt
    each (o ∷ os) k = (false_from_ne_true (is_uncommitted_writer (reads_who s.book.acts) h.kept (h.long a) o.who) (λ e. closed o os k.0 e), each os k.1)

-- ---- behind the record of one that is open no reader's record is that committed

none_step : (f : Who → Bool) (kept readers : List Who) (os os' : List One) → ToldStep kept readers os os' → NoneLater f readers os → NoneLater f readers os'
none_step f kept readers os os' (inl e) h = subst (NoneLater f readers) (sym e) h
none_step f kept readers os os' (inr n) h = subst (NoneLater f readers) (sym n.1) (lists.none_more f readers os n.0 n.3 h)

pub none_later_kept : {C : Type 0} (w : Fixed C) (Of : Tx → C → Type 0) (finish : C → List State → Alone) (e : Event) (s : Machine C) (h : History) → Given w Of finish → IsAllowed w e s → AllGood w Of finish s h → Whole w Of finish s h → ActsSure w s → ActsStand s h → Prepared w s → Telling w s h → AllNoneLater w s h → AllNoneLater w (after w e s) (grown w e s h)
unfolding AllNoneLater grown after
none_later_kept w Of finish (Commit k) s h v ok g wh su st pr te q = λ a.
    none_step (is_uncommitted_writer (reads_who (after w (Commit k) s).book.acts) (h.kept ++ OfBatch k ∷ []) (h.long a)) h.kept h.kept_readers (told_states a (log_at s (a % w.text.logs)).records) (told_states a (log_at (after w (Commit k) s) (a % w.text.logs)).records) (told_step w Of finish (Commit k) s h a ok g su st)
    (lists.none_weaker (is_uncommitted_writer (reads_who s.book.acts) h.kept (h.long a)) (is_uncommitted_writer (reads_who (after w (Commit k) s).book.acts) (h.kept ++ OfBatch k ∷ []) (h.long a)) h.kept_readers (told_states a (log_at s (a % w.text.logs)).records)
    (every (told_states a (log_at s (a % w.text.logs)).records) (λ o. lists.open_less (reads_who s.book.acts) (reads_who (after w (Commit k) s).book.acts) h.kept (h.kept ++ OfBatch k ∷ []) (h.long a) (h.long a) o.who (λ i. i) (λ i. kept_join o.who h.kept (OfBatch k ∷ []) i) (λ i. reads_on_still w (Commit k) s o.who i))) (q a))
none_later_kept {C} w Of finish (Decide t) s h v ok g wh su st pr te q = λ a.
    none_step (is_uncommitted_writer (reads_who (after w (Decide t) s).book.acts) (h.kept ++ kept_act (act_of t s.book.acts)) (h.long a)) h.kept (h.kept_readers ++ kept_reader (act_of t s.book.acts)) (told_states a (log_at s (a % w.text.logs)).records) (told_states a (log_at (after w (Decide t) s) (a % w.text.logs)).records)
    (inl (told_same a _ s.logs (t % w.text.logs) (a % w.text.logs) (told_commit a s.book.next_c (act_of t s.book.acts))))
    (lists.none_weaker (is_uncommitted_writer (reads_who s.book.acts) h.kept (h.long a)) (is_uncommitted_writer (reads_who (after w (Decide t) s).book.acts) (h.kept ++ kept_act (act_of t s.book.acts)) (h.long a)) (h.kept_readers ++ kept_reader (act_of t s.book.acts)) (told_states a (log_at s (a % w.text.logs)).records)
    (every (told_states a (log_at s (a % w.text.logs)).records) (λ o. lists.open_less (reads_who s.book.acts) (reads_who (after w (Decide t) s).book.acts) h.kept (h.kept ++ kept_act (act_of t s.book.acts)) (h.long a) (h.long a) o.who (λ i. i) (λ i. kept_join o.who h.kept (kept_act (act_of t s.book.acts)) i) (λ i. reads_on_still w (Decide t) s o.who i))) (one a))
  where
    one : (a : ℕ) → NoneLater (is_uncommitted_writer (reads_who s.book.acts) h.kept (h.long a)) (h.kept_readers ++ kept_reader (act_of t s.book.acts)) (told_states a (log_at s (a % w.text.logs)).records)
    one a = let x = at_decide w Of finish t s h ok g in
        subst (λ o. NoneLater (is_uncommitted_writer (reads_who s.book.acts) h.kept (h.long a)) (h.kept_readers ++ kept_reader o) (told_states a (log_at s (a % w.text.logs)).records)) (sym x.found) (by x (is_value x.act.result) (cases_Bool x.act.reader))
      where
        none : (x : AtDecide s h t) (us : List Who) → us ≡ [] → NoneLater (is_uncommitted_writer (reads_who s.book.acts) h.kept (h.long a)) (h.kept_readers ++ us) (told_states a (log_at s (a % w.text.logs)).records)
        none x us e = subst (λ z. NoneLater (is_uncommitted_writer (reads_who s.book.acts) h.kept (h.long a)) z (told_states a (log_at s (a % w.text.logs)).records)) (sym (ap (λ z. h.kept_readers ++ z) e ∙ append-nil h.kept_readers)) (q a)

        by : (x : AtDecide s h t) (b : Bool) → (x.act.reader ≡ true) ⊎ (x.act.reader ≡ false) → NoneLater (is_uncommitted_writer (reads_who s.book.acts) h.kept (h.long a)) (h.kept_readers ++ (if b && x.act.reader then OfAct x.act.tid ∷ [] else [])) (told_states a (log_at s (a % w.text.logs)).records)
        by x b (inr r) = none x _ (off b x.act.reader r)
          where
            off : (b v : Bool) → v ≡ false → (if b && v then OfAct x.act.tid ∷ [] else []) ≡ []
            off true true e = absurd (true≢false e)
            off true false e = refl
            off false v e = refl
        by x false (inl r) = none x [] refl
        by x true (inl r) =
            let us : (if x.act.reader then OfAct x.act.tid ∷ [] else []) ≡ OfAct t ∷ [] = rw (r, x.tid) refl in
            subst (λ z. NoneLater (is_uncommitted_writer (reads_who s.book.acts) h.kept (h.long a)) (h.kept_readers ++ z) (told_states a (log_at s (a % w.text.logs)).records)) (sym us)
            (lists.reader_commits (is_uncommitted_writer (reads_who s.book.acts) h.kept (h.long a)) (OfAct t) h.kept_readers (told_states a (log_at s (a % w.text.logs)).records) (λ n. none_open_there w Of finish t a s h g te (reads_there w Of finish t a s h v ok g wh pr x r n)) (q a))
none_later_kept w Of finish e s h v ok g wh su st pr te q = λ a.
    none_step (is_uncommitted_writer (reads_who (after w e s).book.acts) h.kept ((grown w e s h).long a)) h.kept h.kept_readers (told_states a (log_at s (a % w.text.logs)).records) (told_states a (log_at (after w e s) (a % w.text.logs)).records) (told_step w Of finish e s h a ok g su st)
    (lists.none_weaker (is_uncommitted_writer (reads_who s.book.acts) h.kept (h.long a)) (is_uncommitted_writer (reads_who (after w e s).book.acts) h.kept ((grown w e s h).long a)) h.kept_readers (told_states a (log_at s (a % w.text.logs)).records)
    (weaker (λ o. is_on o.who ((grown w e s h).long a) ≡ true → is_on o.who (h.long a) ≡ true) (λ o. is_uncommitted_writer (reads_who (after w e s).book.acts) h.kept ((grown w e s h).long a) o.who ≡ true → is_uncommitted_writer (reads_who s.book.acts) h.kept (h.long a) o.who ≡ true) (told_states a (log_at s (a % w.text.logs)).records)
    (λ o k. lists.open_less (reads_who s.book.acts) (reads_who (after w e s).book.acts) h.kept h.kept (h.long a) ((grown w e s h).long a) o.who k (λ i. i) (λ i. reads_on_still w e s o.who i)) (was_on w Of finish e s h ok g pr a)) (q a))

-- ---- what they tell

abbrev IsAside : State → (Who → Bool) → List Who → List Who → List One → Type 0
IsAside first P kept readers os = last_one first (filter (λ o. P o.who && (is_kept o.who kept || is_kept o.who readers)) os) ≡ last_one first (filter (λ o. P o.who && is_kept o.who kept) os)

aside_step : (first : State) (P : Who → Bool) (kept readers : List Who) (os os' : List One) → ToldStep kept readers os os' → IsAside first P kept readers os → IsAside first P kept readers os'
aside_step first P kept readers os os' (inl e) h = subst (IsAside first P kept readers) (sym e) h
aside_step first P kept readers os os' (inr n) h = subst (IsAside first P kept readers) (sym n.1)
    (ap (last_one first) (without (λ o. P o.who && (is_kept o.who kept || is_kept o.who readers)) (out (P n.0.who) (is_kept n.0.who kept) (is_kept n.0.who readers) n.2 n.3)) ∙ (h ∙ sym (ap (last_one first) (without (λ o. P o.who && is_kept o.who kept) (no (P n.0.who) (is_kept n.0.who kept) n.2)))))
  where
    out : (u v x : Bool) → v ≡ false → x ≡ false → (u && (v || x)) ≡ false
    out true v x e f = rw (e, f) refl
    out false v x e f = refl

    no : (u v : Bool) → v ≡ false → (u && v) ≡ false
    no true v e = e
    no false v e = refl

    without : (p : One → Bool) → p n.0 ≡ false → filter p (os ++ n.0 ∷ []) ≡ filter p os
    without p e = filter_join p os (n.0 ∷ []) ∙ (ap (λ z. filter p os ++ z) (rw e refl) ∙ append-nil (filter p os))

-- all that committed there and does not only read is in the set, so its last one leaves the state that the actor has
last_is_now : {C : Type 0} (w : Fixed C) (Of : Tx → C → Type 0) (finish : C → List State → Alone) (t a : ℕ) (s : Machine C) (h : History) (sure P : Who → Bool) → IsAllowed w (Decide t) s → AllGood w Of finish s h → SureOf sure s h → ((y : Who) → sure y ≡ true → P y ≡ true) → AllThere h → Whole w Of finish s h → ReadsThere s h t a
    → last_state a (first_of w a) (filter (λ d. P d.who && writes d) h.committed) ≡ (cell_at s a).state
unfolding Committed Tracked AllThere
last_is_now w Of finish t a s h sure P ok g su up th wh r =
    all_in a (λ d. P d.who && writes d) (first_of w a) h.committed
    (weaker (λ d. is_some (d.views a) ≡ true → writes d ≡ true → (is_kept d.who h.kept ≡ true) × (is_on d.who (h.long a) ≡ true)) (λ d. is_some (d.views a) ≡ true → writes d ≡ true → (P d.who && writes d) ≡ true) h.committed
    (λ d k c e. let i = k c e in and_from (P d.who) (writes d) (up d.who (reader_sure w Of finish t a s h sure ok g su (ap is_reader_act r.is_it ∙ r.reader) r.read r.stands d.who i.0 i.1)) e) (there_at h.kept h.long a h.committed th))
    (wh.ordered.stills a) (g.good.committed a).links
    ∙ sym (CommitLists.now_last (first_of w a) (cell_at s a).state (last_state a (first_of w a) h.committed) h.kept (h.long a) (g.good.committed a).front ((r.may.reads r.reader a).all_kept seen) (g.good.committed a).ends (g.good.tracked a).links)
  where
    seen : is_some (view_in t (h.reads a)) ≡ true
    seen = subst (λ n. is_some (view_in n (h.reads a)) ≡ true) r.may.tid (subst (λ v. is_some (view_in r.act.tid (slices_for v r.act.tid (h.reads a) (h.long a))) ≡ true) r.reader r.view)

pub aside_kept : {C : Type 0} (w : Fixed C) (Of : Tx → C → Type 0) (finish : C → List State → Alone) (e : Event) (s : Machine C) (h : History) → Given w Of finish → IsAllowed w e s → AllGood w Of finish s h → Whole w Of finish s h → BatchesSure w s → ActsSure w s → ActsStand s h → OnJoined s h → Prepared w s → AllThere h → Telling w s h → SureOf (is_sure w.text.logs s.logs) s h → AllKeptSure w s h → RecoversEachActor w s h → ToldReads w s h → AllNoneLater w s h → AllAside w s h
    → AllAside w (after w e s) (grown w e s h)
unfolding AllAside AllNoneLater AllKeptSure RecoversEachActor ToldReads grown after
aside_kept w Of finish (Commit k) s h v ok g wh b su st j pr th te so ks rc tr nl q = λ a P up.
    let c = one_batch w Of finish k a s h v ok g b st pr th te wh in
    subst (IsAside (first_of w a) P (h.kept ++ OfBatch k ∷ []) h.kept_readers) (sym (told_same a _ s.logs (k % w.text.logs) (a % w.text.logs) refl))
    (lists.aside_commits a (reads_who s.book.acts) (is_uncommitted_writer (reads_who s.book.acts) h.kept (h.long a)) (first_of w a) h.kept h.kept_readers h.committed (done_batch k h (batch_of k s.desk.batches)) (OfBatch k) (h.long a) (told_states a (log_at s (a % w.text.logs)).records) P c
    (λ on. and_from (is_on (OfBatch k) (h.long a)) (not (is_kept (OfBatch k) h.kept) && true) on (and_from (not (is_kept (OfBatch k) h.kept)) true (ap not c.fresh) refl)) (nl a) (q a P (λ y i. up y (sure_stays w (Commit k) s y i))))
aside_kept {C} w Of finish (Decide t) s h v ok g wh b su st j pr th te so ks rc tr nl q = λ a P up.
    let x = at_decide w Of finish t s h ok g in
    subst (IsAside (first_of w a) P (h.kept ++ kept_act (act_of t s.book.acts)) (h.kept_readers ++ kept_reader (act_of t s.book.acts))) (sym (told_same a _ s.logs (t % w.text.logs) (a % w.text.logs) (told_commit a s.book.next_c (act_of t s.book.acts))))
    (subst (λ o. IsAside (first_of w a) P (h.kept ++ kept_act o) (h.kept_readers ++ kept_reader o) (told_states a (log_at s (a % w.text.logs)).records)) (sym x.found) (by a P (λ y i. up y (sure_stays w (Decide t) s y i)) x (cases_Bool (is_value x.act.result)) (cases_Bool x.act.reader)))
  where
    same_lists : (a : ℕ) (P : Who → Bool) (xs ys xs' ys' : List Who) → xs' ≡ xs → ys' ≡ ys → IsAside (first_of w a) P xs ys (told_states a (log_at s (a % w.text.logs)).records) → IsAside (first_of w a) P xs' ys' (told_states a (log_at s (a % w.text.logs)).records)
    same_lists a P xs ys xs' ys' e f h = subst (λ z. IsAside (first_of w a) P z ys' (told_states a (log_at s (a % w.text.logs)).records)) (sym e) (subst (λ z. IsAside (first_of w a) P xs z (told_states a (log_at s (a % w.text.logs)).records)) (sym f) h)

    by : (a : ℕ) (P : Who → Bool) → ((y : Who) → is_sure w.text.logs s.logs y ≡ true → P y ≡ true) → (x : AtDecide s h t) → (is_value x.act.result ≡ true) ⊎ (is_value x.act.result ≡ false) → (x.act.reader ≡ true) ⊎ (x.act.reader ≡ false)
        → IsAside (first_of w a) P (h.kept ++ kept_act (Some x.act)) (h.kept_readers ++ kept_reader (Some x.act)) (told_states a (log_at s (a % w.text.logs)).records)
    by a P up x (inr n) r = same_lists a P h.kept h.kept_readers _ _ (ap (λ z. h.kept ++ z) (rw n refl) ∙ append-nil h.kept) (ap (λ z. h.kept_readers ++ z) (rw n refl) ∙ append-nil h.kept_readers) (q a P up)
    by a P up x (inl n) (inr r) =
        let c = one_act w Of finish t a s h x.act v ok g su st j pr th te wh x.found x.tid n r x.live in
        same_lists a P (h.kept ++ OfAct t ∷ []) h.kept_readers _ _ (ap (λ z. h.kept ++ z) (rw (n, r, x.tid) refl)) (ap (λ z. h.kept_readers ++ z) (rw (n, r) refl) ∙ append-nil h.kept_readers)
        (lists.aside_commits a (reads_who s.book.acts) (is_uncommitted_writer (reads_who s.book.acts) h.kept (h.long a)) (first_of w a) h.kept h.kept_readers h.committed (done_act s.book.next_c h (Some x.act)) (OfAct t) (h.long a) (told_states a (log_at s (a % w.text.logs)).records) P c
        (λ on. and_from (is_on (OfAct t) (h.long a)) (not (is_kept (OfAct t) h.kept) && not (reads_who s.book.acts (OfAct t))) on (and_from (not (is_kept (OfAct t) h.kept)) (not (reads_who s.book.acts (OfAct t))) (ap not c.fresh) (ap not c.other))) (nl a) (q a P up))
    by a P up x (inl n) (inl r) =
        same_lists a P h.kept (h.kept_readers ++ OfAct t ∷ []) _ _ (ap (λ z. h.kept ++ z) (rw (n, r) refl) ∙ append-nil h.kept) (ap (λ z. h.kept_readers ++ z) (rw (n, r, x.tid) refl))
        (lists.aside_reads (first_of w a) (cell_at s a).state h.kept h.kept_readers (OfAct t) (told_states a (log_at s (a % w.text.logs)).records) P
        (λ m p. rc a P (lists.front_of (is_sure w.text.logs s.logs) P (λ y. is_on y (h.long a)) h.kept up (ks a)) ∙ last_is_now w Of finish t a s h (is_sure w.text.logs s.logs) P ok g so up th wh (there m))
        (λ m. weaker (ToldRead (h.reads a)) (λ o. is_who (OfAct t) o.who ≡ true → o.state ≡ (cell_at s a).state) (told_states a (log_at s (a % w.text.logs)).records) (λ o k e. tells o k e (there m)) (tr a)) (q a P up))
      where
        there : names (OfAct t) (told_states a (log_at s (a % w.text.logs)).records) ≡ true → ReadsThere s h t a
        there m = reads_there w Of finish t a s h v ok g wh pr x r m

        tells : (o : One) → ToldRead (h.reads a) o → is_who (OfAct t) o.who ≡ true → ReadsThere s h t a → o.state ≡ (cell_at s a).state
        tells o k e y = lists.told_now t o.state (cell_at s a).state (h.reads a) y.read (subst (λ z. AllByRecursion (λ x. is_who z (OfAct x.tid) ≡ true → x.found ≡ o.state) (h.reads a)) (sym (TrackLists.is_who_true (OfAct t) o.who e)) k) (y.may.seen y.reader a)
aside_kept w Of finish e s h v ok g wh b su st j pr th te so ks rc tr nl q = λ a P up.
    aside_step (first_of w a) P h.kept h.kept_readers (told_states a (log_at s (a % w.text.logs)).records) (told_states a (log_at (after w e s) (a % w.text.logs)).records) (told_step w Of finish e s h a ok g su st) (q a P (λ y i. up y (sure_stays w e s y i)))
