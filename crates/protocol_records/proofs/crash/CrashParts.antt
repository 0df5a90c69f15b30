-- All that is kept of records, over every run, and what it says of a cut.
use Rattle.std.specs.Prelude.{◌≡◌, refl, ℕ, zero, suc, ◌≤◌, ◌<◌, ◌%◌, ◌==◌, not, Bool, true, false, ◌&&◌, if◌then◌else◌, is_some, List, [], ◌∷◌, ◌++◌, length, filter, take, drop, replicate, slice_index_or, ◌||◌}
use Rattle.std.specs.List.{AllByRecursion, list_any}
use Rattle.std.proofs.Common.{arith, sym, ap, subst, inl, inr, ◌∙◌}
use Rattle.std.proofs.lemmas.List.{append-nil}
use Rattle.std.proofs.lemmas.Bool.{true≢false, or_cases, or_left, or_right, and_parts}
use Rattle.snap_base.specs.declared.transactions.Tx.{Tx}
use Rattle.snap_base.specs.declared.transactions.State.{State}
use Rattle.snap_base.proofs.Booleans.{and_false}
use Rattle.protocol.specs.Facts.{Alone, state_in}
use Rattle.protocol.specs.Fixed.{Fixed, no_state}
use Rattle.protocol.specs.Records.{LogRecord, BatchInfo, BatchComplete, BatchDone, ActPrepare, ActDone, is_commit, is_prepare, is_act_commit}
use Rattle.protocol.specs.Parts.{Who, OfBatch, OfAct, Machine}
use Rattle.protocol.specs.Events.{Event}
use Rattle.protocol.specs.Conditions.{IsAllowed}
use Rattle.protocol.specs.Effects.{after, log_at, no_log}
use Rattle.protocol.specs.Runs.{opening, IsRun, reached}
use Rattle.protocol.specs.Words.{is_value}
use Rattle.protocol.specs.History.{Done, History, no_history, history, grown}
use Rattle.protocol_laws.specs.Commits.{is_kept, StatesLink, last_state}
use Rattle.protocol_theorems.specs.Order.{LeavesIt}
use Rattle.protocol.specs.Chains.{serial_run}
use Rattle.protocol.specs.Moments.{IsCut, left_in}
use Rattle.protocol_records.specs.Logged.{durable_at, logged_at, is_sure, is_written, WrittenHaveValues, BatchesSure, Infos, InfoIs, ActsSure, ActCommits, AllGoneSure, AllKeptSure, AllThere, AllHaveRead, AllDoneSure, ActsStand, OnJoined, Prepared, is_on}
use Rattle.protocol_records.specs.Telling.{One, told_states, AllTells, Telling, last_one, writes, RecoversEachActor, ToldRead, ToldReads, is_uncommitted_writer, NoneLater, AllNoneLater, AllAside}
use Rattle.protocol_records.specs.Crash.{is_in, tells_member_state, last_told, recovered_state, members, NoneMissed}
use Rattle.protocol_laws.proofs.machine.Good.{Given}
use Rattle.protocol_laws.proofs.machine.AllGood.{AllGood, all_good, along_good}
use Rattle.protocol_laws.proofs.machine.CommitsKept.{Committed}
use Rattle.protocol_theorems.proofs.order.LastLaw.{Whole, facts_hold}
use Rattle.protocol_theorems.proofs.order.LastLaw as last
use Rattle.protocol_records.proofs.crash.Durable.{written_kept}
use Rattle.protocol_records.proofs.crash.BatchesSure as batches
use Rattle.protocol_records.proofs.crash.BatchesSure.{Filled}
use Rattle.protocol_records.proofs.crash.ActsSure as acts
use Rattle.protocol_records.proofs.crash.OnLong.{gone_kept}
use Rattle.protocol_records.proofs.crash.KeptSure.{kept_sure, sure_of}
use Rattle.protocol_records.proofs.crash.DonesSure.{there_kept, have_read_kept, done_sure, none_missed}
use Rattle.protocol_records.proofs.crash.ActPlaces.{on_joined, prepared_kept, stands_kept}
use Rattle.protocol_records.proofs.crash.TellsKept.{telling_kept, told_join}
use Rattle.protocol_records.proofs.crash.RecoverLists.{all_in}
use Rattle.protocol_records.proofs.crash.RecoversKept.{recovers_kept}
use Rattle.protocol_records.proofs.crash.AsideLists.{front_of}
use Rattle.protocol_records.proofs.crash.ReadersAside.{reads_told, none_later_kept, aside_kept}
use Rattle.protocol_records.proofs.crash.CrashImplied.{Members, links_members, members_serial}
use Rattle.protocol_laws.proofs.first.Lists.{all_filter, any_take, filter_join}

-- ---- all of it, along a run

pub record Logs {C : Type 0} (w : Fixed C) (s : Machine C) (h : History) : Type 0 where
  pub written : WrittenHaveValues w s h
  pub batches : BatchesSure w s
  pub infos : Infos s
  pub filled : Filled s
  pub acts : ActsSure w s
  pub commits : ActCommits s
  pub gone : AllGoneSure w s h
  pub sure : AllKeptSure w s h
  pub there : AllThere h
  pub stand : ActsStand s h
  pub joined : OnJoined s h
  pub prepared : Prepared w s
  pub telling : Telling w s h

pub logs_kept : {C : Type 0} (w : Fixed C) (Of : Tx → C → Type 0) (finish : C → List State → Alone) (e : Event) (s : Machine C) (h : History) → Given w Of finish → IsAllowed w e s → AllGood w Of finish s h → Logs w s h → Logs w (after w e s) (grown w e s h)
logs_kept w Of finish e s h v ok g l = record {
  written = written_kept w e s h l.written;
  batches = batches.sure_kept w e s ok l.batches;
  infos = batches.infos_kept w e s ok g.good.agreeing l.infos;
  filled = batches.filled_kept w e s v.text.some_batch ok l.filled;
  acts = acts.sure_kept w e s h ok g.none g.acts l.acts;
  commits = acts.commits_kept w e s h ok g.none g.acts l.commits;
  gone = gone_kept w e s h ok g.acts l.batches l.acts l.gone;
  sure = kept_sure w Of finish e s h v ok g (sure_of w s h l.batches l.acts l.gone) l.sure;
  there = there_kept w Of finish e s h v ok g l.there;
  stand = stands_kept w e s h ok g.none g.good.placed g.behind l.stand;
  joined = on_joined w e s h ok l.joined;
  prepared = prepared_kept w e s ok g.none l.prepared;
  telling = telling_kept w Of finish e s h v ok g l.acts l.stand l.prepared l.telling;
}

pub no_records : (n l : ℕ) → (slice_index_or (replicate n no_log) l no_log).records ≡ []
no_records zero l = refl
no_records (suc n) zero = refl
no_records (suc n) (suc l) = no_records n l

pub none_logged : (p : LogRecord → Bool) (n l : ℕ) → logged_at p (replicate n no_log) l ≡ true → ⊥
none_logged p n l h = true≢false (sym h ∙ ap (list_any p) (no_records n l))

pub logs_opened : {C : Type 0} (w : Fixed C) → Logs w (opening w) no_history
unfolding WrittenHaveValues BatchesSure Infos Filled ActsSure ActCommits AllGoneSure AllKeptSure AllThere AllDoneSure ActsStand OnJoined Prepared Telling RecoversEachActor
logs_opened w = record {
  written = λ y e. none y e;
  batches = λ k b e. absurd (cc e);
  infos = λ l. subst (AllByRecursion (InfoIs [])) (sym (no_records w.text.logs l)) tt;
  filled = λ k b e. absurd (cc e);
  acts = λ t x e. absurd (cc e);
  commits = λ l. subst (AllByRecursion (Rattle.protocol_records.specs.Logged.CommitIs [])) (sym (no_records w.text.logs l)) tt;
  gone = λ a. tt;
  sure = λ a. tt;
  there = tt;
  stand = λ t x e. absurd (cc e);
  joined = λ t a e. absurd (true≢false (sym e));
  prepared = λ t a e. absurd (none_logged (is_prepare t a) w.text.logs (a % w.text.logs) e);
  telling = λ a. subst (λ rs. AllTells (Rattle.protocol_laws.specs.Commits.reads_who []) (slice_index_or w.text.opening.states a no_state) (told_states a rs) []) (sym (no_records w.text.logs (a % w.text.logs))) tt;
}
  where
    none : (y : Who) → is_written w.text.logs (replicate w.text.logs no_log) y ≡ true → is_kept y [] ≡ true
    none (OfBatch k) e = absurd (none_logged (is_commit k) w.text.logs (k % w.text.logs) e)
    none (OfAct t) e = absurd (none_logged (is_act_commit t) w.text.logs (t % w.text.logs) e)

pub logs_hold : {C : Type 0} (w : Fixed C) (Of : Tx → C → Type 0) (finish : C → List State → Alone) (es : List Event) → Given w Of finish → IsRun w es → Logs w (reached w es) (history w es)
logs_hold w Of finish es v run = along_good w Of finish (Logs w) v (λ e s h ok g l. logs_kept w Of finish e s h v ok g l) (logs_opened w) es run

-- ---- cuts

take_le : {X : Type 0} (p : X → Bool) (n m : ℕ) (xs : List X) → n ≤ m → list_any p (take n xs) ≡ true → list_any p (take m xs) ≡ true
take_le p zero m xs l h = absurd (true≢false (sym h))
take_le p (suc n) zero xs l h = absurd (omega (arith, l))
take_le p (suc n) (suc m) [] l h = h
take_le p (suc n) (suc m) (x ∷ xs) l h = elim (or_cases (p x) _ h) [ inl e ↦ or_left (p x) _ e | inr e ↦ or_right (p x) _ (take_le p n m xs (omega (arith, l)) e) ]

-- what is durable is in every cut
pub durable_in : {C : Type 0} (s : Machine C) (kept : ℕ → ℕ) (p : LogRecord → Bool) (l : ℕ) → IsCut s kept → durable_at p s.logs l ≡ true → list_any p (left_in s kept l) ≡ true
durable_in s kept p l c h = take_le p (log_at s l).synced (kept l) (log_at s l).records (c.all_synced l) h

pub sure_in : {C : Type 0} (w : Fixed C) (s : Machine C) (kept : ℕ → ℕ) (y : Who) → IsCut s kept → is_sure w.text.logs s.logs y ≡ true → is_in w.text.logs (left_in s kept) y ≡ true
sure_in w s kept (OfBatch k) c h = durable_in s kept (is_commit k) (k % w.text.logs) c h
sure_in w s kept (OfAct t) c h = durable_in s kept (is_act_commit t) (t % w.text.logs) c h

-- who is in committed with a value
pub in_kept : {C : Type 0} (w : Fixed C) (s : Machine C) (h : History) (kept : ℕ → ℕ) (y : Who) → WrittenHaveValues w s h → is_in w.text.logs (left_in s kept) y ≡ true → (is_kept y h.kept || is_kept y h.kept_readers) ≡ true
unfolding WrittenHaveValues
in_kept w s h kept (OfBatch k) g e = g (OfBatch k) (any_take (is_commit k) (kept (k % w.text.logs)) (log_at s (k % w.text.logs)).records e)
in_kept w s h kept (OfAct t) g e = g (OfAct t) (any_take (is_act_commit t) (kept (t % w.text.logs)) (log_at s (t % w.text.logs)).records e)

-- ---- what is recovered of an actor

counted : (many a : ℕ) (logs : ℕ → List LogRecord) (first : State) (rs : List LogRecord) → last_told first (filter (tells_member_state many logs a) rs) ≡ last_one first (filter (λ o. is_in many logs o.who) (told_states a rs))
counted many a logs first [] = refl
counted many a logs first (BatchInfo k actors tids ∷ rs) = counted many a logs first rs
counted many a logs first (BatchComplete k b st ∷ rs) = by (b == a) (is_in many logs (OfBatch k)) refl (λ s. counted many a logs s rs)
  where
    by : (v u : Bool) → is_in many logs (OfBatch k) ≡ u → ((s : State) → last_told s (filter (tells_member_state many logs a) rs) ≡ last_one s (filter (λ o. is_in many logs o.who) (told_states a rs)))
        → last_told first (if v && u then BatchComplete k b st ∷ filter (tells_member_state many logs a) rs else filter (tells_member_state many logs a) rs) ≡ last_one first (filter (λ o. is_in many logs o.who) (if v then record { who = OfBatch k; state = st } ∷ told_states a rs else told_states a rs))
    by true true e r = rw e (r st)
    by true false e r = rw e (r first)
    by false u e r = r first
counted many a logs first (BatchDone k vs ∷ rs) = counted many a logs first rs
counted many a logs first (ActPrepare t b st ∷ rs) = by (b == a) (is_in many logs (OfAct t)) refl (λ s. counted many a logs s rs)
  where
    by : (v u : Bool) → is_in many logs (OfAct t) ≡ u → ((s : State) → last_told s (filter (tells_member_state many logs a) rs) ≡ last_one s (filter (λ o. is_in many logs o.who) (told_states a rs)))
        → last_told first (if v && u then ActPrepare t b st ∷ filter (tells_member_state many logs a) rs else filter (tells_member_state many logs a) rs) ≡ last_one first (filter (λ o. is_in many logs o.who) (if v then record { who = OfAct t; state = st } ∷ told_states a rs else told_states a rs))
    by true true e r = rw e (r st)
    by true false e r = rw e (r first)
    by false u e r = r first
counted many a logs first (ActDone t m c v actors ∷ rs) = counted many a logs first rs

pub take_drop : {X : Type 0} (n : ℕ) (xs : List X) → xs ≡ take n xs ++ drop n xs
take_drop zero xs = refl
take_drop (suc n) [] = refl
take_drop (suc n) (x ∷ xs) = ap (λ l. x ∷ l) (take_drop n xs)

filter_weaker : (p q : One → Bool) (os : List One) → ((o : One) → p o ≡ q o) → filter p os ≡ filter q os
filter_weaker p q [] k = refl
filter_weaker p q (o ∷ os) k = rw (k o, filter_weaker p q os k) refl

-- What is still assumed of a cut: no record of a state of a member lies behind it.
unfoldable pub NoneBehind : {C : Type 0} → Fixed C → Machine C → (ℕ → ℕ) → ℕ → Type 0
NoneBehind w s kept a = filter (λ o. is_in w.text.logs (left_in s kept) o.who) (told_states a (drop (kept (a % w.text.logs)) (log_at s (a % w.text.logs)).records)) ≡ []

-- ---- what is sure of what committed

pub none_missed_at : {C : Type 0} (w : Fixed C) (s : Machine C) (h : History) (kept : ℕ → ℕ) (a : ℕ) → IsCut s kept → AllDoneSure w s h → NoneMissed a (λ d. is_in w.text.logs (left_in s kept) d.who && is_value d.result) h.committed
unfolding AllDoneSure
none_missed_at w s h kept a c l = none_missed (is_in w.text.logs (left_in s kept)) (is_sure w.text.logs s.logs) a h.committed (λ y i. sure_in w s kept y c i) (l a)

-- along a run
record Followed {C : Type 0} (w : Fixed C) (Of : Tx → C → Type 0) (finish : C → List State → Alone) (s : Machine C) (h : History) : Type 0 where
  pub logs : Logs w s h
  pub whole : Whole w Of finish s h
  pub read : AllHaveRead h
  pub done : AllDoneSure w s h

pub read_opened : AllHaveRead no_history
unfolding AllHaveRead
read_opened = λ a. tt

done_opened : {C : Type 0} (w : Fixed C) → AllDoneSure w (opening w) no_history
unfolding AllDoneSure
done_opened w = λ a. tt

followed_kept : {C : Type 0} (w : Fixed C) (Of : Tx → C → Type 0) (finish : C → List State → Alone) (e : Event) (s : Machine C) (h : History) → Given w Of finish → IsAllowed w e s → AllGood w Of finish s h → Followed w Of finish s h → Followed w Of finish (after w e s) (grown w e s h)
followed_kept w Of finish e s h v ok g l = record {
  logs = logs_kept w Of finish e s h v ok g l.logs;
  whole = last.kept w Of finish e s h v ok g l.whole;
  read = have_read_kept w e s h l.read;
  done = done_sure w Of finish e s h v ok g l.whole.ordered.chained (sure_of w s h l.logs.batches l.logs.acts l.logs.gone) l.logs.there l.read l.done;
}

followed_opened : {C : Type 0} (w : Fixed C) (Of : Tx → C → Type 0) (finish : C → List State → Alone) → Given w Of finish → Followed w Of finish (opening w) no_history
followed_opened w Of finish v = record { logs = logs_opened w; whole = last.opened w Of finish v; read = read_opened; done = done_opened w }

pub done_hold : {C : Type 0} (w : Fixed C) (Of : Tx → C → Type 0) (finish : C → List State → Alone) (es : List Event) → Given w Of finish → IsRun w es → AllDoneSure w (reached w es) (history w es)
done_hold w Of finish es v run = (along_good w Of finish (Followed w Of finish) v (λ e s h ok g l. followed_kept w Of finish e s h v ok g l) (followed_opened w Of finish v) es run).done

-- ---- what the records recover

-- along a run
record Recovering {C : Type 0} (w : Fixed C) (Of : Tx → C → Type 0) (finish : C → List State → Alone) (s : Machine C) (h : History) : Type 0 where
  followed : Followed w Of finish s h
  recovers : RecoversEachActor w s h
  reads : ToldReads w s h
  none_later : AllNoneLater w s h
  aside : AllAside w s h

recovering_kept : {C : Type 0} (w : Fixed C) (Of : Tx → C → Type 0) (finish : C → List State → Alone) (e : Event) (s : Machine C) (h : History) → Given w Of finish → IsAllowed w e s → AllGood w Of finish s h → Recovering w Of finish s h → Recovering w Of finish (after w e s) (grown w e s h)
recovering_kept w Of finish e s h v ok g l =
    let f = l.followed in
    let r = f.logs in
    record {
      followed = followed_kept w Of finish e s h v ok g f;
      recovers = recovers_kept w Of finish e s h v ok g r.batches r.acts r.stand r.joined r.prepared r.there r.telling f.whole l.recovers;
      reads = reads_told w Of finish e s h ok g r.acts r.stand r.prepared l.reads;
      none_later = none_later_kept w Of finish e s h v ok g f.whole r.acts r.stand r.prepared r.telling l.none_later;
      aside = aside_kept w Of finish e s h v ok g f.whole r.batches r.acts r.stand r.joined r.prepared r.there r.telling (sure_of w s h r.batches r.acts r.gone) r.sure l.recovers l.reads l.none_later l.aside;
    }

-- no record is counted of nobody
none_counted : (p : One → Bool) (os : List One) → ((o : One) → p o ≡ false) → filter p os ≡ []
none_counted p [] k = refl
none_counted p (o ∷ os) k = rw (k o, none_counted p os k) refl

recovering_opened : {C : Type 0} (w : Fixed C) (Of : Tx → C → Type 0) (finish : C → List State → Alone) → Given w Of finish → Recovering w Of finish (opening w) no_history
unfolding RecoversEachActor ToldReads AllNoneLater AllAside
recovering_opened w Of finish v = record {
  followed = followed_opened w Of finish v;
  recovers = λ a P f. ap (last_one (slice_index_or w.text.opening.states a no_state)) (none_counted (λ o. P o.who && false) (told_states a (slice_index_or (replicate w.text.logs no_log) (a % w.text.logs) no_log).records) (λ o. and_false (P o.who)));
  reads = λ a. subst (λ rs. AllByRecursion (ToldRead []) (told_states a rs)) (sym (no_records w.text.logs (a % w.text.logs))) tt;
  none_later = λ a. subst (λ rs. NoneLater (is_uncommitted_writer (Rattle.protocol_laws.specs.Commits.reads_who []) [] []) [] (told_states a rs)) (sym (no_records w.text.logs (a % w.text.logs))) tt;
  aside = λ a P up. refl;
}

recovering : {C : Type 0} (w : Fixed C) (Of : Tx → C → Type 0) (finish : C → List State → Alone) (es : List Event) → Given w Of finish → IsRun w es → Recovering w Of finish (reached w es) (history w es)
recovering w Of finish es v run = along_good w Of finish (Recovering w Of finish) v (λ e s h ok g l. recovering_kept w Of finish e s h v ok g l) (recovering_opened w Of finish v) es run

-- members that do not only read
filter_twice : (P : Who → Bool) (ds : List Done) → filter (λ d. P d.who && writes d) ds ≡ filter (λ d. not d.reader) (filter (λ d. P d.who && is_value d.result) ds)
filter_twice P [] = refl
filter_twice P (d ∷ ds) = by (P d.who) (is_value d.result) (filter_twice P ds)
  where
    at : (r : Bool) → filter (λ d. P d.who && writes d) ds ≡ filter (λ d. not d.reader) (filter (λ d. P d.who && is_value d.result) ds)
        → (if not r then d ∷ filter (λ d. P d.who && writes d) ds else filter (λ d. P d.who && writes d) ds) ≡ (if not r then d ∷ filter (λ d. not d.reader) (filter (λ d. P d.who && is_value d.result) ds) else filter (λ d. not d.reader) (filter (λ d. P d.who && is_value d.result) ds))
    at true k = k
    at false k = ap (λ l. d ∷ l) k

    by : (u v : Bool) → filter (λ d. P d.who && writes d) ds ≡ filter (λ d. not d.reader) (filter (λ d. P d.who && is_value d.result) ds)
        → (if u && (v && not d.reader) then d ∷ filter (λ d. P d.who && writes d) ds else filter (λ d. P d.who && writes d) ds) ≡ filter (λ d. not d.reader) (if u && v then d ∷ filter (λ d. P d.who && is_value d.result) ds else filter (λ d. P d.who && is_value d.result) ds)
    by true true k = at d.reader k
    by true false k = k
    by false v k = k

-- readers among them leave what they find
with_readers : (a : ℕ) (first : State) (P : Who → Bool) (ds : List Done) → NoneMissed a (λ d. P d.who && is_value d.result) ds → AllByRecursion (λ d. d.reader ≡ true → LeavesIt (d.views a)) ds → StatesLink a first ds
    → last_state a first (filter (λ d. P d.who && writes d) ds) ≡ last_state a first (filter (λ d. P d.who && is_value d.result) ds)
with_readers a first P ds m v l =
    ap (last_state a first) (filter_twice P ds)
    ∙ all_in a (λ d. not d.reader) first (filter (λ d. P d.who && is_value d.result) ds) (write (filter (λ d. P d.who && is_value d.result) ds)) (all_filter (λ d. d.reader ≡ true → LeavesIt (d.views a)) (λ d. P d.who && is_value d.result) ds v) (links_members a first (λ d. P d.who && is_value d.result) ds m v l)
  where
    write : (es : List Done) → AllByRecursion (λ d. is_some (d.views a) ≡ true → writes d ≡ true → not d.reader ≡ true) es
    write [] = tt
    write (d ∷ es) = ((λ c e. (and_parts (is_value d.result) (not d.reader) e).1), write es)

recovered_is : {C : Type 0} (w : Fixed C) (Of : Tx → C → Type 0) (finish : C → List State → Alone) (s : Machine C) (h : History) (kept : ℕ → ℕ) (a : ℕ) → IsCut s kept → AllGood w Of finish s h → Recovering w Of finish s h → NoneBehind w s kept a
    → recovered_state w.text.logs (left_in s kept) a (slice_index_or w.text.opening.states a no_state) ≡ last_state a (slice_index_or w.text.opening.states a no_state) (members w.text.logs (left_in s kept) h)
unfolding NoneBehind AllKeptSure RecoversEachActor AllAside Committed
recovered_is w Of finish s h kept a c g l n =
    counted w.text.logs a (left_in s kept) first (left_in s kept (a % w.text.logs))
    ∙ (ap (last_one first) (sym (append-nil (filter inside (told_states a (left_in s kept (a % w.text.logs))))) ∙ (ap (λ z. filter inside (told_states a (left_in s kept (a % w.text.logs))) ++ z) (sym n) ∙ (sym (filter_join inside (told_states a (left_in s kept (a % w.text.logs))) (told_states a (drop (kept (a % w.text.logs)) (log_at s (a % w.text.logs)).records)))
    ∙ ap (filter inside) (sym (told_join a (left_in s kept (a % w.text.logs)) (drop (kept (a % w.text.logs)) (log_at s (a % w.text.logs)).records)) ∙ ap (told_states a) (sym (take_drop (kept (a % w.text.logs)) (log_at s (a % w.text.logs)).records))))))
    ∙ (ap (last_one first) (filter_weaker inside (λ o. is_in w.text.logs (left_in s kept) o.who && (is_kept o.who h.kept || is_kept o.who h.kept_readers)) (told_states a (log_at s (a % w.text.logs)).records) (λ o. same o.who))
    ∙ (l.aside a (is_in w.text.logs (left_in s kept)) (λ y i. sure_in w s kept y c i)
    ∙ (l.recovers a (is_in w.text.logs (left_in s kept)) (front_of (is_sure w.text.logs s.logs) (is_in w.text.logs (left_in s kept)) (λ y. is_on y (h.long a)) h.kept (λ y i. sure_in w s kept y c i) (l.followed.logs.sure a))
    ∙ with_readers a first (is_in w.text.logs (left_in s kept)) h.committed (none_missed_at w s h kept a c l.followed.done) (l.followed.whole.ordered.stills a) (g.good.committed a).links))))
  where
    first : State
    first = slice_index_or w.text.opening.states a no_state

    inside : One → Bool
    inside o = is_in w.text.logs (left_in s kept) o.who

    same : (y : Who) → is_in w.text.logs (left_in s kept) y ≡ (is_in w.text.logs (left_in s kept) y && (is_kept y h.kept || is_kept y h.kept_readers))
    same y = by (is_in w.text.logs (left_in s kept) y) refl
      where
        by : (b : Bool) → is_in w.text.logs (left_in s kept) y ≡ b → b ≡ (b && (is_kept y h.kept || is_kept y h.kept_readers))
        by true e = sym (in_kept w s h kept y l.followed.logs.written e)
        by false e = refl

-- At every moment of every run members are serial; with nothing of a member behind the cut, what is recovered of each
-- actor is what they leave.
pub crash_serial : {C : Type 0} (w : Fixed C) (Of : Tx → C → Type 0) (finish : C → List State → Alone) (es : List Event) (kept : ℕ → ℕ) → Given w Of finish → IsRun w es → IsCut (reached w es) kept → Members w finish (members w.text.logs (left_in (reached w es) kept) (history w es))
crash_serial w Of finish es kept v run c = members_serial w finish (reached w es) (history w es) (left_in (reached w es) kept) (facts_hold w Of finish es v run) (λ a k. none_missed_at w (reached w es) (history w es) kept a c (done_hold w Of finish es v run))

pub crash_states : {C : Type 0} (w : Fixed C) (Of : Tx → C → Type 0) (finish : C → List State → Alone) (es : List Event) (kept : ℕ → ℕ) (a : ℕ) → Given w Of finish → IsRun w es → IsCut (reached w es) kept → a < length w.text.opening.states → NoneBehind w (reached w es) kept a
    → recovered_state w.text.logs (left_in (reached w es) kept) a (state_in w.text.opening.states a) ≡ state_in (serial_run w finish (members w.text.logs (left_in (reached w es) kept) (history w es))).world a
crash_states w Of finish es kept a v run c k n = recovered_is w Of finish (reached w es) (history w es) kept a c (all_good w Of finish es v run) (recovering w Of finish es v run) n ∙ sym ((crash_serial w Of finish es kept v run c).states a k)
