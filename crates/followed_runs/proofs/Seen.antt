-- Who is in a cut of a moment, in lists that have all of that cut: what it rests on is there, with all that stands ahead of it.
use Rattle.std.specs.Prelude.{◌≡◌, refl, ℕ, zero, suc, ◌≤◌, ◌%◌, ◌==◌, Bool, true, false, ◌&&◌, ◌||◌, if◌then◌else◌, List, [], ◌∷◌, ◌++◌, length, take, drop, filter, slice_index_or}
use Rattle.std.specs.List.{AllByRecursion, list_any}
use Rattle.std.proofs.Common.{arith, sym, ap, subst, inl, inr, ◌∙◌}
use Rattle.std.proofs.lemmas.Bool.{true≢false, or_cases, or_left, or_right, or_from, or_parts, eqb-true, eq-eqb, cases_Bool, false_from_ne_true, and_parts}
use Rattle.snap_base.specs.declared.transactions.Tx.{Tx}
use Rattle.snap_base.specs.declared.transactions.State.{State}
use Rattle.protocol.specs.Facts.{Alone}
use Rattle.protocol.specs.Fixed.{Fixed}
use Rattle.protocol.specs.Records.{LogRecord, BatchInfo, ActDone, is_complete, is_commit, is_prepare, is_act_commit}
use Rattle.protocol.specs.Parts.{Log, Who, OfBatch, OfAct, Machine}
use Rattle.protocol.specs.Events.{Event}
use Rattle.protocol.specs.Words.{is_who, act_of, is_value, is_ordered}
use Rattle.protocol.specs.Effects.{after, log_at, no_log}
use Rattle.protocol.specs.Runs.{opening, EachAllowed, IsRun, state_after, reached}
use Rattle.protocol.specs.History.{History, no_history, history_after, history, is_reader_act}
use Rattle.protocol.specs.Moments.{Moment, IsCut, left_in}
use Rattle.protocol_laws.specs.Commits.{is_kept}
use Rattle.protocol_laws.specs.OneWay.{EachBecame, LogGrew}
use Rattle.protocol_laws.proofs.first.OneWay.{all_went_on}
use Rattle.protocol_laws.proofs.first.Lists.{any_front, join_assoc, weaker}
use Rattle.protocol_laws.proofs.machine.TrackLists.{is_who_true}
use Rattle.protocol_laws.proofs.machine.TurnsKept.{one_is}
use Rattle.protocol_laws.proofs.machine.ReadersCommit.{ReadersOf, reads_with_value}
use Rattle.protocol_laws.proofs.machine.Good.{Given}
use Rattle.protocol_laws.proofs.machine.AllGood.{AllGood, all_good}
use Rattle.protocol_records.specs.Telling.{One, told_states, names}
use Rattle.protocol_records.specs.Crash.{is_in, BatchIsWhole, ActIsWhole}
use Rattle.protocol_records.proofs.crash.CrashClosed as moments
use Rattle.protocol_records.proofs.crash.CrashImplied.{front_runs, moment_is_cut}
use Rattle.protocol_records.proofs.crash.CrashParts.{NoneBehind, sure_in, in_kept, take_drop}
use Rattle.protocol_records.proofs.crash.CrashWhole.{whole_batch, whole_act}
use Rattle.protocol_records.proofs.crash.KeptAll.{reader_there}
use Rattle.protocol_records.proofs.crash.NoneBehind.{none_behind, both_hold}
use Rattle.protocol_records.proofs.crash.ReadersSure.{reader_not_kept}
use Rattle.protocol_records.proofs.crash.TellsKept.{told_join, no_batch_reads}
use Rattle.followed_runs.specs.Following.{Reading, what_is_read, IsLater, is_ahead}
use Rattle.followed_runs.proofs.Ahead.{ahead_more, ahead_cut}
use Rattle.followed_runs.proofs.ReadersFirst.{told_at}
use Rattle.followed_runs.proofs.OneCommits.{in_either}
use Rattle.followed_runs.proofs.InOrder.{InOrder, in_order}
use Rattle.followed_runs.proofs.AlongRun.{GoesOn, either_on, goes_on}

-- ---- logs along a run

pub state_on : {C : Type 0} (w : Fixed C) (es fs : List Event) (s : Machine C) → state_after w (es ++ fs) s ≡ state_after w fs (state_after w es s)
state_on w [] fs s = refl
state_on w (e ∷ es) fs s = state_on w es fs (after w e s)

allowed_on : {C : Type 0} (w : Fixed C) (es fs : List Event) (s : Machine C) → EachAllowed w (es ++ fs) s → EachAllowed w fs (state_after w es s)
allowed_on w [] fs s r = r
allowed_on w (e ∷ es) fs s r = allowed_on w es fs (after w e s) r.1

new_log : (h : Log) → LogGrew no_log h
new_log h = record { records = record { more = h.records; is = refl }; synced = omega arith; durable = λ test q. absurd (true≢false (sym q)) }

one_log : (xs ys : List Log) (l : ℕ) → EachBecame LogGrew xs ys → LogGrew (slice_index_or xs l no_log) (slice_index_or ys l no_log)
one_log [] ys l h = new_log (slice_index_or ys l no_log)
one_log (x ∷ xs) [] l h = absurd h
one_log (x ∷ xs) (y ∷ ys) zero h = h.0
one_log (x ∷ xs) (y ∷ ys) (suc l) h = one_log xs ys l h.1

pub log_grew : {C : Type 0} (w : Fixed C) (es more fs : List Event) (l : ℕ) → fs ≡ es ++ more → IsRun w fs → LogGrew (log_at (reached w es) l) (log_at (reached w fs) l)
log_grew w es more fs l e run =
    subst (λ s. LogGrew (log_at (reached w es) l) (log_at s l)) (sym (ap (reached w) e ∙ state_on w es more (opening w)))
    (one_log (reached w es).logs (state_after w more (reached w es)).logs l (all_went_on w more (reached w es) (allowed_on w es more (opening w) (subst (IsRun w) e run))).logs)

pub take_within : {X : Type 0} (n m : ℕ) (xs ys : List X) → n ≤ m → n ≤ length xs → (more : List X) × (take m (xs ++ ys) ≡ take n xs ++ more)
take_within zero m xs ys l k = (take m (xs ++ ys), refl)
take_within (suc n) zero xs ys l k = absurd (omega (arith, l))
take_within (suc n) (suc m) [] ys l k = absurd (omega (arith, k))
take_within (suc n) (suc m) (x ∷ xs) ys l k = let r = take_within n m xs ys (omega (arith, l)) (omega (arith, k)) in (r.0, ap (λ z. x ∷ z) r.1)

-- ---- who is seen

-- It is in a cut of a moment of the run, and the lists have all of that cut.
pub record Seen {C : Type 0} (w : Fixed C) (es : List Event) (logs : ℕ → List LogRecord) (y : Who) : Type 0 where
  pub events : List Event
  pub later : List Event
  pub splits : es ≡ events ++ later
  pub cut : ℕ → ℕ
  pub is_cut : IsCut (reached w events) cut
  pub has : is_in w.text.logs (left_in (reached w events) cut) y ≡ true
  pub within : (l : ℕ) → (more : List LogRecord) × (logs l ≡ left_in (reached w events) cut l ++ more)

unfoldable pub NoLess : (ℕ → List LogRecord) → (ℕ → List LogRecord) → Type 0
NoLess before now = (l : ℕ) → (more : List LogRecord) × (now l ≡ before l ++ more)

unfoldable pub seen_stays : {C : Type 0} (w : Fixed C) (es : List Event) (before now : ℕ → List LogRecord) (y : Who) → NoLess before now → Seen w es before y → Seen w es now y
unfolding NoLess
seen_stays w es before now y n s = record {
  events = s.events;
  later = s.later;
  splits = s.splits;
  cut = s.cut;
  is_cut = s.is_cut;
  has = s.has;
  within = λ l. let a = s.within l in let b = n l in (a.0 ++ b.0, b.1 ∙ (ap (λ z. z ++ b.0) a.1 ∙ join_assoc (left_in (reached w s.events) s.cut l) a.0 b.0));
}

pub is_less : {C : Type 0} (w : Fixed C) (es : List Event) (r q : Reading w es) → IsRun w es → IsLater r q → NoLess (what_is_read r) (what_is_read q)
unfolding NoLess
is_less w es r q run l i =
    let m = l.moments i i in
    let g = log_grew w (r.events i) m.0 (q.events i) i m.1 (front_runs w (q.events i) (q.later i) (subst (IsRun w) (q.splits i) run)) in
    let t = take_within (r.count i) (q.count i) (log_at (reached w (r.events i)) i).records g.records.more (l.still i) (r.no_more i) in
    (t.0, ap (take (q.count i)) g.records.is ∙ t.1)

-- the cut of the reading's moment at one log: there what was read, and of the others what is synced
unfoldable pub at_log : {C : Type 0} {w : Fixed C} {es : List Event} → Reading w es → ℕ → ℕ → ℕ
at_log {w = w} r n l = if l == n then r.count n else (log_at (reached w (r.events n)) l).synced

unfoldable pub seen_at : {C : Type 0} (w : Fixed C) (es : List Event) (r q : Reading w es) (n : ℕ) (y : Who) → IsRun w es → IsLater r q → is_in w.text.logs (left_in (reached w (r.events n)) (at_log r n)) y ≡ true → Seen w es (what_is_read q) y
unfolding at_log
seen_at {C} w es r q n y run t i = record {
  events = r.events n;
  later = r.later n;
  splits = r.splits n;
  cut = at_log r n;
  is_cut = record { all_synced = λ l. synced l (l == n) refl; no_more = λ l. most l (l == n) refl };
  has = i;
  within = λ l.
      let m = t.moments n l in
      let g = log_grew w (r.events n) m.0 (q.events l) l m.1 (front_runs w (q.events l) (q.later l) (subst (IsRun w) (q.splits l) run)) in
      let k = take_within (at_log r n l) (q.count l) (log_at (reached w (r.events n)) l).records g.records.more (kept l g (l == n) refl) (most l (l == n) refl) in
      (k.0, ap (take (q.count l)) g.records.is ∙ k.1);
}
  where
    nobody : Moment w es
    nobody = record { events = r.events n; later = r.later n; splits = r.splits n; has_begun = λ l. false; begun = λ l e. absurd (true≢false (sym e)) }

    plain : IsCut (reached w (r.events n)) (λ l. (log_at (reached w (r.events n)) l).synced)
    plain = moment_is_cut w es nobody (λ l. (log_at (reached w (r.events n)) l).synced) run (record { same = λ l e. refl; whole = λ l. inl refl })

    synced : (l : ℕ) (b : Bool) → (l == n) ≡ b → (log_at (reached w (r.events n)) l).synced ≤ (if b then r.count n else (log_at (reached w (r.events n)) l).synced)
    synced l true e = subst (λ z. (log_at (reached w (r.events n)) z).synced ≤ r.count n) (sym (eqb-true l n e)) (r.all_synced n)
    synced l false e = omega arith

    most : (l : ℕ) (b : Bool) → (l == n) ≡ b → (if b then r.count n else (log_at (reached w (r.events n)) l).synced) ≤ length (log_at (reached w (r.events n)) l).records
    most l true e = subst (λ z. r.count n ≤ length (log_at (reached w (r.events n)) z).records) (sym (eqb-true l n e)) (r.no_more n)
    most l false e = plain.no_more l

    kept : (l : ℕ) → LogGrew (log_at (reached w (r.events n)) l) (log_at (reached w (q.events l)) l) → (b : Bool) → (l == n) ≡ b → (if b then r.count n else (log_at (reached w (r.events n)) l).synced) ≤ q.count l
    kept l g true e = subst (λ z. r.count n ≤ q.count z) (sym (eqb-true l n e)) (t.still n)
    kept l g false e = omega (arith, g.synced, q.all_synced l)

-- Whose commit record one round reads is seen in what the next one reads.
pub seen_now : {C : Type 0} (w : Fixed C) (es : List Event) (r q : Reading w es) (y : Who) → IsRun w es → IsLater r q → is_in w.text.logs (what_is_read r) y ≡ true → Seen w es (what_is_read q) y
unfolding at_log
seen_now w es r q (OfBatch k) run t i = seen_at w es r q (k % w.text.logs) (OfBatch k) run t (subst (λ b. list_any (is_commit k) (take (if b then r.count (k % w.text.logs) else (log_at (reached w (r.events (k % w.text.logs))) (k % w.text.logs)).synced) (log_at (reached w (r.events (k % w.text.logs))) (k % w.text.logs)).records) ≡ true) (sym (eq-eqb (k % w.text.logs) (k % w.text.logs) refl)) i)
seen_now w es r q (OfAct u) run t i = seen_at w es r q (u % w.text.logs) (OfAct u) run t (subst (λ b. list_any (is_act_commit u) (take (if b then r.count (u % w.text.logs) else (log_at (reached w (r.events (u % w.text.logs))) (u % w.text.logs)).synced) (log_at (reached w (r.events (u % w.text.logs))) (u % w.text.logs)).records) ≡ true) (sym (eq-eqb (u % w.text.logs) (u % w.text.logs) refl)) i)

-- ---- what is in the lists

any_within : (p : LogRecord → Bool) (xs zs more : List LogRecord) → zs ≡ xs ++ more → list_any p xs ≡ true → list_any p zs ≡ true
any_within p xs zs more e h = ap (list_any p) e ∙ any_front p xs more h

pub in_more : (many : ℕ) (before now : ℕ → List LogRecord) (y : Who) → NoLess before now → is_in many before y ≡ true → is_in many now y ≡ true
unfolding NoLess
in_more many before now (OfBatch k) n h = let m = n (k % many) in any_within (is_commit k) (before (k % many)) (now (k % many)) m.0 m.1 h
in_more many before now (OfAct t) n h = let m = n (t % many) in any_within (is_act_commit t) (before (t % many)) (now (t % many)) m.0 m.1 h

pub batch_more : (many : ℕ) (before now : ℕ → List LogRecord) (k : ℕ) → NoLess before now → BatchIsWhole many before k → BatchIsWhole many now k
unfolding NoLess
batch_more many before now k n b =
    let m = n (k % many) in
    record {
      actors = b.actors;
      tids = b.tids;
      front = b.front;
      rest = b.rest ++ m.0;
      info = m.1 ∙ (ap (λ z. z ++ m.0) b.info ∙ join_assoc b.front (BatchInfo k b.actors b.tids ∷ b.rest) m.0);
      completes = weaker _ (λ a. list_any (is_complete k a) (now (a % many)) ≡ true) b.actors (λ a h. any_within (is_complete k a) (before (a % many)) (now (a % many)) (n (a % many)).0 (n (a % many)).1 h) b.completes;
    }

pub act_more : (many : ℕ) (before now : ℕ → List LogRecord) (t : ℕ) → NoLess before now → ActIsWhole many before t → ActIsWhole many now t
unfolding NoLess
act_more many before now t n b =
    let m = n (t % many) in
    record {
      m = b.m;
      c = b.c;
      v = b.v;
      actors = b.actors;
      front = b.front;
      rest = b.rest ++ m.0;
      commit = m.1 ∙ (ap (λ z. z ++ m.0) b.commit ∙ join_assoc b.front (ActDone t b.m b.c b.v b.actors ∷ b.rest) m.0);
      prepares = weaker _ (λ a. list_any (is_prepare t a) (now (a % many)) ≡ true) b.actors (λ a h. any_within (is_prepare t a) (before (a % many)) (now (a % many)) (n (a % many)).0 (n (a % many)).1 h) b.prepares;
    }

-- ---- of a run, with lists that are fronts of its logs

pub record Listed {C : Type 0} (w : Fixed C) (Of : Tx → C → Type 0) (finish : C → List State → Alone) (es : List Event) (now : ℕ → List LogRecord) : Type 0 where
  pub given : Given w Of finish
  pub run : IsRun w es
  pub rest : (l : ℕ) → (more : List LogRecord) × ((log_at (reached w es) l).records ≡ now l ++ more)

pub of_reading : {C : Type 0} (w : Fixed C) (Of : Tx → C → Type 0) (finish : C → List State → Alone) (es : List Event) (q : Reading w es) → Given w Of finish → IsRun w es → Listed w Of finish es (what_is_read q)
of_reading w Of finish es q v run = record {
  given = v;
  run = run;
  rest = λ l.
      let g = log_grew w (q.events l) (q.later l) es l (q.splits l) run in
      let rs = (log_at (reached w (q.events l)) l).records in
      (drop (q.count l) rs ++ g.records.more, g.records.is ∙ (ap (λ z. z ++ g.records.more) (take_drop (q.count l) rs) ∙ join_assoc (take (q.count l) rs) (drop (q.count l) rs) g.records.more));
}

early : {C : Type 0} (w : Fixed C) (Of : Tx → C → Type 0) (finish : C → List State → Alone) (es : List Event) (now : ℕ → List LogRecord) (y : Who) → Listed w Of finish es now → (s : Seen w es now y) → IsRun w s.events
early w Of finish es now y x s = front_runs w s.events s.later (subst (IsRun w) s.splits x.run)

pub seen_batch : {C : Type 0} (w : Fixed C) (Of : Tx → C → Type 0) (finish : C → List State → Alone) (es : List Event) (now : ℕ → List LogRecord) (k : ℕ) → Listed w Of finish es now → Seen w es now (OfBatch k) → BatchIsWhole w.text.logs now k
unfolding NoLess
seen_batch w Of finish es now k x s =
    let run = early w Of finish es now (OfBatch k) x s in
    batch_more w.text.logs (left_in (reached w s.events) s.cut) now k s.within
    (whole_batch w Of finish (reached w s.events) (history w s.events) s.cut k s.is_cut (all_good w Of finish s.events x.given run) (in_order w Of finish s.events x.given run).known.logs s.has)

pub seen_act : {C : Type 0} (w : Fixed C) (Of : Tx → C → Type 0) (finish : C → List State → Alone) (es : List Event) (now : ℕ → List LogRecord) (t : ℕ) → Listed w Of finish es now → Seen w es now (OfAct t) → ActIsWhole w.text.logs now t
unfolding NoLess
seen_act w Of finish es now t x s =
    let run = early w Of finish es now (OfAct t) x s in
    act_more w.text.logs (left_in (reached w s.events) s.cut) now t s.within
    (whole_act w Of finish (reached w s.events) (history w s.events) s.cut t s.is_cut (all_good w Of finish s.events x.given run) (in_order w Of finish s.events x.given run).known.logs s.has)

-- ---- the moment at which it was there, and the end

history_on : {C : Type 0} (w : Fixed C) (es fs gs : List Event) → gs ≡ es ++ fs → history w gs ≡ history_after w fs (reached w es) (history w es)
history_on w es fs gs e = ap (history w) e ∙ moments.goes_on w es fs (opening w) no_history

pub to_the_end : {C : Type 0} (w : Fixed C) (Of : Tx → C → Type 0) (finish : C → List State → Alone) (es : List Event) (now : ℕ → List LogRecord) (y : Who) → Listed w Of finish es now → (s : Seen w es now y) → GoesOn w (reached w s.events) (history w s.events) (reached w es) (history w es)
to_the_end w Of finish es now y x s =
    let run = early w Of finish es now y x s in
    subst (λ z. GoesOn w (reached w s.events) (history w s.events) z (history w es)) (sym (ap (reached w) s.splits ∙ state_on w s.events s.later (opening w)))
    (subst (λ z. GoesOn w (reached w s.events) (history w s.events) (state_after w s.later (reached w s.events)) z) (sym (history_on w s.events s.later es s.splits))
    (goes_on w Of finish s.later (reached w s.events) (history w s.events) x.given (allowed_on w s.events s.later (opening w) (subst (IsRun w) s.splits x.run)) (all_good w Of finish s.events x.given run) (in_order w Of finish s.events x.given run)))

-- who is seen had committed with a value
had_committed : {C : Type 0} (w : Fixed C) (Of : Tx → C → Type 0) (finish : C → List State → Alone) (es : List Event) (now : ℕ → List LogRecord) (y : Who) → Listed w Of finish es now → (s : Seen w es now y) → in_either (history w s.events).kept (history w s.events).kept_readers y ≡ true
had_committed w Of finish es now y x s = in_kept w (reached w s.events) (history w s.events) s.cut y (in_order w Of finish s.events x.given (early w Of finish es now y x s)).known.logs.written s.has

pub seen_committed : {C : Type 0} (w : Fixed C) (Of : Tx → C → Type 0) (finish : C → List State → Alone) (es : List Event) (now : ℕ → List LogRecord) (y : Who) → Listed w Of finish es now → Seen w es now y → in_either (history w es).kept (history w es).kept_readers y ≡ true
seen_committed w Of finish es now y x s = either_on w (reached w s.events) (reached w es) (history w s.events) (history w es) y (to_the_end w Of finish es now y x s) (had_committed w Of finish es now y x s)

-- nobody is a reader and none
not_both : {C : Type 0} (w : Fixed C) (Of : Tx → C → Type 0) (finish : C → List State → Alone) (s : Machine C) (h : History) (y : Who) → AllGood w Of finish s h → is_kept y h.kept ≡ true → is_kept y h.kept_readers ≡ true → ⊥
unfolding ReadersOf
not_both w Of finish s h (OfBatch k) g e r = true≢false (sym r ∙ no_batch_reads w Of finish s h k g)
not_both w Of finish s h (OfAct t) g e r =
    let x = one_is reads_with_value (act_of t s.book.acts) (reader_there s.book.acts t h.kept_readers g.readers_of r) in
    let reader : is_reader_act (act_of t s.book.acts) ≡ true = ap is_reader_act x.1 ∙ (and_parts (is_value x.0.result) x.0.reader (and_parts (is_ordered x.0.status) (is_value x.0.result && x.0.reader) x.2).1).1 in
    true≢false (sym e ∙ reader_not_kept s h t g.acts reader)

-- ---- its records

none_among : (y : Who) (P : One → Bool) (os : List One) → ((o : One) → is_who y o.who ≡ true → P o ≡ true) → filter P os ≡ [] → names y os ≡ false
none_among y P [] k e = refl
none_among y P (o ∷ os) k e = by (P o) refl e (none_among y P os k)
  where
    by : (b : Bool) → P o ≡ b → (if b then o ∷ filter P os else filter P os) ≡ [] → (filter P os ≡ [] → names y os ≡ false) → (is_who y o.who || names y os) ≡ false
    by true p e r = absurd (cc e)
    by false p e r = or_from (is_who y o.who) (names y os) (false_from_ne_true (is_who y o.who) (λ q. true≢false (sym (k o q) ∙ p))) (r e)

-- at that moment all of them lie in the cut
pub in_the_cut : {C : Type 0} (w : Fixed C) (Of : Tx → C → Type 0) (finish : C → List State → Alone) (es : List Event) (now : ℕ → List LogRecord) (a : ℕ) (y : Who) → Listed w Of finish es now → (s : Seen w es now y)
    → (beyond : List One) × ((told_at w (reached w s.events) a ≡ told_states a (left_in (reached w s.events) s.cut (a % w.text.logs)) ++ beyond) × (names y beyond ≡ false))
unfolding NoneBehind
in_the_cut w Of finish es now a y x s =
    let run = early w Of finish es now y x s in
    let rs = (log_at (reached w s.events) (a % w.text.logs)).records in
    let n = s.cut (a % w.text.logs) in (
      told_states a (drop n rs),
      (
        ap (told_states a) (take_drop n rs) ∙ told_join a (take n rs) (drop n rs),
        none_among y (λ o. is_in w.text.logs (left_in (reached w s.events) s.cut) o.who) (told_states a (drop n rs)) (λ o q. subst (λ v. is_in w.text.logs (left_in (reached w s.events) s.cut) v ≡ true) (is_who_true y o.who q) s.has)
            (none_behind w Of finish (reached w s.events) (history w s.events) s.cut a s.is_cut (all_good w Of finish s.events x.given run) (in_order w Of finish s.events x.given run).known.logs (both_hold w Of finish s.events x.given run).once),
      ),
    )

not_named : (p : Who → Bool) (y : Who) (os : List One) → p y ≡ true → AllByRecursion (λ o. p o.who ≡ false) os → names y os ≡ false
not_named p y [] e h = refl
not_named p y (o ∷ os) e h = or_from (is_who y o.who) (names y os) (false_from_ne_true (is_who y o.who) (λ q. true≢false (sym e ∙ (ap p (is_who_true y o.who q) ∙ h.0)))) (not_named p y os e h.1)

-- none is added later
pub none_later : {C : Type 0} (w : Fixed C) (Of : Tx → C → Type 0) (finish : C → List State → Alone) (es : List Event) (now : ℕ → List LogRecord) (a : ℕ) (y : Who) → Listed w Of finish es now → (s : Seen w es now y)
    → (more : List One) × ((told_at w (reached w es) a ≡ told_at w (reached w s.events) a ++ more) × (names y more ≡ false))
none_later w Of finish es now a y x s =
    let t = (to_the_end w Of finish es now y x s).told a in
    (t.0, (t.1.0, not_named (in_either (history w s.events).kept (history w s.events).kept_readers) y t.0 (had_committed w Of finish es now y x s) t.1.1))

pub told_now_on : {C : Type 0} (w : Fixed C) (es : List Event) (now : ℕ → List LogRecord) (a : ℕ) (y : Who) → (s : Seen w es now y) → told_states a (now (a % w.text.logs)) ≡ told_states a (left_in (reached w s.events) s.cut (a % w.text.logs)) ++ told_states a (s.within (a % w.text.logs)).0
told_now_on w es now a y s = let m = s.within (a % w.text.logs) in ap (told_states a) m.1 ∙ told_join a (left_in (reached w s.events) s.cut (a % w.text.logs)) m.0

cancel : {X : Type 0} (xs ys zs : List X) → xs ++ ys ≡ xs ++ zs → ys ≡ zs
cancel [] ys zs e = e
cancel (x ∷ xs) ys zs e = cancel xs ys zs (cc e)

names_join : (y : Who) (xs ys : List One) → names y xs ≡ false → names y ys ≡ false → names y (xs ++ ys) ≡ false
names_join y [] ys e f = f
names_join y (x ∷ xs) ys e f = let p = or_parts (is_who y x.who) (names y xs) e in or_from (is_who y x.who) (names y (xs ++ ys)) p.0 (names_join y xs ys p.1 f)

names_back : (y : Who) (xs ys : List One) → names y (xs ++ ys) ≡ false → names y ys ≡ false
names_back y [] ys e = e
names_back y (x ∷ xs) ys e = names_back y xs ys (or_parts (is_who y x.who) (names y (xs ++ ys)) e).1

pub told_rest : {C : Type 0} (w : Fixed C) (Of : Tx → C → Type 0) (finish : C → List State → Alone) (es : List Event) (now : ℕ → List LogRecord) (a : ℕ) (x : Listed w Of finish es now) → told_at w (reached w es) a ≡ told_states a (now (a % w.text.logs)) ++ told_states a (x.rest (a % w.text.logs)).0
told_rest w Of finish es now a x = let m = x.rest (a % w.text.logs) in ap (told_states a) m.1 ∙ told_join a (now (a % w.text.logs)) m.0

-- so none lies behind what is read
pub none_beyond : {C : Type 0} (w : Fixed C) (Of : Tx → C → Type 0) (finish : C → List State → Alone) (es : List Event) (now : ℕ → List LogRecord) (a : ℕ) (y : Who) → (x : Listed w Of finish es now) → Seen w es now y → names y (told_states a (x.rest (a % w.text.logs)).0) ≡ false
none_beyond {C} w Of finish es now a y x s = names_back y (told_states a (s.within (a % w.text.logs)).0) (told_states a (x.rest (a % w.text.logs)).0) (ap (names y) same ∙ names_join y c.0 m.0 c.1.1 m.1.1)
  where
    c : (beyond : List One) × ((told_at w (reached w s.events) a ≡ told_states a (left_in (reached w s.events) s.cut (a % w.text.logs)) ++ beyond) × (names y beyond ≡ false))
    c = in_the_cut w Of finish es now a y x s

    m : (more : List One) × ((told_at w (reached w es) a ≡ told_at w (reached w s.events) a ++ more) × (names y more ≡ false))
    m = none_later w Of finish es now a y x s

    inside : List One
    inside = told_states a (left_in (reached w s.events) s.cut (a % w.text.logs))

    within : List One
    within = told_states a (s.within (a % w.text.logs)).0

    rest : List One
    rest = told_states a (x.rest (a % w.text.logs)).0

    same : within ++ rest ≡ c.0 ++ m.0
    same = cancel inside (within ++ rest) (c.0 ++ m.0)
        (sym (join_assoc inside within rest) ∙ (ap (λ z. z ++ rest) (sym (told_now_on w es now a y s)) ∙ (sym (told_rest w Of finish es now a x) ∙ (m.1.0 ∙ (ap (λ z. z ++ m.0) c.1.0 ∙ join_assoc inside c.0 m.0)))))

-- ---- what stands ahead of it

-- Each rival that committed and has its record ahead is in the cut, and in the lists, with its record ahead there.
pub ahead_seen : {C : Type 0} (w : Fixed C) (Of : Tx → C → Type 0) (finish : C → List State → Alone) (es : List Event) (now : ℕ → List LogRecord) (a : ℕ) (y z : Who) → Listed w Of finish es now → (s : Seen w es now y)
    → in_either (history w es).kept (history w es).kept_readers z ≡ true → (is_kept z (history w es).kept || is_kept y (history w es).kept) ≡ true → is_who z y ≡ false → is_ahead z y (told_at w (reached w es) a) ≡ true
    → (is_in w.text.logs (left_in (reached w s.events) s.cut) z ≡ true) × (is_in w.text.logs now z ≡ true) × (is_ahead z y (told_states a (now (a % w.text.logs))) ≡ true)
unfolding NoLess
ahead_seen {C} w Of finish es now a y z x s ez rival other i = (
  in_cut_too,
  in_more w.text.logs (left_in s1 s.cut) now z s.within in_cut_too,
  subst (λ os. is_ahead z y os ≡ true) (sym (told_now_on w es now a y s)) (ahead_more z y (told_states a (left_in s1 s.cut (a % w.text.logs))) (told_states a (s.within (a % w.text.logs)).0) in_cut),
)
  where
    s1 : Machine C
    s1 = reached w s.events

    h1 : History
    h1 = history w s.events

    run : IsRun w s.events
    run = early w Of finish es now y x s

    order : InOrder w Of finish (reached w s.events) (history w s.events)
    order = in_order w Of finish s.events x.given run

    good : AllGood w Of finish (reached w es) (history w es)
    good = all_good w Of finish es x.given x.run

    go : GoesOn w (reached w s.events) (history w s.events) (reached w es) (history w es)
    go = to_the_end w Of finish es now y x s

    ey : in_either (history w s.events).kept (history w s.events).kept_readers y ≡ true
    ey = had_committed w Of finish es now y x s

    there : is_ahead z y (told_at w (reached w s.events) a) ≡ true
    there = let m = none_later w Of finish es now a y x s in ahead_cut z y (told_at w (reached w s.events) a) m.0 m.1.1 (subst (λ os. is_ahead z y os ≡ true) m.1.0 i)

    in_cut : is_ahead z y (told_states a (left_in (reached w s.events) s.cut (a % w.text.logs))) ≡ true
    in_cut = let c = in_the_cut w Of finish es now a y x s in ahead_cut z y (told_states a (left_in (reached w s.events) s.cut (a % w.text.logs))) c.0 c.1.1 (subst (λ os. is_ahead z y os ≡ true) c.1.0 there)

    -- it had committed by then
    never : is_kept z (history w s.events).kept ≡ false → is_kept z (history w s.events).kept_readers ≡ false → ⊥
    never f r =
        let o = go.out a y z ey there f (λ k. r) in
        elim (or_cases (is_kept z (history w es).kept) (is_kept z (history w es).kept_readers) ez) [
          | inl q ↦ true≢false (sym q ∙ o.0)
          | inr q ↦ elim (or_cases (is_kept z (history w es).kept) (is_kept y (history w es).kept) rival) [ inl k ↦ true≢false (sym k ∙ o.0) | inr k ↦ true≢false (sym q ∙ o.1 k) ]
        ]

    committed_then : in_either (history w s.events).kept (history w s.events).kept_readers z ≡ true
    committed_then = elim (cases_Bool (is_kept z (history w s.events).kept)) [
      | inl q ↦ or_left (is_kept z (history w s.events).kept) _ q
      | inr q ↦ elim (cases_Bool (is_kept z (history w s.events).kept_readers)) [ inl r ↦ or_right (is_kept z (history w s.events).kept) _ r | inr r ↦ absurd (never q r) ]
    ]

    writer_then : (v : Who) → in_either (history w s.events).kept (history w s.events).kept_readers v ≡ true → is_kept v (history w es).kept ≡ true → is_kept v (history w s.events).kept ≡ true
    writer_then v e k = elim (or_cases (is_kept v (history w s.events).kept) (is_kept v (history w s.events).kept_readers) e) [ inl q ↦ q | inr q ↦ absurd (not_both w Of finish (reached w es) (history w es) v good k (go.readers v q)) ]

    rival_then : (is_kept z (history w s.events).kept || is_kept y (history w s.events).kept) ≡ true
    rival_then = elim (or_cases (is_kept z (history w es).kept) (is_kept y (history w es).kept) rival) [ inl q ↦ or_left (is_kept z (history w s.events).kept) _ (writer_then z committed_then q) | inr q ↦ or_right (is_kept z (history w s.events).kept) _ (writer_then y ey q) ]

    in_cut_too : is_in w.text.logs (left_in s1 s.cut) z ≡ true
    in_cut_too = sure_in w s1 s.cut z s.is_cut (order.sure a z y committed_then ey rival_then other there)
