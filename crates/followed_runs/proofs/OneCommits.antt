-- Who commits with an event, beside the records that are there: none of those that committed on the actor has its record behind, and
-- each of them is sure.
use Rattle.std.specs.Prelude.{◌≡◌, refl, ℕ, ◌%◌, ◌==◌, not, Bool, true, false, ◌&&◌, ◌||◌, ◌⊎◌, Option, Some, None, is_some, List, [], ◌∷◌, ◌++◌, filter}
use Rattle.std.specs.List.{AllByRecursion, list_any, list_all}
use Rattle.std.proofs.Common.{sym, ap, subst, inl, inr, ◌∙◌}
use Rattle.std.proofs.lemmas.List.{append-nil}
use Rattle.std.proofs.lemmas.Bool.{true≢false, or_cases, or_left, or_right, or_from, and_parts, and_from, eqb-true, eq-eqb, cases_Bool, false_from_ne_true, not-true}
use Rattle.snap_base.specs.declared.transactions.Tx.{Tx}
use Rattle.snap_base.specs.declared.transactions.State.{State}
use Rattle.snap_base.specs.declared.transactions.TxResult.{TxResult}
use Rattle.snap_base.specs.declared.transactions.TxResult.TheVariants.{Value, Fail}
use Rattle.snap_base.specs.declared.verdicts.Place.{Place}
use Rattle.protocol.specs.Facts.{Alone}
use Rattle.protocol.specs.Fixed.{Fixed}
use Rattle.protocol.specs.Records.{is_prepare}
use Rattle.protocol.specs.Chains.{stands_for}
use Rattle.protocol.specs.Parts.{Act, Joined, Status, Live, Doomed, Decided, Sealed, Log, Who, OfBatch, OfAct, Machine}
use Rattle.protocol.specs.Events.{Event, Commit, Decide}
use Rattle.protocol.specs.Verdicts.{act_place}
use Rattle.protocol.specs.Words.{holds, is_who, is_value, is_failure, is_doomed, is_sealed, is_ordered, is_live_status, is_vouched_everywhere, act_of, batch_of}
use Rattle.protocol.specs.Conditions.{IsAllowed, conditions}
use Rattle.protocol.specs.Effects.{after, cell_at, log_at}
use Rattle.protocol.specs.History.{Done, History, Ran, Stands, Gone, grown, act_view, slices_for, view_in, kept_act, kept_reader, done_batch, done_act, is_reader_act}
use Rattle.protocol_laws.specs.Commits.{is_kept, KeptAhead, last_state, reads_who}
use Rattle.protocol_laws.specs.Marks.{is_done, Recorded}
use Rattle.protocol_laws.specs.Told.{has_number, AmongDone}
use Rattle.protocol_laws.specs.Tracks.{keys_in, is_key_among, has_read}
use Rattle.protocol_laws.proofs.first.Lists.{any_front, any_take, some_of, weaker}
use Rattle.protocol_laws.proofs.first.Statuses.{live_not_doomed, live_unordered}
use Rattle.protocol_laws.proofs.machine.ActsKept.{Acts}
use Rattle.protocol_laws.proofs.machine.ActsTold.{ActsTold}
use Rattle.protocol_laws.proofs.machine.BatchesCommit as commits
use Rattle.protocol_laws.proofs.machine.CommitLists
use Rattle.protocol_laws.proofs.machine.CommitsKept.{Committed, MayDecide}
use Rattle.protocol_laws.proofs.machine.CommitsKept as chain
use Rattle.protocol_laws.proofs.machine.ReadersCommit.{ReadersOf, reads_with_value}
use Rattle.protocol_laws.proofs.machine.ReadersSee.{ReadBy, reads_at, not_read}
use Rattle.protocol_laws.proofs.machine.TrackLists.{is_who_true, is_who_refl}
use Rattle.protocol_laws.proofs.machine.TracksKept.{Tracked}
use Rattle.protocol_laws.proofs.machine.Good as whole
use Rattle.protocol_laws.proofs.machine.Good.{Given}
use Rattle.protocol_laws.proofs.machine.AllGood.{AllGood}
use Rattle.protocol_laws.proofs.machine.AllGood as all
use Rattle.protocol_theorems.specs.Placed.{has_done, is_done_at}
use Rattle.protocol_theorems.proofs.order.ChainsKept.{IsOver, no_done, Owes}
use Rattle.protocol_theorems.proofs.order.LastLaw.{Whole}
use Rattle.protocol_theorems.proofs.order.OwedHolds.{owed}
use Rattle.protocol_theorems.proofs.order.RunsBefore.{lives}
use Rattle.protocol_records.specs.Logged.{durable_at, is_sure, is_on, has_joined, came_valued, ActsSure, ActsStand, Prepared}
use Rattle.protocol_records.specs.Telling.{One, names, FrontIn, last_one, writes, RecoversEachActor, ToldRead, ToldReads, is_uncommitted_writer, AllNoneLater}
use Rattle.protocol_records.proofs.crash.AsideLists.{told_now}
use Rattle.protocol_records.proofs.crash.CrashParts.{Logs}
use Rattle.protocol_records.proofs.crash.DonesSure.{has_view, own_act}
use Rattle.protocol_records.proofs.crash.Durable.{any_back}
use Rattle.protocol_records.proofs.crash.KeptAll.{reader_there}
use Rattle.protocol_records.proofs.crash.KeptSure.{SureOf, sure_of, AtDecide, at_decide, commit_sure, decide_sure}
use Rattle.protocol_records.proofs.crash.OnLong.{on_key}
use Rattle.protocol_records.proofs.crash.ReadersOver.{one_behind, ahead_kept, ahead_done, stands_unsealed}
use Rattle.protocol_records.proofs.crash.ReadersSure.{reader_not_kept, reader_sure}
use Rattle.protocol_records.proofs.crash.RecoverLists.{Commits1, all_in}
use Rattle.protocol_records.proofs.crash.RecoversKept.{one_batch, one_act, act_record_on, first_of, named_act}
use Rattle.protocol_records.proofs.crash.TellsKept.{told_same, told_commit, told_all, no_batch_reads}
use Rattle.followed_runs.specs.Following.{is_ahead}
use Rattle.followed_runs.proofs.Ahead.{ahead_first, ahead_second, open_ahead, told_ahead, of_named}
use Rattle.followed_runs.proofs.ReadersFirst.{told_at, is_pending, has_value_there, ReadersFirst, PendingLast, commits_not_behind}

-- it committed with a value, a reader or not
abbrev pub in_either : List Who → List Who → Who → Bool
in_either kept readers y = is_kept y kept || is_kept y readers

-- ---- what is known before the event

pub record Known {C : Type 0} (w : Fixed C) (Of : Tx → C → Type 0) (finish : C → List State → Alone) (s : Machine C) (h : History) : Type 0 where
  pub logs : Logs w s h
  pub whole : Whole w Of finish s h
  pub recovers : RecoversEachActor w s h
  pub reads : ToldReads w s h
  pub none_later : AllNoneLater w s h
  pub first : ReadersFirst w s h
  pub last : PendingLast w s h

known_sure : {C : Type 0} (w : Fixed C) (Of : Tx → C → Type 0) (finish : C → List State → Alone) (s : Machine C) (h : History) → Known w Of finish s h → SureOf (is_sure w.text.logs s.logs) s h
known_sure w Of finish s h k = sure_of w s h k.logs.batches k.logs.acts k.logs.gone

-- ---- who commits

-- one more has its place, with a value
pub record OneMore {C : Type 0} (w : Fixed C) (e : Event) (s : Machine C) (h : History) (u : Who) : Type 0 where
  pub told : (a : ℕ) → told_at w (after w e s) a ≡ told_at w s a
  pub long : (a : ℕ) → (grown w e s h).long a ≡ h.long a
  pub ds : List Done
  pub done : (grown w e s h).committed ≡ h.committed ++ ds
  pub own : AllByRecursion (λ d. d.who ≡ u) ds
  pub fresh : is_kept u h.kept ≡ false
  pub unread : is_kept u h.kept_readers ≡ false
  pub came : (a : ℕ) → AllByRecursion (λ d. came_valued a d ≡ true → names u (told_at w s a) ≡ true) ds

-- and does not only read
pub record Writes {C : Type 0} (w : Fixed C) (e : Event) (s : Machine C) (h : History) (u : Who) : Type 0 where
  pub one : OneMore w e s h u
  pub kept : (grown w e s h).kept ≡ h.kept ++ u ∷ []
  pub readers : (grown w e s h).kept_readers ≡ h.kept_readers
  pub pending : (a : ℕ) (y : Who) → is_pending s.book.acts y ≡ true → is_ahead y u (told_at w s a) ≡ true → ⊥
  pub not_ahead : (a : ℕ) (z : Who) → in_either h.kept h.kept_readers z ≡ true → is_ahead u z (told_at w s a) ≡ true → ⊥
  pub sure : (a : ℕ) (z : Who) → in_either h.kept h.kept_readers z ≡ true → is_ahead z u (told_at w s a) ≡ true → is_sure w.text.logs s.logs z ≡ true
  pub has_record : (a : ℕ) → is_on u (h.long a) ≡ true → names u (told_at w s a) ≡ true

-- and only reads
pub record Reads {C : Type 0} (w : Fixed C) (e : Event) (s : Machine C) (h : History) (u : Who) : Type 0 where
  pub one : OneMore w e s h u
  pub kept : (grown w e s h).kept ≡ h.kept
  pub readers : (grown w e s h).kept_readers ≡ h.kept_readers ++ u ∷ []
  pub by_readers : AllByRecursion (λ d. d.reader ≡ true) one.ds
  pub not_ahead : (a : ℕ) (z : Who) → is_kept z h.kept ≡ true → is_ahead u z (told_at w s a) ≡ true → ⊥
  pub sure : (a : ℕ) (z : Who) → is_kept z h.kept ≡ true → is_ahead z u (told_at w s a) ≡ true → is_sure w.text.logs s.logs z ≡ true
  pub state : (a : ℕ) → names u (told_at w s a) ≡ true → AllByRecursion (λ o. is_who u o.who ≡ true → o.state ≡ (cell_at s a).state) (told_at w s a)
  pub last : (a : ℕ) → names u (told_at w s a) ≡ true → last_one (first_of w a) (filter (λ o. is_kept o.who h.kept) (told_at w s a)) ≡ (cell_at s a).state

-- nobody has its place with a value
pub record Nobody {C : Type 0} (w : Fixed C) (e : Event) (s : Machine C) (h : History) : Type 0 where
  pub kept : (grown w e s h).kept ≡ h.kept
  pub readers : (grown w e s h).kept_readers ≡ h.kept_readers
  pub ds : List Done
  pub done : (grown w e s h).committed ≡ h.committed ++ ds
  pub none : AllByRecursion (λ d. is_value d.result ≡ false) ds

-- ---- who committed, and has a record of the actor, is on it

done_on : (k : ℕ) (rs : List Ran) → is_done k rs ≡ true → is_on (OfBatch k) rs ≡ true
done_on k [] h = h
done_on k (Stands y c ss ∷ rs) h = elim (or_cases (c && is_who y (OfBatch k)) (is_done k rs) h) [ inl q ↦ or_left (is_who y (OfBatch k)) _ (and_parts c (is_who y (OfBatch k)) q).1 | inr q ↦ or_right (is_who y (OfBatch k)) _ (done_on k rs q) ]
done_on k (Gone y ss ∷ rs) h = elim (or_cases (is_who y (OfBatch k)) (is_done k rs) h) [ inl q ↦ or_left (is_who y (OfBatch k)) _ q | inr q ↦ or_right (is_who y (OfBatch k)) _ (done_on k rs q) ]

placed_sound : (st : Status) → is_ordered st ≡ true → is_doomed st ≡ false
placed_sound Live e = refl
placed_sound (Doomed v) e = absurd (true≢false (sym e))
placed_sound (Decided c) e = refl
placed_sound (Sealed c) e = refl

pub named_on : {C : Type 0} (w : Fixed C) (Of : Tx → C → Type 0) (finish : C → List State → Alone) (s : Machine C) (h : History) (a : ℕ) (z : Who) → AllGood w Of finish s h → ActsStand s h → Prepared w s → is_kept z h.kept ≡ true → names z (told_at w s a) ≡ true → is_on z (h.long a) ≡ true
unfolding Recorded Acts
named_on w Of finish s h a z g st pr kz n = of_named (λ y. is_kept y h.kept ≡ true → is_on y (h.long a) ≡ true) z (told_at w s a)
    (told_all (λ y. is_kept y h.kept ≡ true → is_on y (h.long a) ≡ true) a (log_at s (a % w.text.logs)).records
    (λ j q kk. elim (g.good.recorded j a q) [
      | inr u ↦ done_on j (h.long a) u
      | inl u ↦ absurd (true≢false (sym kk ∙ commits.cuts_fresh w s h g.good.settling g.good.known g.good.marked (OfBatch j) u))
    ])
    (λ t q kk. act_record_on w s h t a st pr q (λ x e.
    let v = and_parts (is_ordered x.status) (is_value x.result && not x.reader) (sym (g.acts t x e).known ∙ kk) in
    (placed_sound x.status v.0, not-true x.reader (and_parts (is_value x.result) (not x.reader) v.1).1)))) n kz

-- ---- a reader that committed, where one commits that does not only read

number_of : (st : Status) → is_ordered st ≡ true → (c : ℕ) × (has_number c st ≡ true)
number_of Live e = absurd (true≢false (sym e))
number_of (Doomed v) e = absurd (true≢false (sym e))
number_of (Decided d) e = (d, eq-eqb d d refl)
number_of (Sealed d) e = (d, eq-eqb d d refl)

any_split : (p : Done → Bool) (front : List Done) (d : Done) (rest : List Done) → p d ≡ true → list_any p (front ++ d ∷ rest) ≡ true
any_split p [] d rest e = or_left (p d) _ e
any_split p (x ∷ xs) d rest e = or_right (p x) _ (any_split p xs d rest e)

among_done : (a t n : ℕ) (p : Place) (r : Option TxResult) (ds : List Done) → AmongDone (OfAct t) t n p r ds → is_done_at a ds (OfAct t) ≡ true
among_done a t n p r ds d = subst (λ ds. list_any (stands_for a (OfAct t)) ds ≡ true) (sym d.splits) (any_split (stands_for a (OfAct t)) d.front d.done d.rest (subst (λ y. (is_who (OfAct t) y && true) ≡ true) (sym d.who) (and_from (t == t) true (eq-eqb t t refl) refl)))

reader_is_sure : {C : Type 0} (w : Fixed C) (Of : Tx → C → Type 0) (finish : C → List State → Alone) (s : Machine C) (h : History) (a t : ℕ) (u : Who) (sure : Who → Bool) → AllGood w Of finish s h → Whole w Of finish s h → Prepared w s → SureOf sure s h → is_kept u h.kept ≡ false → has_done h.committed u ≡ false → reads_who s.book.acts u ≡ false
    → is_key_among u (keys_in (h.long a)) ≡ true → KeptAhead h.kept u (h.long a) → is_kept (OfAct t) h.kept_readers ≡ true → names (OfAct t) (told_at w s a) ≡ true → sure (OfAct t) ≡ true
unfolding Tracked ActsTold ReadersOf
reader_is_sure w Of finish s h a t u sure g wh pr su fresh undone other there ahead k n =
    let x = has_value_there w s t a pr n in
    let v = and_parts (is_ordered x.0.status) (is_value x.0.result && x.0.reader) (subst (λ o. holds reads_with_value o ≡ true) x.1.0 (reader_there s.book.acts t h.kept_readers g.readers_of k)) in
    let reader : is_reader_act (act_of t s.book.acts) ≡ true = ap is_reader_act x.1.0 ∙ (and_parts (is_value x.0.result) x.0.reader v.1).1 in
    let c = number_of x.0.status v.0 in
    let d = g.told t x.0 x.1.0 c.0 c.1 in
    let done : is_done_at a h.committed (OfAct t) ≡ true = among_done a t x.0.tx (act_place x.0.m c.0) x.0.result h.committed d in
    elim (cases_Bool (is_sealed x.0.status)) [
      | inl q ↦ su.sealed t (subst (λ o. holds (λ x. is_sealed x.status && is_value x.result) o ≡ true) (sym x.1.0) (and_from (is_sealed x.0.status) (is_value x.0.result) q x.1.1.0))
      | inr q ↦
          let stands : is_key_among (OfAct t) (keys_in (h.long a)) ≡ true = subst (λ z. is_key_among (OfAct t) z ≡ true) (g.good.tracked a).stands (stands_unsealed s t a x.0 g.left g.standing x.1.0 (placed_sound x.0.status v.0) q x.1.1.1) in
          let differ : is_who u (OfAct t) ≡ false = false_from_ne_true (is_who u (OfAct t)) (λ i. true≢false (sym reader ∙ (ap (reads_who s.book.acts) (sym (is_who_true u (OfAct t) i)) ∙ other))) in
          absurd (elim (one_behind u (OfAct t) (keys_in (h.long a)) differ there stands) [
            | inl b ↦ elim (or_cases (is_kept u h.kept || has_done h.committed u) (reads_who s.book.acts u) (ahead_done a (reads_who s.book.acts) h.kept h.committed (keys_in (h.long a)) (h.placed a) (keys_in (h.long a)) u (OfAct t) (wh.ordered.chained.chains a).front (wh.ordered.chained.chains a).in_order b done there)) [
              | inl i ↦ true≢false (sym i ∙ or_from (is_kept u h.kept) (has_done h.committed u) fresh undone)
              | inr i ↦ true≢false (sym i ∙ other)
            ]
            | inr b ↦ true≢false (sym (ahead_kept h.kept (OfAct t) u (h.long a) ahead b) ∙ reader_not_kept s h t g.acts reader)
          ])
    ]

-- ---- one commits that does not only read

-- what is brought of it
record Brought {C : Type 0} (w : Fixed C) (s : Machine C) (h : History) (ds : List Done) (u : Who) : Type 0 where
  commits : (a : ℕ) → Commits1 a (reads_who s.book.acts) (first_of w a) h.kept h.committed ds u (h.long a) (told_at w s a)
  unread : is_kept u h.kept_readers ≡ false
  undone : has_done h.committed u ≡ false
  sure : (a : ℕ) → is_on u (h.long a) ≡ true → (z : Who) → is_kept z h.kept ≡ true → is_on z (h.long a) ≡ true → is_sure w.text.logs s.logs z ≡ true

writes_of : {C : Type 0} (w : Fixed C) (Of : Tx → C → Type 0) (finish : C → List State → Alone) (e : Event) (s : Machine C) (h : History) (ds : List Done) (u : Who) → AllGood w Of finish s h → Known w Of finish s h → Brought w s h ds u
    → ((a : ℕ) → told_at w (after w e s) a ≡ told_at w s a) → ((a : ℕ) → (grown w e s h).long a ≡ h.long a) → (grown w e s h).committed ≡ h.committed ++ ds → (grown w e s h).kept ≡ h.kept ++ u ∷ [] → (grown w e s h).kept_readers ≡ h.kept_readers → Writes w e s h u
unfolding AllNoneLater
writes_of {C} w Of finish e s h ds u g b c told long done kept readers = record {
  one = record {
    told = told;
    long = long;
    ds = ds;
    done = done;
    own = (c.commits 0).own;
    fresh = fresh;
    unread = c.unread;
    came = λ a. weaker (λ d. is_some (d.views a) ≡ true → is_on u (h.long a) ≡ true) (λ d. came_valued a d ≡ true → names u (told_at w s a) ≡ true) ds (λ d k q. (c.commits a).has_record (k (and_parts (is_some (d.views a)) (is_value d.result) q).0)) (c.commits a).came;
  };
  kept = kept;
  readers = readers;
  pending = λ a y p i. commits_not_behind w Of finish s h a y u g b.whole b.logs.prepared b.first other ((c.commits a).ahead) (key a (on a (ahead_second y u (told_at w s a) i))) p i;
  not_ahead = λ a z k i. elim (or_cases (is_kept z h.kept) (is_kept z h.kept_readers) k) [
    | inl q ↦ told_ahead (reads_who s.book.acts) (first_of w a) u z h.kept (h.long a) (told_at w s a) other fresh (c.commits a).front (on a (ahead_first u z (told_at w s a) i)) q (kept_on a z q (ahead_second u z (told_at w s a) i)) (c.commits a).tells i
    | inr q ↦ open_ahead (is_uncommitted_writer (reads_who s.book.acts) h.kept (h.long a)) h.kept_readers u z (told_at w s a) (b.none_later a) (open_there a (on a (ahead_first u z (told_at w s a) i))) q i
  ];
  sure = λ a z k i. elim (or_cases (is_kept z h.kept) (is_kept z h.kept_readers) k) [
    | inl q ↦ c.sure a (on a (ahead_second z u (told_at w s a) i)) z q (kept_on a z q (ahead_first z u (told_at w s a) i))
    | inr q ↦ of_reader a z q i
  ];
  has_record = λ a o. (c.commits a).has_record o;
}
  where
    fresh : is_kept u h.kept ≡ false
    fresh = (c.commits 0).fresh

    other : reads_who s.book.acts u ≡ false
    other = (c.commits 0).other

    self_kept : is_kept u (h.kept ++ u ∷ []) ≡ true
    self_kept = any_back (λ z. is_who z u) h.kept (u ∷ []) (or_left (is_who u u) false (is_who_refl u))

    on : (a : ℕ) → names u (told_at w s a) ≡ true → is_on u (h.long a) ≡ true
    on a n = of_named (λ y. is_kept y (h.kept ++ u ∷ []) ≡ true → is_on y (h.long a) ≡ true) u (told_at w s a) (c.commits a).recorded n self_kept

    kept_on : (a : ℕ) (z : Who) → is_kept z h.kept ≡ true → names z (told_at w s a) ≡ true → is_on z (h.long a) ≡ true
    kept_on a z k n = of_named (λ y. is_kept y (h.kept ++ u ∷ []) ≡ true → is_on y (h.long a) ≡ true) z (told_at w s a) (c.commits a).recorded n (any_front (λ v. is_who v z) h.kept (u ∷ []) k)

    key : (a : ℕ) → is_on u (h.long a) ≡ true → is_key_among u (keys_in (h.long a)) ≡ true
    key a o = on_key h.kept u (h.long a) fresh (c.commits a).front o

    open_there : (a : ℕ) → is_on u (h.long a) ≡ true → is_uncommitted_writer (reads_who s.book.acts) h.kept (h.long a) u ≡ true
    open_there a o = and_from (is_on u (h.long a)) (not (is_kept u h.kept) && not (reads_who s.book.acts u)) o (and_from (not (is_kept u h.kept)) (not (reads_who s.book.acts u)) (ap not fresh) (ap not other))

    of_reader : (a : ℕ) (z : Who) → is_kept z h.kept_readers ≡ true → is_ahead z u (told_at w s a) ≡ true → is_sure w.text.logs s.logs z ≡ true
    of_reader a (OfBatch k) q i = absurd (true≢false (sym q ∙ no_batch_reads w Of finish s h k g))
    of_reader a (OfAct t) q i = reader_is_sure w Of finish s h a t u (is_sure w.text.logs s.logs) g b.whole b.logs.prepared (known_sure w Of finish s h b) fresh c.undone other (key a (on a (ahead_second (OfAct t) u (told_at w s a) i))) (c.commits a).ahead q (ahead_first (OfAct t) u (told_at w s a) i)

-- ---- a reader gets its place

-- where it has a record it stands, and has read
record ReadsThere {C : Type 0} (s : Machine C) (h : History) (t a : ℕ) : Type 0 where
  act : Act
  is_it : act_of t s.book.acts ≡ Some act
  may : MayDecide s h t act
  reader : act.reader ≡ true
  view : is_some (act_view h act a) ≡ true
  read : has_read (h.reads a) t ≡ true
  stands : is_key_among (OfAct t) (keys_in (h.long a)) ≡ true

reads_there : {C : Type 0} (w : Fixed C) (Of : Tx → C → Type 0) (finish : C → List State → Alone) (t a : ℕ) (s : Machine C) (h : History) → Given w Of finish → IsAllowed w (Decide t) s → AllGood w Of finish s h → Whole w Of finish s h → Prepared w s → (x : AtDecide s h t) → x.act.reader ≡ true → names (OfAct t) (told_at w s a) ≡ true → ReadsThere s h t a
unfolding chain.Assumed Owes Tracked
reads_there {C} w Of finish t a s h v ok g wh pr x r n =
    let m = whole.for_chain w Of finish (Decide t) s h v ok (all.owes w Of finish (Decide t) s h v ok g) g.good in
    let same : x.act ≡ m.0 = cc (sym x.found ∙ m.1.is_it) in
    let y = has_value_there w s t a pr n in
    let place : has_joined a x.act ≡ true = let z : y.0 ≡ x.act = cc (sym y.1.0 ∙ x.found) in subst (λ u. has_joined a u ≡ true) z y.1.1.1 in
    let stands : is_key_among (OfAct t) (keys_in (h.long a)) ≡ true = subst (λ z. is_key_among (OfAct t) z ≡ true) (g.good.tracked a).stands (stands_unsealed s t a x.act g.left g.standing x.found (live_not_doomed x.act.status x.live) (unsealed x.act.status x.live) place) in
    let view : is_some (act_view h x.act a) ≡ true = (owed w Of finish (Decide t) s h v ok wh.once g).placing x.act x.found a stands in
    record { act = x.act; is_it = x.found; may = subst (λ z. MayDecide s h t z) (sym same) m.1; reader = r; view = view; read = has_view t a h x.act x.tid r view; stands = stands }
  where
    unsealed : (st : Status) → is_live_status st ≡ true → is_sealed st ≡ false
    unsealed Live e = refl
    unsealed (Doomed d) e = absurd (true≢false (sym e))
    unsealed (Decided c) e = refl
    unsealed (Sealed c) e = absurd (true≢false (sym e))

any_set : (on : Who → Bool) (ys : List Who) → FrontIn (λ y. true) on ys
any_set on [] = tt
any_set on (y ∷ ys) = ((λ e q. refl), any_set on ys)

-- the last of all that committed there leaves the state that the actor has
last_is_now : {C : Type 0} (w : Fixed C) (Of : Tx → C → Type 0) (finish : C → List State → Alone) (t a : ℕ) (s : Machine C) (h : History) → AllGood w Of finish s h → Whole w Of finish s h → ReadsThere s h t a → last_state a (first_of w a) (filter writes h.committed) ≡ (cell_at s a).state
unfolding Committed Tracked
last_is_now w Of finish t a s h g wh r =
    all_in a writes (first_of w a) h.committed (each h.committed) (wh.ordered.stills a) (g.good.committed a).links
    ∙ sym (CommitLists.now_last (first_of w a) (cell_at s a).state (last_state a (first_of w a) h.committed) h.kept (h.long a) (g.good.committed a).front ((r.may.reads r.reader a).all_kept seen) (g.good.committed a).ends (g.good.tracked a).links)
  where
    each : (ds : List Done) → AllByRecursion (λ d. is_some (d.views a) ≡ true → writes d ≡ true → writes d ≡ true) ds
    each [] = tt
    each (d ∷ ds) = ((λ c e. e), each ds)

    seen : is_some (view_in t (h.reads a)) ≡ true
    seen = subst (λ n. is_some (view_in n (h.reads a)) ≡ true) r.may.tid (subst (λ v. is_some (view_in r.act.tid (slices_for v r.act.tid (h.reads a) (h.long a))) ≡ true) r.reader r.view)

-- where it came it has a record
all_places : (many : ℕ) (logs : List Log) (t a : ℕ) (ps : List Joined) → list_any (λ p. p.actor == a) ps ≡ true → list_all (λ p. p.vouched) ps ≡ true → AllByRecursion (λ p. p.vouched ≡ true → durable_at (is_prepare t p.actor) logs (p.actor % many) ≡ true) ps → durable_at (is_prepare t a) logs (a % many) ≡ true
all_places many logs t a [] e v h = absurd (true≢false (sym e))
all_places many logs t a (p ∷ ps) e v h = let u = and_parts p.vouched (list_all (λ p. p.vouched) ps) v in elim (or_cases (p.actor == a) _ e) [
  | inl q ↦ subst (λ z. durable_at (is_prepare t z) logs (z % many) ≡ true) (eqb-true p.actor a q) (h.0 u.0)
  | inr q ↦ all_places many logs t a ps q u.1 h.1
]

value_fails : (r : Option TxResult) → is_value r ≡ true → is_failure r ≡ false
value_fails None e = refl
value_fails (Some (Value v)) e = refl
value_fails (Some (Fail v)) e = absurd (true≢false (sym e))

came_named : {C : Type 0} (w : Fixed C) (Of : Tx → C → Type 0) (finish : C → List State → Alone) (t a : ℕ) (s : Machine C) (h : History) (x : Act) → IsAllowed w (Decide t) s → AllGood w Of finish s h → ActsSure w s → act_of t s.book.acts ≡ Some x → x.tid ≡ t → x.reader ≡ true → is_value x.result ≡ true → is_some (act_view h x a) ≡ true
    → names (OfAct t) (told_at w s a) ≡ true
unfolding conditions ActsSure ReadBy
came_named w Of finish t a s h x ok g su e i r v q =
    let read : has_read (h.reads a) t ≡ true = has_view t a h x i r q in
    let place : has_joined a x ≡ true = (and_parts x.reader (has_joined a x) (reads read)).1 in
    let vouched : list_all (λ p. p.vouched) x.places ≡ true = elim (or_cases (is_failure x.result) (is_vouched_everywhere x) (some_of (λ x. is_failure x.result || is_vouched_everywhere x) (act_of t s.book.acts) x e ok.1.0)) [ inl f ↦ absurd (true≢false (sym f ∙ value_fails x.result v)) | inr f ↦ f ] in
    named_act t a (log_at s (a % w.text.logs)).records (any_take (is_prepare t a) (log_at s (a % w.text.logs)).synced (log_at s (a % w.text.logs)).records (all_places w.text.logs s.logs t a x.places place vouched (su t x e).vouched))
  where
    reads : has_read (h.reads a) t ≡ true → (x.reader && has_joined a x) ≡ true
    reads z = elim (cases_Bool (x.reader && has_joined a x)) [
      | inl q ↦ q
      | inr q ↦ absurd (true≢false (sym z ∙ not_read a t s.book.acts (h.reads a) (subst (λ o. holds (reads_at a) o ≡ false) (sym e) q) (g.read_by a)))
    ]

unread : {C : Type 0} (w : Fixed C) (Of : Tx → C → Type 0) (finish : C → List State → Alone) (t : ℕ) (s : Machine C) (h : History) → AllGood w Of finish s h → (x : AtDecide s h t) → is_kept (OfAct t) h.kept_readers ≡ false
unfolding ReadersOf
unread w Of finish t s h g x = false_from_ne_true (is_kept (OfAct t) h.kept_readers) (λ q.
    let v = and_parts (is_ordered x.act.status) (is_value x.act.result && x.act.reader) (subst (λ o. holds reads_with_value o ≡ true) x.found (reader_there s.book.acts t h.kept_readers g.readers_of q)) in
    true≢false (sym v.0 ∙ live_unordered x.act.status x.live))

reads_of : {C : Type 0} (w : Fixed C) (Of : Tx → C → Type 0) (finish : C → List State → Alone) (t : ℕ) (s : Machine C) (h : History) → Given w Of finish → IsAllowed w (Decide t) s → AllGood w Of finish s h → Known w Of finish s h → (x : AtDecide s h t) → is_value x.act.result ≡ true → x.act.reader ≡ true → Reads w (Decide t) s h (OfAct t)
unfolding grown after RecoversEachActor ToldReads
reads_of {C} w Of finish t s h v ok g b x n r = record {
  one = record {
    told = λ a. told_same a _ s.logs (t % w.text.logs) (a % w.text.logs) (told_commit a s.book.next_c (act_of t s.book.acts));
    long = λ a. refl;
    ds = done_act s.book.next_c h (act_of t s.book.acts);
    done = refl;
    own = own_act s.book.next_c t h (act_of t s.book.acts) x.act x.found x.tid;
    fresh = x.fresh;
    unread = unread w Of finish t s h g x;
    came = λ a. subst (λ o. AllByRecursion (λ d. came_valued a d ≡ true → names (OfAct t) (told_at w s a) ≡ true) (done_act s.book.next_c h o)) (sym x.found) ((λ q. came_named w Of finish t a s h x.act ok g b.logs.acts x.found x.tid r n (and_parts (is_some (act_view h x.act a)) (is_value x.act.result) q).0), tt);
  };
  kept = ap (λ z. h.kept ++ kept_act z) x.found ∙ (ap (λ z. h.kept ++ z) (rw (n, r) refl) ∙ append-nil h.kept);
  readers = ap (λ z. h.kept_readers ++ kept_reader z) x.found ∙ ap (λ z. h.kept_readers ++ z) (rw (n, r, x.tid) refl);
  by_readers = subst (λ o. AllByRecursion (λ d. d.reader ≡ true) (done_act s.book.next_c h o)) (sym x.found) (r, tt);
  not_ahead = λ a z k i. b.last a (OfAct t) z pending k i;
  sure = λ a z k i.
      let y = there a (ahead_second z (OfAct t) (told_at w s a) i) in
      reader_sure w Of finish t a s h (is_sure w.text.logs s.logs) ok g (known_sure w Of finish s h b) (ap is_reader_act x.found ∙ r) y.read y.stands z k (named_on w Of finish s h a z g b.logs.stand b.logs.prepared k (ahead_first z (OfAct t) (told_at w s a) i));
  state = λ a m. weaker (ToldRead (h.reads a)) (λ o. is_who (OfAct t) o.who ≡ true → o.state ≡ (cell_at s a).state) (told_at w s a) (λ o k e. tells a o k e (there a m)) (b.reads a);
  last = λ a m. b.recovers a (λ y. true) (any_set (λ y. is_on y (h.long a)) h.kept) ∙ last_is_now w Of finish t a s h g b.whole (there a m);
}
  where
    pending : is_pending s.book.acts (OfAct t) ≡ true
    pending = subst (λ o. holds (λ x. x.reader && is_live_status x.status) o ≡ true) (sym x.found) (and_from x.act.reader (is_live_status x.act.status) r x.live)

    there : (a : ℕ) → names (OfAct t) (told_at w s a) ≡ true → ReadsThere s h t a
    there a m = reads_there w Of finish t a s h v ok g b.whole b.logs.prepared x r m

    tells : (a : ℕ) (o : One) → ToldRead (h.reads a) o → is_who (OfAct t) o.who ≡ true → ReadsThere s h t a → o.state ≡ (cell_at s a).state
    tells a o k e y = told_now t o.state (cell_at s a).state (h.reads a) y.read (subst (λ z. AllByRecursion (λ x. is_who z (OfAct x.tid) ≡ true → x.found ≡ o.state) (h.reads a)) (sym (is_who_true (OfAct t) o.who e)) k) (y.may.seen y.reader a)

-- ---- an event

pub commits_now : {C : Type 0} (w : Fixed C) (Of : Tx → C → Type 0) (finish : C → List State → Alone) (e : Event) (s : Machine C) (h : History) → Given w Of finish → IsAllowed w e s → AllGood w Of finish s h → Known w Of finish s h → Nobody w e s h ⊎ (((u : Who) × Writes w e s h u) ⊎ ((u : Who) × Reads w e s h u))
unfolding grown after
commits_now w Of finish (Commit k) s h v ok g b =
    let c : (a : ℕ) → Commits1 a (reads_who s.book.acts) (first_of w a) h.kept h.committed (done_batch k h (batch_of k s.desk.batches)) (OfBatch k) (h.long a) (told_at w s a) = λ a. one_batch w Of finish k a s h v ok g b.logs.batches b.logs.stand b.logs.prepared b.logs.there b.logs.telling b.whole in
    inr (inl (
      OfBatch k,
      writes_of w Of finish (Commit k) s h (done_batch k h (batch_of k s.desk.batches)) (OfBatch k) g b
          (record {
            commits = c;
            unread = no_batch_reads w Of finish s h k g;
            undone = no_done (OfBatch k) (IsOver s.ring.next_tid s.book.acts h.kept) h.committed (λ q. true≢false (sym q ∙ (c 0).fresh)) b.whole.ordered.chained.over;
            sure = λ a on z kz oz. commit_sure w Of finish k a s h (is_sure w.text.logs s.logs) ok g (known_sure w Of finish s h b) on z kz oz;
          })
          (λ a. told_same a _ s.logs (k % w.text.logs) (a % w.text.logs) refl) (λ a. refl) refl refl refl,
    ))
commits_now {C} w Of finish (Decide t) s h v ok g b = by (at_decide w Of finish t s h ok g)
  where
    told : (a : ℕ) → told_at w (after w (Decide t) s) a ≡ told_at w s a
    told a = told_same a _ s.logs (t % w.text.logs) (a % w.text.logs) (told_commit a s.book.next_c (act_of t s.book.acts))

    by : AtDecide s h t → Nobody w (Decide t) s h ⊎ (((u : Who) × Writes w (Decide t) s h u) ⊎ ((u : Who) × Reads w (Decide t) s h u))
    by x = elim (cases_Bool (is_value x.act.result)) [
      | inr n ↦ inl (record {
        kept = ap (λ z. h.kept ++ kept_act z) x.found ∙ (ap (λ z. h.kept ++ z) (rw n refl) ∙ append-nil h.kept);
        readers = ap (λ z. h.kept_readers ++ kept_reader z) x.found ∙ (ap (λ z. h.kept_readers ++ z) (rw n refl) ∙ append-nil h.kept_readers);
        ds = done_act s.book.next_c h (act_of t s.book.acts);
        done = refl;
        none = subst (λ o. AllByRecursion (λ d. is_value d.result ≡ false) (done_act s.book.next_c h o)) (sym x.found) (n, tt);
      })
      | inl n ↦ elim (cases_Bool x.act.reader) [
        | inl r ↦ inr (inr (OfAct t, reads_of w Of finish t s h v ok g b x n r))
        | inr r ↦
            let c : (a : ℕ) → Commits1 a (reads_who s.book.acts) (first_of w a) h.kept h.committed (done_act s.book.next_c h (Some x.act)) (OfAct t) (h.long a) (told_at w s a) = λ a. one_act w Of finish t a s h x.act v ok g b.logs.acts b.logs.stand b.logs.joined b.logs.prepared b.logs.there b.logs.telling b.whole x.found x.tid n r x.live in
            inr (inl (
              OfAct t,
              writes_of w Of finish (Decide t) s h (done_act s.book.next_c h (Some x.act)) (OfAct t) g b
                  (record {
                    commits = c;
                    unread = unread w Of finish t s h g x;
                    undone = no_done (OfAct t) (IsOver s.ring.next_tid s.book.acts h.kept) h.committed (λ q. true≢false (sym (subst (λ o. holds lives o ≡ true) (sym x.found) x.live) ∙ q.1)) b.whole.ordered.chained.over;
                    sure = λ a on z kz oz. decide_sure w Of finish t a s h (is_sure w.text.logs s.logs) ok g (known_sure w Of finish s h b) (ap is_reader_act x.found ∙ r) on z kz oz;
                  })
                  told (λ a. refl) (ap (λ z. h.committed ++ done_act s.book.next_c h z) x.found) (ap (λ z. h.kept ++ kept_act z) x.found ∙ ap (λ z. h.kept ++ z) (rw (n, r, x.tid) refl)) (ap (λ z. h.kept_readers ++ kept_reader z) x.found ∙ (ap (λ z. h.kept_readers ++ z) (rw (n, r) refl) ∙ append-nil h.kept_readers)),
            ))
      ]
    ]
commits_now w Of finish e s h v ok g b = inl (record { kept = refl; readers = refl; ds = []; done = sym (append-nil h.committed); none = tt })
