-- All of it over every run, with nothing owed.
use Rattle.std.specs.Prelude.{◌≡◌, refl, ℕ, zero, suc, ◌<◌, ◌==◌, nat_lt, not, Bool, true, false, ◌&&◌, ◌||◌, if◌then◌else◌, Some, is_some, List, [], ◌∷◌, length, map, replicate, slice_get, slice_index_or}
use Rattle.std.specs.List.{AllByRecursion, list_all}
use Rattle.std.proofs.Common.{arith, sym, ap, subst, inl, inr, ◌∙◌}
use Rattle.std.proofs.lemmas.Bool.{cases_Bool, true≢false, and_parts, ltb-true}
use Rattle.snap_base.specs.declared.transactions.State.{State}
use Rattle.snap_base.specs.declared.transactions.Tx.{Tx}
use Rattle.protocol.specs.Facts.{Alone}
use Rattle.protocol.specs.Fixed.{Fixed, IsText, IsTxOf, base}
use Rattle.protocol.specs.Parts.{Cell, Machine}
use Rattle.protocol.specs.Events.{Event, Submit, Pass, Form, Admit, Ask, Run, Send, End, Complete, Sync, Rollback, Decide, Finish, Reply, Trim}
use Rattle.protocol.specs.Words.{is_empty, holds, act_of, waiting_of, is_ordered}
use Rattle.protocol.specs.Conditions.{IsAllowed, conditions, queue}
use Rattle.protocol.specs.Effects.{after, cell_at, no_cell, no_log}
use Rattle.protocol.specs.Runs.{opening, new_cell, state_after, EachAllowed, IsRun, IsQuiet, reached}
use Rattle.protocol.specs.History.{History, no_history, history, history_after, grown}
use Rattle.protocol_laws.proofs.machine.TracksKept.{held}
use Rattle.protocol_laws.proofs.machine.TurnsKept.{one_is}
use Rattle.protocol_laws.proofs.machine.DecidedStays.{is_fixed, Spared, stays_decided}
use Rattle.protocol_laws.proofs.machine.ControlWalk.{AllControls, nowhere}
use Rattle.protocol_laws.proofs.machine.Good as whole
use Rattle.protocol_laws.proofs.machine.Good.{Given, Good}
use Rattle.protocol_laws.proofs.machine.ActResults as results
use Rattle.protocol_laws.proofs.machine.ActResults.{NoneActed, NoActResult, ActsDrawn}
use Rattle.protocol_laws.proofs.machine.ActsKept as acts
use Rattle.protocol_laws.proofs.machine.ActsKept.{Acts, KnownActs}
use Rattle.protocol_laws.proofs.machine.QueuedKept as queued
use Rattle.protocol_laws.proofs.machine.QueuedKept.{Waits, OfPacts, Sizes}
use Rattle.protocol_laws.proofs.machine.BehindKept as behind
use Rattle.protocol_laws.proofs.machine.BehindKept.{AllBehind}
use Rattle.protocol_laws.proofs.machine.StartsKept as starts
use Rattle.protocol_laws.proofs.machine.StartsKept.{Started}
use Rattle.protocol_laws.proofs.machine.ActsTold as told
use Rattle.protocol_laws.proofs.machine.ActsTold.{ActsTold, AllFrom}
use Rattle.protocol_laws.proofs.machine.EntriesKept as entries
use Rattle.protocol_laws.proofs.machine.EntriesKept.{KeysOpen, Left, Opened, Standing}
use Rattle.protocol_laws.specs.Tracks.{key_of}
use Rattle.protocol_laws.proofs.first.PairsFound as found
use Rattle.protocol_laws.proofs.first.PairsFound.{TidsAscend}
use Rattle.protocol_laws.proofs.machine.PactsTold as pacts
use Rattle.protocol_laws.proofs.machine.PactsTold.{PactsTold, NoPlaces}
use Rattle.protocol_laws.proofs.machine.VerdictsSay.{Says}
use Rattle.protocol_laws.specs.Told.{IsAmongDone}
use Rattle.snap_base.specs.declared.verdicts.Verdict.{Verdict}
use Rattle.protocol.specs.Verdicts.{verdict}
use Rattle.protocol_laws.proofs.first.Leaves as leaves
use Rattle.protocol_laws.proofs.first.OnePlace.{transactions_in_one_place}
use Rattle.protocol_laws.proofs.machine.CommitRecords as records
use Rattle.protocol_laws.proofs.machine.CommitRecords.{ActsRecorded, BatchesRecorded}
use Rattle.protocol_laws.proofs.machine.QuietTold as quiet
use Rattle.protocol_laws.proofs.machine.QuietTold.{PactsFrom}
use Rattle.protocol.specs.Footprints.{HasLogs}
use Rattle.protocol.specs.Verdicts.{ended_at}
use Rattle.std.proofs.lemmas.List.{length-replicate}
use Rattle.protocol_laws.proofs.machine.ActsOwed as owed
use Rattle.protocol.specs.Parts.{OfAct}
use Rattle.protocol.specs.Fixed.{no_state}
use Rattle.protocol.specs.OnCell as cell
use Rattle.protocol.specs.History.{is_reader_act, without_standing, left_for_good}
use Rattle.protocol_laws.specs.Tracks.{Bare, Linked, slices_in}
use Rattle.protocol_laws.proofs.machine.TracksKept as tracks
use Rattle.protocol_laws.proofs.machine.TracksKept.{Tracked}
use Rattle.protocol_laws.proofs.machine.TurnsKept.{Turned}
use Rattle.protocol_laws.proofs.machine.PlacesKept as places
use Rattle.protocol_laws.proofs.machine.PlacesKept.{Placed}
use Rattle.protocol_laws.proofs.machine.PlaceLists
use Rattle.protocol_laws.proofs.machine.CommitLists.{linked_one}
use Rattle.protocol_laws.proofs.machine.ReadersCommit.{ReadersOf, readers_of_kept}
use Rattle.protocol_laws.proofs.machine.ReadersKept as readers
use Rattle.protocol_laws.proofs.machine.ReadersKept.{Locks, ActReads}
use Rattle.protocol_laws.specs.Sees.{SeesAt}
use Rattle.protocol_laws.proofs.machine.ReadersSee as see
use Rattle.protocol_laws.proofs.machine.ReadersSee.{ReadBy, AllSee}

-- Everything that is kept.
pub record AllGood {C : Type 0} (w : Fixed C) (Of : Tx → C → Type 0) (finish : C → List State → Alone) (s : Machine C) (h : History) : Type 0 where
  pub good : Good w Of finish s h
  -- who has a control is no ACT with a result
  pub none : AllControls (NoneActed s) s
  pub acts : Acts s h
  pub known : KnownActs s h
  pub waits : Waits w s
  pub of_pacts : OfPacts w s h
  pub sizes : Sizes w s
  pub behind : AllBehind s h
  pub started : Started s h
  -- an ACT has its place where it is among those that committed
  pub told : ActsTold s h
  pub from : AllFrom s h
  -- its entries are on the actors that it joined and has not left
  pub left : Left s
  pub opened : Opened s
  pub standing : Standing s
  -- what is told: PACTs that committed, and no place where an ACT is given up
  pub ascend : TidsAscend s
  pub pacts_told : PactsTold s h
  pub no_places : NoPlaces s
  -- what committed of a batch is among its PACTs, and who committed has its commit record
  pub pacts_from : PactsFrom s h
  pub logs : HasLogs w s
  pub acts_recorded : ActsRecorded w s
  pub batches_recorded : BatchesRecorded w s
  -- readers
  pub locks : Locks s
  pub act_reads : ActReads w s h
  pub read_by : ReadBy s h
  pub readers_of : ReadersOf s h
  pub see : AllSee s h

pub drawn : {C : Type 0} (s : Machine C) (h : History) → Acts s h → ActsDrawn s.ring.next_tid s.book.acts
unfolding Acts
drawn s h i = λ t x e. (i t x e).drawn

bare_there : {C : Type 0} (s : Machine C) (h : History) (t a : ℕ) → Turned s h → Locks s → is_reader_act (act_of t s.book.acts) ≡ true → Bare (OfAct t) (h.long a)
unfolding Turned Locks
bare_there s h t a u l r = readers.bare s.book.acts t (h.long a) (cell_at s a).entries (u a) (l a) r

-- What an event owes holds.
pub owes : {C : Type 0} (w : Fixed C) (Of : Tx → C → Type 0) (finish : C → List State → Alone) (e : Event) (s : Machine C) (h : History) → Given w Of finish → IsAllowed w e s → AllGood w Of finish s h → whole.Owed w e s h
unfolding whole.Owed conditions
owes w Of finish (Run t a) s h v ok g =
    let q : is_some (waiting_of t (cell_at s a).inbox) ≡ true = held (λ c. is_some (waiting_of t c.inbox)) s.cells a no_cell ok.0 in
    let n = owed.not_kept s h t g.acts g.known (results.waiting_none t a s q g.none) in
    (n, (λ p. owed.act_runs w Of finish t a s h q p g.good g.of_pacts n), readers.leaves w Of finish t a _ s h v.facts ok g.good.told g.locks g.act_reads)
owes w Of finish (Ask t a) s h v ok g = owed.not_kept s h t g.acts g.known (results.posted_none t a s ok.0 g.none)
owes w Of finish (Finish t a) s h v ok g = (owed.finish_exists w t a s h ok g.acts, owed.finish_kept w t a s h ok g.acts, owed.finish_firm w t a s h ok g.acts g.good.numbers g.behind, bare_there s h t a g.good.turned g.locks)
owes w Of finish (Trim k a) s h v ok g = owed.trim_exists w k a s ok g.sizes
owes w Of finish (Decide t) s h v ok g = owed.may_decide w t s h ok g.good.settling g.good.marked g.good.tracked g.good.turned g.good.from_desk g.good.numbers g.none g.acts g.sizes g.behind g.started g.left g.standing g.locks g.read_by g.see
owes w Of finish e s h v ok g = tt

placed_firm : {C : Type 0} (w : Fixed C) (s : Machine C) (h : History) (a : ℕ) → Placed w s h → Rattle.protocol_laws.specs.Places.FirmUpToGone s.desk.settled s.book.cascades (h.long a)
unfolding Placed
placed_firm w s h a p = (p a).firm

-- what it owes of readers
owes_see : {C : Type 0} (w : Fixed C) (Of : Tx → C → Type 0) (finish : C → List State → Alone) (e : Event) (s : Machine C) (h : History) → Given w Of finish → IsAllowed w e s → AllGood w Of finish s h → see.Owed w e s h
unfolding see.Owed Tracked Turned AllSee places.Owed tracks.Assumed conditions
owes_see w Of finish (Ask t a) s h v ok g = owed.asks_unread w t a s h ok g.none g.acts g.left g.standing g.read_by
owes_see w Of finish (Run t a) s h v ok g = let p = whole.for_places w Of finish (Run t a) s h v ok (owes w Of finish (Run t a) s h v ok g) g.good in (p.1, p.0, (g.good.tracked a).differ)
owes_see w Of finish (Rollback a) s h v ok g = λ r.
    let cut = PlaceLists.cut_is_end s.desk.settled s.book.cascades (h.long a) (placed_firm w s h a g.good.placed) in
    let new = tracks.rollback w a s.book (cell_at s a) (h.long a) cut (g.good.tracked a) in
    let same = see.rollback_same s.book.cascades (h.reads a) (h.long a) (cell_at s a).entries (see.lined (h.long a) (cell_at s a).entries (g.good.turned a) (g.good.tracked a).stands) (g.good.tracked a).in_order r in
    linked_one _ _ _ (slices_in (h.long a)) (subst (λ z. Linked (slice_index_or w.text.opening.states a no_state) z (cell.rolled_back s.book.cascades (cell_at s a)).state) same new.links) (g.good.tracked a).links
owes_see w Of finish (Finish t a) s h v ok g =
    let o = owes w Of finish (Finish t a) s h v ok g in
    let p = whole.for_places w Of finish (Finish t a) s h v ok o g.good in (
      p.0,
      λ r. elim (cases_Bool (cell.is_undone_act (act_of t s.book.acts))) [
        | inr q ↦ rw q refl
        | inl q ↦
            let new = tracks.finish w t a s.book (cell_at s a) (h.long a) p.2 (g.good.tracked a) in
            let same = see.finish_same t (cell_at s a).state (h.reads a) (h.long a) (cell_at s a).entries (see.lined (h.long a) (cell_at s a).entries (g.good.turned a) (g.good.tracked a).stands) (g.good.tracked a).in_order (g.see a) r in
            linked_one _ _ _ (slices_in (h.long a)) (subst (λ z. Linked (slice_index_or w.text.opening.states a no_state) z (cell.act_left t (act_of t s.book.acts) (cell_at s a)).state) same (subst (λ b. Linked (slice_index_or w.text.opening.states a no_state) (slices_in (if b || is_reader_act (act_of t s.book.acts) then without_standing (OfAct t) (h.long a) else map (left_for_good (OfAct t)) (h.long a))) (cell.act_left t (act_of t s.book.acts) (cell_at s a)).state) q new.links)) (g.good.tracked a).links
      ],
    )
owes_see w Of finish (Trim k a) s h v ok g = owed.trim_exists w k a s ok g.sizes
owes_see w Of finish e s h v ok g = tt

pub kept : {C : Type 0} (w : Fixed C) (Of : Tx → C → Type 0) (finish : C → List State → Alone) (e : Event) (s : Machine C) (h : History) → Given w Of finish → IsAllowed w e s → AllGood w Of finish s h → AllGood w Of finish (after w e s) (grown w e s h)
kept w Of finish e s h v ok g = record {
  good = whole.kept w Of finish e s h v ok (owes w Of finish e s h v ok g) g.good;
  none = results.results_kept w e s ok g.good.held (drawn s h g.acts) g.none;
  acts = acts.acts_kept w e s h ok g.good.settling g.sizes.based g.good.drawn g.none g.known g.acts;
  known = queued.known_kept w e s h g.known;
  waits = queued.waits_kept w e s g.waits;
  of_pacts = queued.of_pacts_kept w e s h ok g.good.drawn g.waits g.of_pacts;
  sizes = queued.sizes_kept w e s ok g.good.settling g.sizes;
  behind = behind.behind_kept w e s h ok g.good.settling g.good.placed g.good.numbers g.acts g.behind;
  told = told.told_kept w e s h ok g.none g.acts g.told;
  from = told.from_kept w e s h ok g.none g.acts g.from;
  left = entries.left_kept w e s ok g.left;
  opened = entries.opened_kept w e s h ok (λ t a q. owed.finish_exists w t a s h (subst (λ z. IsAllowed w z s) q ok) g.acts) g.none g.acts g.left g.opened;
  standing = entries.standing_kept w e s h ok g.good.tracked g.behind g.standing;
  ascend = found.tids_kept w e s ok g.ascend;
  pacts_told = pacts.pacts_kept w e s h ok g.good.none g.pacts_told;
  no_places = pacts.no_places w e s g.no_places;
  pacts_from = quiet.from_kept w e s h ok g.good.none g.good.known g.pacts_from;
  logs = leaves.logs_stay w e s g.logs;
  acts_recorded = records.acts_recorded w e s h v.text g.logs ok g.none g.acts g.acts_recorded;
  batches_recorded = records.batches_recorded w e s v.text g.logs ok g.batches_recorded;
  started = starts.kept w e s h ok (λ t a q. owed.finish_exists w t a s h (subst (λ z. IsAllowed w z s) q ok) g.acts) (λ k a q. owed.trim_exists w k a s (subst (λ z. IsAllowed w z s) q ok) g.sizes) g.acts g.good.numbers g.good.tracked g.good.from_desk g.started;
  locks = readers.locks_kept w e s ok g.locks;
  act_reads = readers.act_reads_kept w e s h ok g.acts g.act_reads;
  read_by = see.read_by_kept w e s h g.locks g.opened g.read_by;
  readers_of = readers_of_kept w e s h ok g.none g.readers_of;
  see = see.see_kept w e s h ok (owes_see w Of finish e s h v ok g) g.see;
}

-- ---- the opening

pub opened : {C : Type 0} (w : Fixed C) (Of : Tx → C → Type 0) (finish : C → List State → Alone) → Given w Of finish → AllGood w Of finish (opening w) no_history
unfolding Acts KnownActs OfPacts AllBehind Started ActsTold AllFrom Left Opened Standing PactsTold NoPlaces PactsFrom ActsRecorded BatchesRecorded Locks ActReads ReadBy ReadersOf AllSee
opened {C} w Of finish v = record {
  good = whole.opened w Of finish v;
  none = nowhere w (NoneActed (opening w));
  acts = λ t x e. absurd (cc e);
  known = λ t e. absurd (true≢false (sym e));
  waits = queued.waits_opened w;
  of_pacts = tt;
  sizes = queued.sizes_opened w;
  behind = λ a. tt;
  started = λ a. tt;
  told = λ t x e. absurd (cc e);
  from = tt;
  left = λ t x e. absurd (cc e);
  opened = λ b. subst (λ z. KeysOpen b [] (map key_of z)) (sym (whole.no_entries C (base w.text) w.text.opening.states b)) tt;
  standing = λ t x e. absurd (cc e);
  ascend = found.tids_opened w;
  pacts_told = λ k b e. absurd (cc e);
  no_places = tt;
  pacts_from = tt;
  logs = length-replicate w.text.logs no_log;
  acts_recorded = λ t x e. absurd (cc e);
  batches_recorded = λ k b e. absurd (cc e);
  locks = λ b. subst (AllByRecursion (readers.LockOf [])) (sym (whole.no_entries C (base w.text) w.text.opening.states b)) tt;
  act_reads = λ t x e. absurd (cc e);
  read_by = λ a. tt;
  readers_of = tt;
  see = λ b. subst (SeesAt (cell_at (opening w) b).state []) (sym (whole.no_entries C (base w.text) w.text.opening.states b)) tt;
}

-- ---- over every run

all_along : {C : Type 0} (w : Fixed C) (Of : Tx → C → Type 0) (finish : C → List State → Alone) (es : List Event) (s : Machine C) (h : History) → Given w Of finish → EachAllowed w es s → AllGood w Of finish s h → AllGood w Of finish (state_after w es s) (history_after w es s h)
all_along w Of finish [] s h v run g = g
all_along w Of finish (e ∷ es) s h v run g = all_along w Of finish es (after w e s) (grown w e s h) v run.1 (kept w Of finish e s h v run.0 g)

pub all_good : {C : Type 0} (w : Fixed C) (Of : Tx → C → Type 0) (finish : C → List State → Alone) (es : List Event) → Given w Of finish → IsRun w es → AllGood w Of finish (reached w es) (history w es)
all_good w Of finish es v run = all_along w Of finish es (opening w) no_history v run (opened w Of finish v)

-- Over every run, a verdict that names a place is of one that committed there, with that result.
pub verdicts_say : {C : Type 0} (w : Fixed C) (Of : Tx → C → Type 0) (finish : C → List State → Alone) (es : List Event) → Given w Of finish → IsRun w es → (n : ℕ) (v : Verdict) → verdict n (reached w es).book (reached w es).desk ≡ Some v → Says (λ p r. IsAmongDone n p r (history w es).committed) v
verdicts_say w Of finish es v run n u e = let g = all_good w Of finish es v run in pacts.verdict_says w n (reached w es) (history w es) u g.good.settling g.ascend g.pacts_told g.told g.no_places e

-- Over every run, in a quiet state each transaction that committed is told so, at its place, with its result.
pub all_told : {C : Type 0} (w : Fixed C) (Of : Tx → C → Type 0) (finish : C → List State → Alone) (es : List Event) → Given w Of finish → IsRun w es → IsQuiet w (reached w es) → AllByRecursion (λ d. verdict d.tx (reached w es).book (reached w es).desk ≡ ended_at d.place d.result) (history w es).committed
all_told w Of finish es v run q = let g = all_good w Of finish es v run in quiet.all_told w (reached w es) (history w es) q (transactions_in_one_place w es v.text run) g.good.settling g.good.marked g.good.known g.acts_recorded g.batches_recorded g.from g.pacts_from

-- A fact that each event keeps, where all of this holds before it, holds after every run.
pub along_good : {C : Type 0} (w : Fixed C) (Of : Tx → C → Type 0) (finish : C → List State → Alone) (P : Machine C → History → Type 0) → Given w Of finish → ((e : Event) (s : Machine C) (h : History) → IsAllowed w e s → AllGood w Of finish s h → P s h → P (after w e s) (grown w e s h))
    → P (opening w) no_history → (es : List Event) → IsRun w es → P (reached w es) (history w es)
along_good {C} w Of finish P v step start es run = go es (opening w) no_history run (opened w Of finish v) start
  where
    go : (es : List Event) (s : Machine C) (h : History) → EachAllowed w es s → AllGood w Of finish s h → P s h → P (state_after w es s) (history_after w es s h)
    go [] s h run g p = p
    go (e ∷ es) s h run g p = go es (after w e s) (grown w e s h) run.1 (kept w Of finish e s h v run.0 g) (step e s h run.0 g p)

-- ---- an ACT that has its place keeps it, with its before number

placed_ended : {C : Type 0} (s : Machine C) (h : History) (n t : ℕ) → Acts s h → NoActResult t s.book.acts → holds (is_fixed n) (act_of t s.book.acts) ≡ true → ⊥
unfolding Acts
placed_ended s h n t i r e =
    let x = one_is (is_fixed n) (act_of t s.book.acts) e in
    true≢false (sym ((i t x.0 x.1).ended (and_parts (is_ordered x.0.status) (x.0.m == n) x.2).0) ∙ ap is_some (r t x.0 x.1 refl))

spared : {C : Type 0} (w : Fixed C) (Of : Tx → C → Type 0) (finish : C → List State → Alone) (e : Event) (s : Machine C) (h : History) (n t : ℕ) → IsAllowed w e s → AllGood w Of finish s h → holds (is_fixed n) (act_of t s.book.acts) ≡ true → Spared e t
unfolding conditions
spared w Of finish (Ask u a) s h n t ok g f = λ q. placed_ended s h n t g.acts (subst (λ z. NoActResult z s.book.acts) (sym q) (results.posted_none u a s ok.0 g.none)) f
spared w Of finish e s h n t ok g f = tt

pub stays_placed : {C : Type 0} (w : Fixed C) (Of : Tx → C → Type 0) (finish : C → List State → Alone) (e : Event) (s : Machine C) (h : History) (n t : ℕ) → IsAllowed w e s → AllGood w Of finish s h → holds (is_fixed n) (act_of t s.book.acts) ≡ true → holds (is_fixed n) (act_of t (after w e s).book.acts) ≡ true
stays_placed w Of finish e s h n t ok g f = stays_decided w e s n t (spared w Of finish e s h n t ok g f) f

-- ---- where there are no actors no event is allowed

no_text : (n : ℕ) (txs : List Tx) → AllByRecursion (IsTxOf 0) txs → n < length txs → ⊥
no_text n [] h l = omega (arith, l)
no_text n (x ∷ xs) h l = omega (arith, h.0.root_exists)

abbrev nobody : List ℕ
nobody = []

idle : (c : ℕ) → list_all is_empty (replicate c nobody) ≡ true
idle zero = refl
idle (suc c) = idle c

no_queue : (c i : ℕ) → is_empty (queue (replicate c []) i) ≡ true
no_queue zero i = refl
no_queue (suc c) zero = refl
no_queue (suc c) (suc i) = no_queue c i

no_records : (n l : ℕ) → holds (λ g. nat_lt g.synced (length g.records)) (slice_get (replicate n no_log) l) ≡ true → ⊥
no_records zero l e = true≢false (sym e)
no_records (suc n) zero e = true≢false (sym e)
no_records (suc n) (suc l) e = no_records n l e

no_cells : {C : Type 0} (low : ℕ) (states : List State) (p : Cell C → Bool) (a : ℕ) → length states ≡ 0 → holds p (slice_get (map (new_cell {C = C} low) states) a) ≡ true → ⊥
no_cells low [] p a l e = true≢false (sym e)
no_cells low (x ∷ xs) p a l e = absurd (omega (arith, l))

not_true : (b : Bool) → b ≡ true → not b ≡ true → ⊥
not_true true e f = true≢false (sym f)
not_true false e f = true≢false (sym e)

pub none_allowed : {C : Type 0} (w : Fixed C) (e : Event) → IsText w.text → length w.text.opening.states ≡ 0 → IsAllowed w e (opening w) → ⊥
unfolding conditions
none_allowed w (Submit n) t l ok = no_text n w.text.txs (subst (λ k. AllByRecursion (IsTxOf k) w.text.txs) l t.txs) (ltb-true n (length w.text.txs) (and_parts (n == 0) (nat_lt n (length w.text.txs)) ok.0).1)
none_allowed w (Pass c) t l ok = not_true (list_all is_empty (replicate w.text.coordinators nobody) && list_all is_empty (replicate w.text.coordinators nobody)) (rw (idle w.text.coordinators) refl) ok.1.1.0
none_allowed w (Form k) t l ok = not_true (is_empty (queue (replicate w.text.coordinators []) 0)) (no_queue w.text.coordinators 0) ok.1.0
none_allowed w (Admit u) t l ok = not_true (is_empty (queue (replicate w.text.coordinators []) 0)) (no_queue w.text.coordinators 0) ok.1.0
none_allowed w (Run u a) t l ok = no_cells (base w.text) w.text.opening.states _ a l ok.0
none_allowed w (Send u a) t l ok = no_cells (base w.text) w.text.opening.states _ a l ok.0
none_allowed w (End u a) t l ok = no_cells (base w.text) w.text.opening.states _ a l ok.0
none_allowed w (Complete k a) t l ok = no_cells (base w.text) w.text.opening.states _ a l ok.0
none_allowed w (Sync i) t l ok = no_records w.text.logs i ok.0
none_allowed w (Rollback a) t l ok = no_cells (base w.text) w.text.opening.states _ a l ok.0
none_allowed w (Reply n) t l ok = true≢false (sym ok.1.0)
none_allowed w e t l ok = true≢false (sym ok.0)
