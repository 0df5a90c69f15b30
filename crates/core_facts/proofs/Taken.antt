-- What the parts' calls ask is so after a run: from the laws of the protocol.
use Rattle.std.proofs.Common.{◌≡◌, ℕ, ℤ, ◌+◌, ◌-◌, ◌%◌, ◌^◌, ◌<◌, ◌≤◌, ◌==◌, ◌&&◌, not, Bool, true, false, Some, List, [], ◌∷◌, length, map, take, refl, ap, sym, ◌∙◌, subst, arith, FitsSigned}
use Rattle.std.specs.Prelude.{find, is_some}
use Rattle.std.specs.List.{All, AllByRecursion}
use Rattle.std.specs.Int.{w64}
use Rattle.std.proofs.lemmas.Bool.{eqb-true, and_parts}
use Rattle.protocol.specs.Cutting.{HaveRunInOrder}
use Rattle.snap_base.specs.declared.ids.ActorId.{ActorId}
use Rattle.snap_base.specs.declared.ids.Bid.{Bid}
use Rattle.snap_base.specs.declared.ids.Tid.{Tid}
use Rattle.snap_base.specs.declared.transactions.State.{State}
use Rattle.protocol.specs.Facts.{Alone}
use Rattle.protocol.specs.Fixed.{Fixed, IsText}
use Rattle.protocol.specs.Parts.{Act, Joined, Batch, Book, Cascade, Entry, Image, Machine}
use Rattle.protocol.specs.Events.{Pass, Form, Admit, Send, Complete, Commit, Abort, Prepare, Decide}
use Rattle.protocol.specs.Words.{is_empty, value_of, values_of, holds, act_of, joined_of, is_live_status, batch_of, is_open, is_next_to_commit, is_batch_entry, is_complete_batch, batches_on, acts_on}
use Rattle.protocol.specs.Conditions.{IsAllowed, conditions, queue}
use Rattle.protocol.specs.Effects.{cell_at, no_cell, ascending}
use Rattle.protocol.specs.Epochs.{EpochsAgree}
use Rattle.protocol.specs.History.{History}
use Rattle.protocol.specs.Numbers.{NumbersDrawnOnce, TransactionsInOnePlace}
use Rattle.protocol.specs.Settling.{BatchesSettleInOrder}
use Rattle.protocol.specs.OnRing.{next_pacts, next_actors}
use Rattle.protocol.specs.OnCell.{is_entry_among, staying, going}
use Rattle.protocol.specs.BookParts.{act_by}
use Rattle.protocol_theorems.specs.BookFits.{IsOfHalves, HalvesGoOn}
use Rattle.protocol_theorems.specs.Bounds.{BatchesHaveActors, BoxesAreFew, PlacesAreFew}
use Rattle.protocol_theorems.specs.OnActors.{AllLieInOrder, LimitsHold}
use Rattle.protocol_records.specs.RecordLaws.{RecordsAreFew}
use Rattle.protocol_laws.specs.Ranges.{NumbersInRange, CellInRange, IsDrawnBid}
use Rattle.protocol_laws.proofs.first.Candidates.{on_schedule}
use Rattle.protocol_theorems.specs.Sizes.{SizesHold, AllFindRoom}
use Rattle.batch_table.specs.Laws.{PlannedMayJoin}
use Rattle.token_ring.specs.Asked.{MayPass}
use Rattle.txn_records.specs.Records.{actor_numbers, tid_numbers, IsInfo, IsDone, Ascend}
use Rattle.core_facts.specs.RowsMay.{IsActRecord, RowsMay}
use Rattle.core_facts.proofs.Listed
use Rattle.core_facts.proofs.Planned as plans
use Rattle.core_facts.proofs.Cutting
use Rattle.core_facts.proofs.Sorted

-- ---- what is known after a run

pub record Known {C : Type 0} (w : Fixed C) (finish : C → List State → Alone) (s : Machine C) (h : History) : Type 0 where
  pub text : IsText w.text
  pub sizes : SizesHold w s
  pub room : AllFindRoom w s
  pub numbers : NumbersDrawnOnce w s
  pub ranges : NumbersInRange w s
  pub places : TransactionsInOnePlace w s
  pub settling : BatchesSettleInOrder w s
  pub epochs : EpochsAgree w s
  pub limits : LimitsHold w finish s h
  pub actors : AllLieInOrder w finish s h
  pub some_actors : BatchesHaveActors w s
  pub boxes : BoxesAreFew w finish s h
  pub few_places : PlacesAreFew w finish s h
  pub halves : HalvesGoOn w finish s h
  pub joins : PlannedMayJoin w s
  pub few_records : RecordsAreFew w finish s h

-- nothing that goes has run, where an ACT stays
abbrev pub NothingHasRun : Type 0
NothingHasRun = (cascades : List Cascade) (entries : List Entry) (images : List Image) → HaveRunInOrder entries images → is_empty (acts_on (staying cascades entries)) ≡ false → AllByRecursion (λ i. is_entry_among i.who (going cascades entries) ≡ false) images

-- ---- numbers

tids_fit : {C : Type 0} (w : Fixed C) (s : Machine C) → IsText w.text → SizesHold w s → s.ring.next_tid + w.text.batch < 2 ^ 63
tids_fit w s t z = omega (arith, z.next_tid, z.next_tx, t.few_txs, t.tids_fit, t.small_batch)

bids_fit : {C : Type 0} (w : Fixed C) (s : Machine C) → IsText w.text → SizesHold w s → s.ring.next_bid + 1 < 2 ^ 63
bids_fit w s t z = omega (arith, z.next_bid, z.next_tx, t.few_txs, t.bids_fit)

-- ---- the ring

passes : {C : Type 0} (w : Fixed C) (s : Machine C) → SizesHold w s → (c : ℕ) → IsAllowed w (Pass c) s → MayPass s.ring × (c ≡ (s.ring.holder + 1) % length s.ring.pacts)
unfolding conditions
passes w s z c ok = ((ok.1.0, ok.1.1.0), eqb-true c ((s.ring.holder + 1) % w.text.coordinators) ok.0 ∙ ap (λ n. (s.ring.holder + 1) % n) (sym z.pacts))

-- ---- the book

admits_act : {C : Type 0} (w : Fixed C) (s : Machine C) (t : ℕ) (o v : Book) → AllByRecursion (λ x. x.tid < t) s.book.acts → IsOfHalves s.book o v → All (λ x. x.tid < t) o.acts
admits_act w s t o v h i = Listed.all_indexed (λ x. x.tid < t) (λ x. x.tid < t) (λ x. act_by (act_of x.tid v.acts) x) o.acts (λ x l. l) (subst (AllByRecursion (λ x. x.tid < t)) (ap (λ b. b.acts) i.is) h)

-- ---- cascades

aborts_room : {C : Type 0} (w : Fixed C) (s : Machine C) → SizesHold w s → NumbersDrawnOnce w s → BatchesSettleInOrder w s → (k : ℕ) → holds (λ b. is_open b && is_next_to_commit k s.desk.batches) (batch_of k s.desk.batches) ≡ true
    → AllByRecursion (λ c. c.upto < k) s.book.cascades → k ≤ s.ring.next_bid - 1 → length s.book.cascades < length w.text.txs
aborts_room w s z n g k ok above most = by s.book.cascades g.cascades_ascend above
  where
    some : 1 ≤ length s.desk.batches
    some = Listed.some_there (λ b. b.bid == k) (λ b. is_open b && is_next_to_commit k s.desk.batches) s.desk.batches ok

    by : (cs : List Cascade) → Rattle.protocol.specs.Settling.CascadesAscend w.text.opening.next_bid cs → AllByRecursion (λ c. c.upto < k) cs → length cs < length w.text.txs
    by [] a u = omega (arith, some, n.next_bid, z.next_bid, z.next_tx)
    by (c ∷ cs) a u = omega (arith, Cutting.few_cascades w.text.opening.next_bid k (c ∷ cs) a u (omega arith), most, some, n.next_bid, z.next_bid, z.next_tx)

-- ---- the cells

few_entries : {C : Type 0} (w : Fixed C) (s : Machine C) (a : ℕ) → IsText w.text → length (batches_on (cell_at s a).entries) ≤ w.text.batches → length (acts_on (cell_at s a).entries) ≤ w.text.acts → length (cell_at s a).entries ≤ 64
few_entries w s a t b x = omega (arith, Cutting.two_kinds (cell_at s a).entries, b, x, t.few_batches, t.few_acts)

-- ---- the records

bid_drawn : {C : Type 0} (w : Fixed C) (s : Machine C) (k : ℕ) (p : Batch → Bool) → NumbersInRange w s → holds p (batch_of k s.desk.batches) ≡ true → k < s.ring.next_bid
bid_drawn w s k p r ok =
    let b = Listed.one_is p (batch_of k s.desk.batches) ok in
    let f = Listed.all_found _ (λ b. b.bid == k) s.desk.batches b.0 r.batches b.1.0 in
    subst (λ z. z < s.ring.next_bid) (eqb-true b.0.bid k f.1) f.0.bid.below

complete_drawn : {C : Type 0} (w : Fixed C) (s : Machine C) (k a : ℕ) → NumbersInRange w s → IsAllowed w (Complete k a) s → (k < s.ring.next_bid) × (a < length s.cells)
unfolding conditions
complete_drawn {C} w s k a r ok =
    let here = Listed.at_index (λ c. holds (λ e. not (is_complete_batch e)) (find (is_batch_entry k) c.entries)) s.cells a (no_cell {C = C}) ok.0 in
    let e = Listed.one_is (λ e. not (is_complete_batch e)) (find (is_batch_entry k) (cell_at s a).entries) here in
    let cell : CellInRange w s (cell_at s a) = Listed.all_at (CellInRange w s) s.cells a no_cell (record { inbox = tt; outbox = tt; batches = tt }) r.cells in (
      (on_schedule (IsDrawnBid w s) k (cell_at s a).entries e.0 e.1.0 cell.batches).below,
      Listed.in_range (λ c. holds (λ e. not (is_complete_batch e)) (find (is_batch_entry k) c.entries)) s.cells a ok.0,
    )

prepare_drawn : {C : Type 0} (w : Fixed C) (s : Machine C) (t a : ℕ) → NumbersInRange w s → IsAllowed w (Prepare t a) s → (t < s.ring.next_tid) × (a < length w.text.opening.states)
unfolding conditions
prepare_drawn w s t a r ok =
    let x = Listed.one_is (λ x. holds (λ p. not p.prepared) (joined_of a x)) (act_of t s.book.acts) ok.1.0 in
    let p = Listed.one_is (λ p. not p.prepared) (joined_of a x.0) x.1.1 in
    let f = Listed.all_found _ (λ y. y.tid == t) s.book.acts x.0 r.acts x.1.0 in
    let g = Listed.all_found _ (λ q. q.actor == a) x.0.places p.0 f.0.actors p.1.0 in
    (subst (λ z. z < s.ring.next_tid) (eqb-true x.0.tid t f.1) f.0.tid.below, subst (λ z. z < length w.text.opening.states) (eqb-true p.0.actor a g.1) g.0)

info : {C : Type 0} (w : Fixed C) (s : Machine C) → IsText w.text → SizesHold w s → (k : ℕ) → IsAllowed w (Form k) s → is_empty (next_actors w.text s.ring) ≡ false
    → (bid : Bid) (actors : List ActorId) (tids : List Tid) → bid.0 ≡ k → actor_numbers actors ≡ next_actors w.text s.ring → tid_numbers tids ≡ map (λ p. p.tid) (next_pacts w.text s.ring) → IsInfo bid actors tids
unfolding conditions
info w s t z k ok some bid actors tids e same ts =
    let number = eqb-true k s.ring.next_bid ok.0 in
    let many : length actors ≡ length (next_actors w.text s.ring) = sym (Listed.length_mapped (λ (a : ActorId). a.0) actors) ∙ ap length same in
    let pacts : length tids ≡ length (next_pacts w.text s.ring) = sym (Listed.length_mapped (λ (t : Tid). t.0) tids) ∙ (ap length ts ∙ Listed.length_mapped (λ p. p.tid) (next_pacts w.text s.ring)) in
    let few = Listed.below_length (λ a. Rattle.std.specs.List.list_any (Rattle.protocol.specs.OnRing.declares w.text a) (next_pacts w.text s.ring)) (length s.ring.lasts) in
    let queued = take w.text.batch (queue s.ring.pacts s.ring.holder) in
    record {
      bid_fits = omega (arith, e, number, bids_fit w s t z);
      some_actors = omega (arith, many, Listed.filled (next_actors w.text s.ring) some);
      few_actors = omega (arith, many, few, z.lasts, t.few_actors);
      actors_ascend = subst (Ascend 0 (2 ^ 16)) (sym same) (Listed.below_ascend (λ a. Rattle.std.specs.List.list_any (Rattle.protocol.specs.OnRing.declares w.text a) (next_pacts w.text s.ring)) (length s.ring.lasts) (2 ^ 16) (omega (arith, z.lasts, t.few_actors)));
      some_tids = omega (arith, pacts, plans.some_pacts w.text s.ring t.some_batch ok.1.0);
      few_tids = omega (arith, pacts, plans.few_pacts w.text s.ring, t.small_batch);
      tids_ascend = subst (Ascend 0 (2 ^ 64)) (sym ts) (plans.ascend_from 0 s.ring.next_tid (2 ^ 64) _ (omega arith) (plans.numbered_ascend s.ring.next_tid (2 ^ 64) queued (omega (arith, tids_fit w s t z, plans.few_pacts w.text s.ring, plans.numbered_length s.ring.next_tid queued))));
    }

-- an ACT that may be decided has ended
has_ended : {C : Type 0} (w : Fixed C) (s : Machine C) (t : ℕ) (x : Act) → IsAllowed w (Decide t) s → act_of t s.book.acts ≡ Some x → is_some x.result ≡ true
unfolding conditions
has_ended w s t x ok e = (and_parts (is_some x.result) (is_live_status x.status) (subst (λ o. holds (λ x. is_some x.result && is_live_status x.status) o ≡ true) e ok.0)).0

low_actors : (n limit : ℕ) (ps : List Joined) → n ≤ limit → AllByRecursion (λ p. p.actor < n) ps → AllByRecursion (λ a. a < limit) (map (λ p. p.actor) ps)
low_actors n limit [] l h = tt
low_actors n limit (p ∷ ps) l h = (omega (arith, h.0, l), low_actors n limit ps l h.1)

act_record : {C : Type 0} (w : Fixed C) (finish : C → List State → Alone) (s : Machine C) (h : History) → IsText w.text → SizesHold w s → NumbersInRange w s → PlacesAreFew w finish s h → (t : ℕ) (x : Act) → IsAllowed w (Decide t) s → act_of t s.book.acts ≡ Some x
    → IsActRecord t x.m s.book.next_c (ascending (map (λ p. p.actor) x.places))
act_record w finish s h text z r few t x ok e =
    let f = few t x e in
    let own = Listed.all_found _ (λ y. y.tid == t) s.book.acts x r.acts e in
    let many : length (ascending (map (λ p. p.actor) x.places)) ≡ length x.places = Sorted.ascending_length (map (λ p. p.actor) x.places) ∙ Listed.length_mapped (λ p. p.actor) x.places in
    record {
      tid_fits = omega (arith, eqb-true x.tid t own.1, own.0.tid.below, tids_fit w s text z);
      m_fits = omega (arith, f.before, bids_fit w s text z);
      c_fits = omega (arith, z.next_c, z.next_tx, text.few_txs, text.cs_fit);
      some = omega (arith, many, Listed.filled x.places (f.some (has_ended w s t x ok e)));
      few = omega (arith, many, f.few);
      ascend = Sorted.ascending_ascend (2 ^ 16) (map (λ p. p.actor) x.places) f.once (low_actors (length w.text.opening.states) (2 ^ 16) x.places (omega (arith, text.few_actors)) own.0.actors);
    }

-- ---- all of it

abort_stands : {C : Type 0} (w : Fixed C) (s : Machine C) (k : ℕ) → IsAllowed w (Abort k) s → holds (λ b. is_open b && is_next_to_commit k s.desk.batches) (batch_of k s.desk.batches) ≡ true
unfolding conditions
abort_stands w s k ok = ok.0

commit_stands : {C : Type 0} (w : Fixed C) (s : Machine C) (k : ℕ) → IsAllowed w (Commit k) s → holds (λ b. is_open b && is_next_to_commit k s.desk.batches) (batch_of k s.desk.batches) ≡ true
unfolding conditions
commit_stands w s k ok = ok.0

-- the values of a batch that may commit
done : {C : Type 0} (w : Fixed C) (s : Machine C) → IsText w.text → SizesHold w s → NumbersInRange w s → AllByRecursion (λ b. (1 ≤ length b.pacts) × (length b.pacts ≤ w.text.batch)) s.desk.batches
    → (k : ℕ) → IsAllowed w (Commit k) s → (bid : Bid) (values : List ℤ) → bid.0 ≡ k → values ≡ values_of (batch_of k s.desk.batches) → AllByRecursion (FitsSigned w64) values → IsDone bid values
done w s t z r filled k ok bid values e same each =
    let b = Listed.one_is (λ b. is_open b && is_next_to_commit k s.desk.batches) (batch_of k s.desk.batches) (commit_stands w s k ok) in
    let f = Listed.all_found (λ b. (1 ≤ length b.pacts) × (length b.pacts ≤ w.text.batch)) (λ b. b.bid == k) s.desk.batches b.0 filled b.1.0 in
    let many : length values ≡ length b.0.pacts = ap length same ∙ ap (λ o. length (values_of o)) b.1.0 ∙ Listed.length_mapped (λ p. value_of p.result) b.0.pacts in
    record {
      bid_fits = omega (arith, e, bid_drawn w s k _ r (commit_stands w s k ok), bids_fit w s t z);
      some = omega (arith, many, f.0.0);
      few = omega (arith, many, f.0.1, t.small_batch);
      each = each;
    }

pub rows_may : {C : Type 0} (w : Fixed C) (finish : C → List State → Alone) (s : Machine C) (h : History) → NothingHasRun → Known w finish s h → RowsMay w s
rows_may w finish s h nothing g =
    let t = g.text in
    let z = g.sizes in
    record {
      pact_queues = z.pacts;
      act_queues = z.acts;
      lasts = z.lasts;
      cells = z.cells;
      logs = z.logs;
      replied = z.replied;
      txs_fit = omega (arith, z.next_tx, t.few_txs);
      tids_fit = tids_fit w s t z;
      bids_fit = bids_fit w s t z;
      epochs_fit = omega (arith, g.epochs.counted, z.cascades, z.next_tx, t.few_txs);
      cs_fit = omega (arith, z.next_c, z.next_tx, t.few_txs, t.cs_fit);
      passes = passes w s z;
      forms_tids = λ k. omega (arith, tids_fit w s t z, plans.few_pacts w.text s.ring);
      forms_subs = λ k ok. let r = g.room (Form k) ok in plans.sub_is_new w k s r.0 r.1.0;
      forms_controls = λ k ok. plans.control_is_new w k s (g.room (Form k) ok).1.1;
      admits_control = λ u ok. (g.room (Admit u) ok).1;
      sends_control = λ u a ok. g.room (Send u a) ok;
      forms_batch = λ k ok. g.joins t g.numbers g.places g.settling (omega (arith, z.next_tx, z.replied)) k ok;
      halves = λ e o v ok i. (g.halves e o v ok i).0;
      admits_act = λ u o v ok i. admits_act w s u o v (g.room (Admit u) ok).0 i;
      aborts_room = λ k ok. let r = g.room (Abort k) ok in aborts_room w s z g.numbers g.settling k (abort_stands w s k ok) r.0 r.1;
      aborts_some = λ k ok. (g.room (Abort k) ok).1;
      aborts_above = λ k ok. (g.room (Abort k) ok).0;
      runs_image = λ u a ok n. omega (arith, g.limits.room u a ok n, t.few_batches, t.few_acts);
      rolls_back = λ a x e. let c = g.actors a in record {
        ascends = c.ascends;
        aborted = c.cut x e;
        ahead = refl;
        entered = c.entered;
        waited = nothing s.book.cascades (cell_at s a).entries (cell_at s a).images c.in_order;
      };
      cuts = λ a x e. (g.actors a).cut x e;
      few_entries = λ a. few_entries w s a t (g.limits.batches a) (g.limits.acts a);
      few_boxed = g.boxes;
      tells_info = λ k ok. info w s t z k ok (g.some_actors k ok);
      tells_complete = λ k a ok bid actor state e i is. let d = complete_drawn w s k a g.ranges ok in record {
        bid_fits = omega (arith, e, d.0, bids_fit w s t z);
        actor_fits = omega (arith, i, d.1, z.cells, t.few_actors);
        is_state = is;
      };
      tells_commit = done w s t z g.ranges g.few_records.pacts;
      tells_prepare = λ u a ok. let d = prepare_drawn w s u a g.ranges ok in (omega (arith, d.0, tids_fit w s t z), omega (arith, d.1, t.few_actors));
      tells_act = λ u x ok e. act_record w finish s h t z g.ranges g.few_places u x ok e;
    }
