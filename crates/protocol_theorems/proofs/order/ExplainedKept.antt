-- Each noted result is explained by its trail, and each committed transaction by its views, event by event.
use Rattle.std.specs.Prelude.{◌≡◌, refl, ℕ, ◌+◌, ◌<◌, ◌≤◌, ◌==◌, Bool, true, false, ◌&&◌, if◌then◌else◌, Option, Some, None, is_some, List, [], ◌∷◌, length, map, take, slice_index_or}
use Rattle.std.specs.List.{AllByRecursion, list_any}
use Rattle.std.proofs.Common.{arith, sym, subst, ◌∙◌, ap}
use Rattle.std.proofs.lemmas.Bool.{eqb-true, eq-eqb, ne_eqb, and_parts, and_from, or_left, or_right, true≢false}
use Rattle.snap_base.specs.declared.transactions.State.{State}
use Rattle.snap_base.specs.declared.transactions.Tx.{Tx}
use Rattle.snap_base.specs.declared.transactions.TxResult.{TxResult}
use Rattle.protocol_laws.specs.Tracks.{Linked}
use Rattle.protocol.specs.Fixed.{Fixed, Next, Go, Ended, no_state}
use Rattle.protocol.specs.Facts.{Alone, Facts}
use Rattle.protocol.specs.Parts.{Act, Pact, Batch, Who, OfBatch, OfAct, Waiting, Outcome, Machine}
use Rattle.protocol.specs.Events.{Event, Form, Admit, Run, End, Commit, Decide}
use Rattle.protocol.specs.Words.{holds, is_value, is_open, is_next_to_commit, is_live_status, names_pact, has_act, waiting_of, outcome_of, act_of}
use Rattle.protocol.specs.Contents.{ActTids, ActResults}
use Rattle.protocol.specs.Conditions.{IsAllowed, conditions, queue}
use Rattle.protocol.specs.Effects.{after, cell_at, no_cell}
use Rattle.protocol.specs.OnRing as ring
use Rattle.protocol.specs.OnPost as post
use Rattle.protocol.specs.OnDesk as desk
use Rattle.protocol.specs.OnBook as book
use Rattle.protocol.specs.OnCell as cell
use Rattle.protocol.specs.History.{History, Trail, Step, Slice, grown, with_at, begun, gone_on, slices_of, view_in, done_pact, done_batch, done_act, Done, slices_for, is_reader_act, last_left}
use Rattle.protocol_laws.specs.Turns.{Rising}
use Rattle.protocol_laws.specs.Trails.{Explained, on_actor}
use Rattle.protocol_laws.specs.Linked.{IsExplained}
use Rattle.protocol_laws.proofs.first.Frames.{frame}
use Rattle.protocol_laws.proofs.first.Lists.{all_join, all_alike, all_found, weaker, both_all}
use Rattle.protocol_laws.proofs.machine.TracksKept.{Tracked, held, in_range}
use Rattle.protocol_laws.proofs.machine.ControlWalk.{AllControls}
use Rattle.protocol_laws.proofs.machine.TrailsKept.{Told, begun_below, new_tids}
use Rattle.protocol_laws.proofs.machine.Resting.{EachPact, NoResult, NoneNoted, with_result, each_stays}
use Rattle.protocol_laws.proofs.machine.Resting as resting
use Rattle.protocol_laws.proofs.machine.CommitsKept.{MayCommit, MayDecide}
use Rattle.protocol_laws.proofs.machine.CommitsKept as chain
use Rattle.protocol_theorems.proofs.order.NamesKept.{Named, IsNamed, AllNamed}
use Rattle.protocol_theorems.proofs.order.RunsBefore.{is_open_with}
use Rattle.protocol_theorems.proofs.order.SlicesKept.{runs, Matched}
use Rattle.protocol_theorems.proofs.order.ViewsExplain.{Tied, own_slices, own_linked, views_explain}
use Rattle.protocol.specs.Rests.{IsTxIn}
use Rattle.protocol_laws.proofs.first.RangesNamed.{cells_stay}

-- ---- results

-- a result is what the trail explains
abbrev pub EndsAs : {C : Type 0} → Fixed C → (Tx → C → Type 0) → (C → List State → Alone) → (ℕ → Trail) → ℕ → Option TxResult → Type 0
EndsAs w Of finish trails t o = (r : TxResult) → o ≡ Some r → Explained w Of finish (trails t) t (Ended r)

pub record Results {C : Type 0} (w : Fixed C) (Of : Tx → C → Type 0) (finish : C → List State → Alone) (s : Machine C) (h : History) : Type 0 where
  pub cells : length s.cells ≡ length w.text.opening.states
  pub within : (t : ℕ) → AllByRecursion (λ x. x.actor < length w.text.opening.states) (h.trails t).steps
  pub pacts : EachPact (EndsAs w Of finish h.trails) s.desk.batches
  pub acts : AllByRecursion (λ x. EndsAs w Of finish h.trails x.tid x.result) s.book.acts

-- What is owed: an ACT whose control runs has no result.
unfoldable pub NoActResult : {C : Type 0} → Event → Machine C → Type 0
NoActResult (Run t a) s = AllByRecursion (λ x. x.tid ≡ t → x.result ≡ None) s.book.acts
NoActResult _ s = Unit {0}

ends_same : {C : Type 0} (w : Fixed C) (Of : Tx → C → Type 0) (finish : C → List State → Alone) (trails trails' : ℕ → Trail) (t : ℕ) (o : Option TxResult) → trails' t ≡ trails t → EndsAs w Of finish trails t o → EndsAs w Of finish trails' t o
ends_same w Of finish trails trails' t o e h = λ r q. subst (λ z. Explained w Of finish z t (Ended r)) (sym e) (h r q)

each_low : {C : Type 0} (w : Fixed C) (Of : Tx → C → Type 0) (finish : C → List State → Alone) (next : ℕ) (trails trails' : ℕ → Trail) (bs : List Batch) → ((t : ℕ) → t < next → trails' t ≡ trails t) → EachPact (λ t r. t < next) bs → EachPact (EndsAs w Of finish trails) bs → EachPact (EndsAs w Of finish trails') bs
each_low w Of finish next trails trails' bs e l h = both_all _ _ _ bs (λ b p q. both_all _ _ _ b.pacts (λ x i j. ends_same w Of finish trails trails' x.tid x.result (e x.tid i) j) p q) l h

acts_low : {C : Type 0} (w : Fixed C) (Of : Tx → C → Type 0) (finish : C → List State → Alone) (next : ℕ) (owners : ℕ → Who) (trails trails' : ℕ → Trail) (xs : List Act) → ((t : ℕ) → t < next → trails' t ≡ trails t) → AllByRecursion (λ x. IsNamed next owners trails (OfAct x.tid) x.tid x.tx) xs
    → AllByRecursion (λ x. EndsAs w Of finish trails x.tid x.result) xs → AllByRecursion (λ x. EndsAs w Of finish trails' x.tid x.result) xs
acts_low w Of finish next owners trails trails' xs e l h = both_all _ _ _ xs (λ x i j. ends_same w Of finish trails trails' x.tid x.result (e x.tid i.low) j) l h

-- who runs has no result
run_same : {C : Type 0} (w : Fixed C) (Of : Tx → C → Type 0) (finish : C → List State → Alone) (u : ℕ) (r : Trail) (trails : ℕ → Trail) (t : ℕ) (o : Option TxResult) → (t ≡ u → o ≡ None) → EndsAs w Of finish trails t o → EndsAs w Of finish (with_at u r trails) t o
run_same w Of finish u r trails t o n h = by (t == u) refl
  where
    by : (b : Bool) → (t == u) ≡ b → (x : TxResult) → o ≡ Some x → Explained w Of finish (if b then r else trails t) t (Ended x)
    by true e x q = absurd (cc (sym q ∙ n (eqb-true t u e)))
    by false e x q = h x q

begun_within : (n t : ℕ) (ps : List Pact) (f : ℕ → Trail) → AllByRecursion (λ x. x.actor < n) (f t).steps → AllByRecursion (λ x. x.actor < n) (begun ps f t).steps
begun_within n t [] f h = h
begun_within n t (p ∷ ps) f h = by (t == p.tid) (begun_within n t ps f h)
  where
    by : (b : Bool) → AllByRecursion (λ x. x.actor < n) (begun ps f t).steps → AllByRecursion (λ x. x.actor < n) (if b then record { tx = p.tx; steps = [] } else begun ps f t).steps
    by true g = tt
    by false g = g

new_ends : {C : Type 0} (w : Fixed C) (Of : Tx → C → Type 0) (finish : C → List State → Alone) (trails : ℕ → Trail) (t : ℕ) (ns : List ℕ) → AllByRecursion (λ p. EndsAs w Of finish trails p.tid p.result) (ring.numbered t ns)
new_ends w Of finish trails t [] = tt
new_ends w Of finish trails t (n ∷ ns) = (λ r q. absurd (cc q), new_ends w Of finish trails (t + 1) ns)

same_acts : {C : Type 0} (w : Fixed C) (Of : Tx → C → Type 0) (finish : C → List State → Alone) (trails : ℕ → Trail) (xs ys : List Act) → map (λ x. x.tid) ys ≡ map (λ x. x.tid) xs → map (λ x. x.result) ys ≡ map (λ x. x.result) xs
    → AllByRecursion (λ x. EndsAs w Of finish trails x.tid x.result) xs → AllByRecursion (λ x. EndsAs w Of finish trails x.tid x.result) ys
same_acts w Of finish trails xs ys i j h = all_alike (λ x. x.tid) (λ x. x.result) (λ x. EndsAs w Of finish trails x.tid x.result) xs ys (λ x y a b p. rw (a, b) p) i j h

-- a result is noted
ended_act : {C : Type 0} (w : Fixed C) (Of : Tx → C → Type 0) (finish : C → List State → Alone) (trails : ℕ → Trail) (t : ℕ) (r : TxResult) (xs : List Act) → Explained w Of finish (trails t) t (Ended r)
    → AllByRecursion (λ x. EndsAs w Of finish trails x.tid x.result) xs → AllByRecursion (λ x. EndsAs w Of finish trails x.tid x.result) (book.changed_act t (book.with_result r) xs)
ended_act w Of finish trails t r [] n h = tt
ended_act w Of finish trails t r (x ∷ xs) n h = (by (x.tid == t) refl, ended_act w Of finish trails t r xs n h.1)
  where
    by : (b : Bool) → (x.tid == t) ≡ b → EndsAs w Of finish trails (book.change_if b (book.with_result r) x).tid (book.change_if b (book.with_result r) x).result
    by true e = λ q i. let j : r ≡ q = cc i in subst (λ z. Explained w Of finish (trails x.tid) x.tid (Ended z)) j (subst (λ z. Explained w Of finish (trails z) z (Ended r)) (sym (eqb-true x.tid t e)) n)
    by false e = h.0

ended_pact : {C : Type 0} (w : Fixed C) (Of : Tx → C → Type 0) (finish : C → List State → Alone) (trails : ℕ → Trail) (t : ℕ) (r : TxResult) (bs : List Batch) → Explained w Of finish (trails t) t (Ended r) → EachPact (EndsAs w Of finish trails) bs → EachPact (EndsAs w Of finish trails) (map (desk.with_results t r) bs)
ended_pact w Of finish trails t r bs n h = with_result (EndsAs w Of finish trails) t r bs (λ u o i g. λ q j. let k : r ≡ q = cc j in subst (λ z. Explained w Of finish (trails u) u (Ended z)) k (subst (λ z. Explained w Of finish (trails z) z (Ended r)) (sym i) n)) h

pub kept : {C : Type 0} (w : Fixed C) (Of : Tx → C → Type 0) (finish : C → List State → Alone) (e : Event) (s : Machine C) (h : History) → IsAllowed w e s → NoActResult e s → Named s h → resting.Drawn s → AllControls (NoneNoted s) s → AllControls (Told w Of finish h) s
    → Results w Of finish s h → Results w Of finish (after w e s) (grown w e s h)
unfolding conditions after grown resting.Drawn NoActResult
kept w Of finish (Form k) s h ok na n dr none told g =
    let same : (t : ℕ) → t < s.ring.next_tid → begun (ring.next_pacts w.text s.ring) h.trails t ≡ h.trails t = λ t l. begun_below (ring.next_pacts w.text s.ring) s.ring.next_tid t h.trails (new_tids s.ring.next_tid s.ring.next_tid _ (omega arith)) l in
    record {
      cells = g.cells;
      within = λ t. begun_within (length w.text.opening.states) t (ring.next_pacts w.text s.ring) h.trails (g.within t);
      pacts = each_stays w (Form k) s (EndsAs w Of finish (begun (ring.next_pacts w.text s.ring) h.trails)) (λ j f. new_ends w Of finish (begun (ring.next_pacts w.text s.ring) h.trails) s.ring.next_tid (take w.text.batch (queue s.ring.pacts s.ring.holder))) (λ t a f u o r i p. absurd (cc f)) (each_low w Of finish s.ring.next_tid h.trails _ s.desk.batches same dr g.pacts);
      acts = acts_low w Of finish s.ring.next_tid h.owners h.trails _ s.book.acts same n.acts g.acts;
    }
kept w Of finish (Admit t) s h ok na n dr none told g =
    let i : t ≡ s.ring.next_tid = eqb-true t s.ring.next_tid ok.0 in
    let new : ℕ → Trail = with_at t (record { tx = post.next_act s.ring; steps = [] }) h.trails in
    let same : (u : ℕ) → u < s.ring.next_tid → new u ≡ h.trails u = λ u l. rw (ne_eqb u t (λ q. omega (arith, q, i, l))) refl in
    record {
      cells = g.cells;
      within = λ u. by u (u == t);
      pacts = each_low w Of finish s.ring.next_tid h.trails new s.desk.batches same dr g.pacts;
      acts = all_join (λ x. EndsAs w Of finish new x.tid x.result) s.book.acts _ (acts_low w Of finish s.ring.next_tid h.owners h.trails new s.book.acts same n.acts g.acts) (λ r q. absurd (cc q), tt);
    }
  where
    by : (u : ℕ) (b : Bool) → AllByRecursion (λ x. x.actor < length w.text.opening.states) (if b then record { tx = post.next_act s.ring; steps = [] } else h.trails u).steps
    by u true = tt
    by u false = g.within u
kept {C} w Of finish (Run t a) s h ok na n dr none told g =
    let x : Step = record { actor = a; found = (cell_at s a).state; left = (cell.slice_run w.code t a (cell_at s a)).state } in
    record {
      cells = cells_stay w (Run t a) s ∙ g.cells;
      within = λ u. by x u (u == t) (omega (arith, in_range _ s.cells a ok.0, g.cells));
      pacts = both_all _ _ _ s.desk.batches (λ b p q. both_all _ _ _ b.pacts (λ y i j. run_same w Of finish t (gone_on x (h.trails t)) h.trails y.tid y.result i j) p q) nothing g.pacts;
      acts = both_all _ _ _ s.book.acts (λ y i j. run_same w Of finish t (gone_on x (h.trails t)) h.trails y.tid y.result i j) na g.acts;
    }
  where
    by : (x : Step) (u : ℕ) (b : Bool) → x.actor < length w.text.opening.states → AllByRecursion (λ x. x.actor < length w.text.opening.states) (if b then gone_on x (h.trails t) else h.trails u).steps
    by x u true l = all_join (λ x. x.actor < length w.text.opening.states) (h.trails t).steps (x ∷ []) (g.within t) (l, tt)
    by x u false l = g.within u

    nothing : NoResult t s.desk.batches
    nothing = at (waiting_of t (cell_at s a).inbox) refl (held (λ c. is_some (waiting_of t c.inbox)) s.cells a no_cell ok.0)
      where
        at : (o : Option (Waiting C)) → waiting_of t (cell_at s a).inbox ≡ o → is_some o ≡ true → NoResult t s.desk.batches
        at None e q = absurd (true≢false (sym q))
        at (Some y) e q = let f = all_found (λ y. NoneNoted s y.tid (Go a y.control)) (λ y. y.tid == t) (cell_at s a).inbox y (none.inboxes a) e in subst (λ z. NoResult z s.desk.batches) (eqb-true y.tid t f.1) f.0
kept {C} w Of finish (End t a) s h ok na n dr none told g = record {
  cells = cells_stay w (End t a) s ∙ g.cells;
  within = g.within;
  pacts = pacts (has_act t (cell_at s a).entries) (outcome_of t (cell_at s a).outbox) refl;
  acts = acts (has_act t (cell_at s a).entries) (outcome_of t (cell_at s a).outbox) refl;
}
  where
    end : (y : Outcome C) → outcome_of t (cell_at s a).outbox ≡ Some y → Told w Of finish h t y.next
    end y e = let f = all_found (λ y. Told w Of finish h y.tid y.next) (λ y. y.tid == t) (cell_at s a).outbox y (told.outboxes a) e in subst (λ z. Told w Of finish h z y.next) (eqb-true y.tid t f.1) f.0

    note : (x : Next C) → Told w Of finish h t x → EachPact (EndsAs w Of finish h.trails) (desk.noted_for t x s.desk.batches)
    note (Go b y) m = g.pacts
    note (Ended r) m = ended_pact w Of finish h.trails t r s.desk.batches m g.pacts

    note_act : (x : Next C) → Told w Of finish h t x → AllByRecursion (λ x. EndsAs w Of finish h.trails x.tid x.result) (book.noted_for t x s.book.acts)
    note_act (Go b y) m = g.acts
    note_act (Ended r) m = ended_act w Of finish h.trails t r s.book.acts m g.acts

    pacts : (v : Bool) (o : Option (Outcome C)) → outcome_of t (cell_at s a).outbox ≡ o → EachPact (EndsAs w Of finish h.trails) (if v then s.desk.batches else desk.noted_from t o s.desk.batches)
    pacts true o e = g.pacts
    pacts false None e = g.pacts
    pacts false (Some y) e = note y.next (end y e)

    acts : (v : Bool) (o : Option (Outcome C)) → outcome_of t (cell_at s a).outbox ≡ o → AllByRecursion (λ x. EndsAs w Of finish h.trails x.tid x.result) (if v then book.noted_from t o s.book.acts else s.book.acts)
    acts false o e = g.acts
    acts true None e = g.acts
    acts true (Some y) e = note_act y.next (end y e)
kept w Of finish e s h ok na n dr none told g = record {
  cells = cells_stay w e s ∙ g.cells;
  within = g.within;
  pacts = each_stays w e s (EndsAs w Of finish h.trails) (λ j f. absurd (cc f)) (λ t a f u o r i p. absurd (cc f)) g.pacts;
  acts = same_acts w Of finish h.trails s.book.acts _ (frame w e s ActTids refl) (frame w e s ActResults refl) g.acts;
}

-- ---- who commits is explained

with_value : (o : Option TxResult) → is_value o ≡ true → (r : TxResult) × (o ≡ Some r)
with_value None e = absurd (true≢false (sym e))
with_value (Some r) e = (r, refl)

pub with_result_of : (o : Option TxResult) → is_some o ≡ true → (r : TxResult) × (o ≡ Some r)
with_result_of None e = absurd (true≢false (sym e))
with_result_of (Some r) e = (r, refl)

pub all_names : (ps : List Pact) → AllByRecursion (λ p. list_any (λ q. q.tid == p.tid) ps ≡ true) ps
all_names [] = tt
all_names (p ∷ ps) = (or_left (p.tid == p.tid) _ (eq-eqb p.tid p.tid refl), weaker _ _ ps (λ q e. or_right (p.tid == q.tid) _ e) (all_names ps))

pub all_of_names : (who : Who) (next : ℕ) (owners : ℕ → Who) (trails : ℕ → Trail) (ps : List Pact) → AllNamed next owners trails who (map (λ p. p.tid) ps) (map (λ p. p.tx) ps) → AllByRecursion (λ p. (trails p.tid).tx ≡ p.tx) ps
all_of_names who next owners trails [] h = tt
all_of_names who next owners trails (p ∷ ps) h = (h.0.tx, all_of_names who next owners trails ps h.1)

pub batch_explained : {C : Type 0} (w : Fixed C) (Of : Tx → C → Type 0) (finish : C → List State → Alone) (k : ℕ) (s : Machine C) (h : History) (b : Batch) → Facts (length w.text.opening.states) w.code (IsTxIn w.text) Of finish → is_open b ≡ true → MayCommit s h k b → Tracked w s h → Named s h → Matched s h → Results w Of finish s h
    → AllByRecursion (IsExplained w finish) (map (done_pact k h) b.pacts)
unfolding Tracked Matched
batch_explained w Of finish k s h b facts opened m t n g r =
    let named = all_found (λ b. AllNamed s.ring.next_tid h.owners h.trails (OfBatch b.bid) (map (λ p. p.tid) b.pacts) (map (λ p. p.tx) b.pacts)) (λ b. b.bid == k) s.desk.batches b n.pacts m.is_it in
    let ended = all_found (λ b. AllByRecursion (λ p. EndsAs w Of finish h.trails p.tid p.result) b.pacts) (λ b. b.bid == k) s.desk.batches b r.pacts m.is_it in
    each b.pacts m.values (all_names b.pacts) (all_of_names (OfBatch b.bid) s.ring.next_tid h.owners h.trails b.pacts named.0) ended.0
  where
    each : (ps : List Pact) → AllByRecursion (λ p. is_value p.result ≡ true) ps → AllByRecursion (λ p. list_any (λ q. q.tid == p.tid) b.pacts ≡ true) ps → AllByRecursion (λ p. (h.trails p.tid).tx ≡ p.tx) ps → AllByRecursion (λ p. EndsAs w Of finish h.trails p.tid p.result) ps
        → AllByRecursion (IsExplained w finish) (map (done_pact k h) ps)
    each [] v e x q = tt
    each (p ∷ ps) v e x q =
        let o = with_value p.result v.0 in
        let run : runs s (OfBatch k) p.tid ≡ true = subst (λ z. holds (is_open_with p.tid) z ≡ true) (sym m.is_it) (and_from (is_open b) (names_pact p.tid b) opened e.0) in
        (views_explain w Of finish (done_pact k h p) (h.trails p.tid) p.tid o.0 facts (q.0 o.0 o.1) o.1 x.0 (r.within p.tid) (λ a. tied p a (g (OfBatch k) p.tid run a)), each ps v.1 e.1 x.1 q.1)
      where
        tied : (p : Pact) (a : ℕ) → on_actor a p.tid (h.trails p.tid).steps ≡ own_slices p.tid (slices_of (OfBatch k) (h.long a)) → Tied (done_pact k h p) (h.trails p.tid) p.tid a
        tied p a same = let l = own_linked (OfBatch k) (slice_index_or w.text.opening.states a no_state) (cell_at s a).state (h.long a) (t a).links in record { slices = slices_of (OfBatch k) (h.long a); low = 0; from = l.0; to = l.1.0; same = same; view = refl; rising = m.rising a; links = l.1.1 }

one_rises : (t low : ℕ) (ss : List Slice) → low ≤ t → AllByRecursion (λ z. z.tid ≡ t) ss → Rising low ss
one_rises t low [] l h = tt
one_rises t low (x ∷ xs) l h = (omega (arith, l, h.0), one_rises t x.tid xs (omega (arith, h.0)) h.1)

-- a reader's own slices
own_twice : (t : ℕ) (zs : List Slice) → own_slices t (own_slices t zs) ≡ own_slices t zs
own_twice t [] = refl
own_twice t (z ∷ zs) = by (z.tid == t) refl (own_twice t zs)
  where
    by : (b : Bool) → (z.tid == t) ≡ b → own_slices t (own_slices t zs) ≡ own_slices t zs → own_slices t (if b then z ∷ own_slices t zs else own_slices t zs) ≡ (if b then z ∷ own_slices t zs else own_slices t zs)
    by true e k = rw e (ap (λ y. z ∷ y) k)
    by false e k = k

own_last : (t : ℕ) (s : State) (zs : List Slice) → last_left t s zs ≡ last_left t s (own_slices t zs)
own_last t s [] = refl
own_last t s (z ∷ zs) = by (z.tid == t) refl (λ y. own_last t y zs)
  where
    by : (b : Bool) → (z.tid == t) ≡ b → ((y : State) → last_left t y zs ≡ last_left t y (own_slices t zs)) → last_left t (if b then z.left else s) zs ≡ last_left t s (if b then z ∷ own_slices t zs else own_slices t zs)
    by true e k = k z.left ∙ ap (λ b. last_left t (if b then z.left else s) (own_slices t zs)) (sym e)
    by false e k = k s

own_view : (t : ℕ) (zs : List Slice) → view_in t zs ≡ view_in t (own_slices t zs)
own_view t [] = refl
own_view t (z ∷ zs) = by (z.tid == t) refl (own_view t zs)
  where
    by : (b : Bool) → (z.tid == t) ≡ b → view_in t zs ≡ view_in t (own_slices t zs) → (if b then Some (record { found = z.found; left = last_left t z.left zs }) else view_in t zs) ≡ view_in t (if b then z ∷ own_slices t zs else own_slices t zs)
    by true e k = ap (λ y. Some (record { found = z.found; left = y })) (own_last t z.left zs) ∙ ap (λ b. if b then Some (record { found = z.found; left = last_left t z.left (own_slices t zs) }) else view_in t (own_slices t zs)) (sym e)
    by false e k = k

own_tids : (t : ℕ) (zs : List Slice) → AllByRecursion (λ z. z.tid ≡ t) (own_slices t zs)
own_tids t [] = tt
own_tids t (z ∷ zs) = by (z.tid == t) refl (own_tids t zs)
  where
    by : (b : Bool) → (z.tid == t) ≡ b → AllByRecursion (λ z. z.tid ≡ t) (own_slices t zs) → AllByRecursion (λ z. z.tid ≡ t) (if b then z ∷ own_slices t zs else own_slices t zs)
    by true e k = (eqb-true z.tid t e, k)
    by false e k = k

own_stays : (now : State) (t : ℕ) (zs : List Slice) → AllByRecursion (λ z. z.tid ≡ t → (z.found ≡ now) × (z.left ≡ now)) zs → Linked now (own_slices t zs) now
own_stays now t [] h = refl
own_stays now t (z ∷ zs) h = by (z.tid == t) refl (own_stays now t zs h.1)
  where
    by : (b : Bool) → (z.tid == t) ≡ b → Linked now (own_slices t zs) now → Linked now (if b then z ∷ own_slices t zs else own_slices t zs) now
    by true e k = let p = h.0 (eqb-true z.tid t e) in (p.0, subst (λ y. Linked y (own_slices t zs) now) (sym p.1) k)
    by false e k = k

pub act_explained : {C : Type 0} (w : Fixed C) (Of : Tx → C → Type 0) (finish : C → List State → Alone) (t c : ℕ) (s : Machine C) (h : History) (x : Act) → Facts (length w.text.opening.states) w.code (IsTxIn w.text) Of finish → is_some x.result ≡ true → is_live_status x.status ≡ true → MayDecide s h t x → Tracked w s h → Named s h → Matched s h → Results w Of finish s h
    → AllByRecursion (IsExplained w finish) (done_act c h (Some x))
unfolding Tracked Matched
act_explained w Of finish t c s h x facts some live m tr n g r =
    let named = all_found (λ x. IsNamed s.ring.next_tid h.owners h.trails (OfAct x.tid) x.tid x.tx) (λ x. x.tid == t) s.book.acts x n.acts m.is_it in
    let ended = all_found (λ x. EndsAs w Of finish h.trails x.tid x.result) (λ x. x.tid == t) s.book.acts x r.acts m.is_it in
    let o = with_result_of x.result some in
    let run : runs s (OfAct x.tid) x.tid ≡ true = subst (λ z. runs s (OfAct z) z ≡ true) (sym m.tid) (rw (eq-eqb t t refl, m.is_it) live) in
    (views_explain w Of finish _ (h.trails x.tid) x.tid o.0 facts (ended.0 o.0 o.1) o.1 named.0.tx (r.within x.tid) (λ a. tied a (subst (λ v. on_actor a x.tid (h.trails x.tid).steps ≡ own_slices x.tid (if v then h.reads a else slices_of (OfAct x.tid) (h.long a))) kind (g (OfAct x.tid) x.tid run a))), tt)
  where
    kind : is_reader_act (act_of x.tid s.book.acts) ≡ x.reader
    kind = ap (λ z. is_reader_act (act_of z s.book.acts)) m.tid ∙ ap is_reader_act m.is_it

    d : Done
    d = record { who = OfAct x.tid; tid = x.tid; tx = x.tx; place = Rattle.protocol.specs.Verdicts.act_place x.m c; result = x.result; reader = x.reader; views = Rattle.protocol.specs.History.act_view h x }

    tied : (a : ℕ) → on_actor a x.tid (h.trails x.tid).steps ≡ own_slices x.tid (if x.reader then h.reads a else slices_of (OfAct x.tid) (h.long a)) → Tied d (h.trails x.tid) x.tid a
    tied a same = by x.reader refl same
      where
        viewed : (v : Bool) → x.reader ≡ v → Rattle.protocol.specs.History.act_view h x a ≡ view_in x.tid (slices_for v x.tid (h.reads a) (h.long a))
        viewed v q = ap (λ z. view_in x.tid (slices_for z x.tid (h.reads a) (h.long a))) q

        by : (v : Bool) → x.reader ≡ v → on_actor a x.tid (h.trails x.tid).steps ≡ own_slices x.tid (if v then h.reads a else slices_of (OfAct x.tid) (h.long a)) → Tied d (h.trails x.tid) x.tid a
        by false q same =
            let l = own_linked (OfAct x.tid) (slice_index_or w.text.opening.states a no_state) (cell_at s a).state (h.long a) (tr a).links in
            let own : AllByRecursion (λ z. z.tid ≡ t) (slices_of (OfAct x.tid) (h.long a)) = subst (λ z. AllByRecursion (λ y. y.tid ≡ t) (slices_of (OfAct z) (h.long a))) (sym m.tid) (m.of_it a) in
            record { slices = slices_of (OfAct x.tid) (h.long a); low = 0; from = l.0; to = l.1.0; same = same; view = viewed false q; rising = one_rises t 0 (slices_of (OfAct x.tid) (h.long a)) (omega arith) own; links = l.1.1 }
        by true q same = record {
          slices = own_slices x.tid (h.reads a);
          low = 0;
          from = (cell_at s a).state;
          to = (cell_at s a).state;
          same = same ∙ sym (own_twice x.tid (h.reads a));
          view = viewed true q ∙ own_view x.tid (h.reads a);
          rising = one_rises x.tid 0 (own_slices x.tid (h.reads a)) (omega arith) (own_tids x.tid (h.reads a));
          links = own_stays (cell_at s a).state x.tid (h.reads a) (subst (λ z. AllByRecursion (λ y. y.tid ≡ z → (y.found ≡ (cell_at s a).state) × (y.left ≡ (cell_at s a).state)) (h.reads a)) (sym m.tid) (m.seen q a));
        }

unfoldable pub AllExplained : {C : Type 0} → Fixed C → (C → List State → Alone) → History → Type 0
AllExplained w finish h = AllByRecursion (IsExplained w finish) h.committed

pub explained_kept : {C : Type 0} (w : Fixed C) (Of : Tx → C → Type 0) (finish : C → List State → Alone) (e : Event) (s : Machine C) (h : History) → Facts (length w.text.opening.states) w.code (IsTxIn w.text) Of finish → IsAllowed w e s → chain.Assumed e s h → Tracked w s h → Named s h → Matched s h → Results w Of finish s h
    → AllExplained w finish h → AllExplained w finish (grown w e s h)
unfolding AllExplained chain.Assumed conditions grown
explained_kept w Of finish (Commit k) s h facts ok o t n m r g =
    let b = o.0 in
    let opened : is_open b ≡ true = (and_parts (is_open b) (is_next_to_commit k s.desk.batches) (subst (λ z. holds (λ b. is_open b && is_next_to_commit k s.desk.batches) z ≡ true) o.1.is_it ok.0)).0 in
    all_join _ h.committed _ g (subst (λ z. AllByRecursion (IsExplained w finish) (done_batch k h z)) (sym o.1.is_it) (batch_explained w Of finish k s h b facts opened o.1 t n m r))
explained_kept w Of finish (Decide t) s h facts ok o tr n m r g =
    let x = o.0 in
    let q = and_parts (is_some x.result) (is_live_status x.status) (subst (λ z. holds (λ x. is_some x.result && is_live_status x.status) z ≡ true) o.1.is_it ok.0) in
    all_join _ h.committed _ g (subst (λ z. AllByRecursion (IsExplained w finish) (done_act s.book.next_c h z)) (sym o.1.is_it) (act_explained w Of finish t s.book.next_c s h x facts q.0 q.1 o.1 tr n m r))
explained_kept w Of finish e s h facts ok o t n m r g = g
