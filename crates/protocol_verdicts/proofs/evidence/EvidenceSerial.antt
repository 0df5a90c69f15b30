-- What verdicts tell of serial runs.
use Rattle.std.specs.Prelude.{◌≡◌, refl, ℕ, ◌+◌, ◌<◌, ◌==◌, nat_lt, nat_le, not, Bool, true, false, ◌&&◌, ◌||◌, ◌⊎◌, if◌then◌else◌, Option, Some, None, is_some, List, [], ◌∷◌, ◌++◌, length, map, filter, find, slice_index_or}
use Rattle.std.specs.List.{AllByRecursion, list_any, list_all}
use Rattle.std.proofs.Common.{arith, sym, ap, subst, inl, inr, ◌∙◌}
use Rattle.std.proofs.lemmas.Bool.{true≢false, eqb-true, leb-true, lt-ltb, eq-eqb, and_parts, and_from, or_cases, not-true}
use Rattle.snap_base.specs.declared.transactions.State.{State}
use Rattle.snap_base.specs.declared.transactions.Tx.{Tx}
use Rattle.snap_base.specs.declared.transactions.TxResult.{TxResult}
use Rattle.snap_base.specs.declared.transactions.TxResult.TheVariants.{Fail}
use Rattle.snap_base.specs.declared.verdicts.Place.{Place}
use Rattle.snap_base.proofs.Options.{same_some}
use Rattle.protocol.specs.Fixed.{Fixed, no_state, tx_at}
use Rattle.protocol.specs.Facts.{Alone, Facts, alone, serial, state_in}
use Rattle.protocol.specs.Parts.{Pact, Batch, OfBatch, Machine}
use Rattle.protocol.specs.Words.{holds, is_among, is_value, is_aborted, is_formed, is_settled, is_open, is_next_to_commit, batch_of, names_pact}
use Rattle.protocol.specs.Effects.{cell_at}
use Rattle.protocol.specs.History.{History, Done, Slice, slices_of, view_in, done_pact}
use Rattle.protocol_laws.specs.Told.{PactsAscend}
use Rattle.protocol_laws.specs.Trails.{on_actor}
use Rattle.protocol_laws.specs.Tracks.{keys_in, Differ}
use Rattle.protocol_laws.specs.Turns.{Rising}
use Rattle.protocol_laws.specs.Commits.{Finds, left_as, left_of, StatesLink, last_state, is_kept, KeptAhead}
use Rattle.protocol_laws.specs.Marks.{Marked}
use Rattle.protocol_theorems.specs.Order.{LeavesIt}
use Rattle.protocol.specs.Chains.{RivalsRise, by_place, put_by_place, is_place_below, txs_of, IsBelowAll}
use Rattle.protocol_laws.specs.Linked.{IsExplained, came_to, visitors}
use Rattle.protocol_laws.specs.Told.{IsAmongDone}
use Rattle.protocol_theorems.specs.Order.{OrderStands}
use Rattle.protocol_verdicts.specs.EvidenceSerial.{HasResultThere, counts, counted, world_before, ByTid}
use Rattle.protocol_laws.proofs.first.Lists.{all_filter, all_found, both_all, some_held}
use Rattle.protocol_laws.proofs.machine.MarksKept as marks
use Rattle.protocol_laws.proofs.first.SettlingKept as settling
use Rattle.protocol_laws.proofs.machine.TracksKept.{Tracked}
use Rattle.protocol_laws.proofs.machine.TurnsKept.{Turned}
use Rattle.protocol_laws.proofs.machine.PlacesKept.{Placed}
use Rattle.protocol_laws.proofs.machine.CommitLists.{goes_on}
use Rattle.protocol_laws.proofs.machine.CommitsKept.{Committed, all_views}
use Rattle.protocol_laws.proofs.machine.BatchesCommit.{Numbered, GoodKey, good_keys, batch_slices, of_pacts}
use Rattle.protocol_theorems.proofs.order.NamesKept.{Named, AllNamed}
use Rattle.protocol_theorems.proofs.order.RunsBefore.{is_open_with}
use Rattle.protocol_theorems.proofs.order.SlicesKept.{runs, Matched}
use Rattle.protocol_theorems.proofs.order.ViewsExplain.{Tied, own_slices, own_linked, views_explain}
use Rattle.protocol_theorems.proofs.order.ExplainedKept.{EndsAs, Results, AllExplained, all_names, all_of_names, with_result_of}
use Rattle.protocol_laws.proofs.machine.PlacesRise.{IsSided, PlacesStand, below_open}
use Rattle.protocol_theorems.proofs.order.ByPlace.{all_sorted}
use Rattle.protocol_theorems.proofs.order.OrderImplied.{LinkedFrom, serial_results, serial_length, serial_states, sorted_links, sorted_last, left_none}
use Rattle.protocol_laws.proofs.machine.Good.{Good}
use Rattle.protocol_theorems.proofs.order.OrderLaw.{Ordered}
use Rattle.protocol_verdicts.proofs.evidence.EvidenceAhead.{ahead_ran, pacts_link}
use Rattle.protocol.specs.Rests.{IsTxIn}
use Rattle.protocol_laws.proofs.first.Statuses.{settled_not_formed, value_some}

-- ---- one of the serial run

pub record SplitAt (d : Done) (ds : List Done) : Type 0 where
  pub front : List Done
  pub rest : List Done
  pub splits : ds ≡ front ++ d ∷ rest

put_own : (d : Done) (ds : List Done) → SplitAt d (put_by_place d ds)
put_own d [] = record { front = []; rest = []; splits = refl }
put_own d (x ∷ xs) = by (is_place_below d.place x.place) (put_own d xs)
  where
    by : (b : Bool) → SplitAt d (put_by_place d xs) → SplitAt d (if b then d ∷ x ∷ xs else x ∷ put_by_place d xs)
    by true g = record { front = []; rest = x ∷ xs; splits = refl }
    by false g = record { front = x ∷ g.front; rest = g.rest; splits = ap (λ l. x ∷ l) g.splits }

put_other : (x d : Done) (front rest : List Done) → SplitAt d (put_by_place x (front ++ d ∷ rest))
put_other x d [] rest = by (is_place_below x.place d.place)
  where
    by : (b : Bool) → SplitAt d (if b then x ∷ d ∷ rest else d ∷ put_by_place x rest)
    by true = record { front = x ∷ []; rest = rest; splits = refl }
    by false = record { front = []; rest = put_by_place x rest; splits = refl }
put_other x d (y ∷ front) rest = by (is_place_below x.place y.place) (put_other x d front rest)
  where
    by : (b : Bool) → SplitAt d (put_by_place x (front ++ d ∷ rest)) → SplitAt d (if b then x ∷ y ∷ (front ++ d ∷ rest) else y ∷ put_by_place x (front ++ d ∷ rest))
    by true g = record { front = x ∷ y ∷ front; rest = rest; splits = refl }
    by false g = record { front = y ∷ g.front; rest = g.rest; splits = ap (λ l. y ∷ l) g.splits }

pub sorted_at : (d : Done) (front rest : List Done) → SplitAt d (by_place (front ++ d ∷ rest))
sorted_at d [] rest = put_own d (by_place rest)
sorted_at d (x ∷ front) rest = let g = sorted_at d front rest in subst (λ z. SplitAt d (put_by_place x z)) (sym g.splits) (put_other x d g.front g.rest)

serial_at : {C : Type 0} (w : Fixed C) (finish : C → List State → Alone) (front rest : List Done) (d : Done) (world : List State) → map Some (serial w.code finish world (txs_of w (front ++ d ∷ rest))).results ≡ map (λ d. d.result) (front ++ d ∷ rest)
    → Some (alone w.code finish (serial w.code finish world (txs_of w front)).world (tx_at w.text d.tx)).result ≡ d.result
serial_at w finish [] rest d world e = cc e
serial_at w finish (x ∷ front) rest d world e = serial_at w finish front rest d (alone w.code finish world (tx_at w.text x.tx)).world (cc e)

pub result_there : {C : Type 0} (w : Fixed C) (finish : C → List State → Alone) (s : Machine C) (h : History) (n : ℕ) (p : Place) (r : TxResult) → OrderStands w finish s h → IsAmongDone n p r h.committed → HasResultThere w finish n p r h.committed
result_there w finish s h n p r o i =
    let g = subst (λ z. SplitAt i.done (by_place z)) (sym i.splits) (sorted_at i.done i.front i.rest) in
    let e = serial_at w finish g.front g.rest i.done w.text.opening.states (subst (λ z. map Some (serial w.code finish w.text.opening.states (txs_of w z)).results ≡ map (λ d. d.result) z) g.splits o.serial) in
    record {
      done = i.done;
      front = g.front;
      rest = g.rest;
      splits = g.splits;
      tx = i.tx;
      place = i.place;
      gives = ap (λ z. (alone w.code finish (serial w.code finish w.text.opening.states (txs_of w g.front)).world (tx_at w.text z)).result) (sym i.tx) ∙ same_some _ r (e ∙ i.result);
    }

-- ---- what counts

and_true : (v b : Bool) → b ≡ true → (v && b) ≡ v
and_true true b e = e
and_true false b e = refl

side_counts : (k c : ℕ) (d : Done) → d.place.batch.0 < k → IsSided c d.place → counts k c d ≡ is_value d.result
side_counts k c d l (inl e) = and_true (is_value d.result) _ (by (d.place.side == 0) (eq-eqb d.place.side 0 e))
  where
    by : (b : Bool) → b ≡ true → (if b then nat_lt d.place.batch.0 k else nat_lt d.place.order c) ≡ true
    by true f = lt-ltb d.place.batch.0 k l
    by false f = absurd (true≢false (sym f))
side_counts k c d l (inr e) = and_true (is_value d.result) _ (by (d.place.side == 0))
  where
    by : (b : Bool) → (if b then nat_lt d.place.batch.0 k else nat_lt d.place.order c) ≡ true
    by true = lt-ltb d.place.batch.0 k l
    by false = lt-ltb d.place.order c e.1

record SameLinks (a : ℕ) (s : State) (p : Done → Bool) (ds : List Done) : Type 0 where
  pub links : StatesLink a s (filter p ds)
  pub last : last_state a s (filter p ds) ≡ last_state a s ds

links_valued : (a : ℕ) (s : State) (p : Done → Bool) (ds : List Done) → AllByRecursion (λ d. p d ≡ is_value d.result) ds → StatesLink a s ds → SameLinks a s p ds
links_valued a s p [] h l = record { links = tt; last = refl }
links_valued a s p (d ∷ ds) h l = by (p d) refl (links_valued a (left_of a d s) p ds h.1 l.1)
  where
    by : (b : Bool) → p d ≡ b → SameLinks a (left_of a d s) p ds → SameLinks a s (λ x. p x) (d ∷ ds)
    by true e g = rec_true e g
      where
        rec_true : p d ≡ true → SameLinks a (left_of a d s) p ds → SameLinks a s (λ x. p x) (d ∷ ds)
        rec_true e g = record { links = subst (λ z. StatesLink a s (if z then d ∷ filter p ds else filter p ds)) (sym e) (l.0, g.links); last = ap (λ z. last_state a s (if z then d ∷ filter p ds else filter p ds)) e ∙ g.last }
    by false e g =
        let stays : left_of a d s ≡ s = ap (λ z. left_as z (d.views a) s) (sym h.0 ∙ e) in
        record {
          links = subst (λ z. StatesLink a s (if z then d ∷ filter p ds else filter p ds)) (sym e) (subst (λ z. StatesLink a z (filter p ds)) stays g.links);
          last = ap (λ z. last_state a s (if z then d ∷ filter p ds else filter p ds)) e ∙ (ap (λ z. last_state a z (filter p ds)) (sym stays) ∙ g.last);
        }

-- ---- at the Abort

up_to : {X : Type 0} (P : X → Type 0) (front rest : List X) (x : X) → AllByRecursion P (front ++ x ∷ rest) → AllByRecursion P (front ++ x ∷ [])
up_to P [] rest x h = (h.0, tt)
up_to P (y ∷ front) rest x h = (h.0, up_to P front rest x h.1)

pub by_tid_of : (low : ℕ) (ps : List Pact) → PactsAscend low ps → ByTid low ps
by_tid_of low [] h = tt
by_tid_of low (p ∷ ps) h = (h.0, by_tid_of (p.tid + 1) ps h.1)

have_results : (front : List Pact) (p : Pact) (code : ℕ) → AllByRecursion (λ p. is_value p.result ≡ true) front → p.result ≡ Some (Fail code) → AllByRecursion (λ p. is_some p.result ≡ true) (front ++ p ∷ [])
have_results [] p code v e = (ap is_some e, tt)
have_results (q ∷ front) p code v e = (value_some q.result v.0, have_results front p code v.1 e)

pacts_explained : {C : Type 0} (w : Fixed C) (Of : Tx → C → Type 0) (finish : C → List State → Alone) (k : ℕ) (s : Machine C) (h : History) (b : Batch) (front rest : List Pact) (p : Pact) (code : ℕ) → Facts (length w.text.opening.states) w.code (IsTxIn w.text) Of finish → is_open b ≡ true → batch_of k s.desk.batches ≡ Some b → b.pacts ≡ front ++ p ∷ rest
    → AllByRecursion (λ p. is_value p.result ≡ true) front → p.result ≡ Some (Fail code) → ((a : ℕ) → Rising 0 (slices_of (OfBatch k) (h.long a))) → Tracked w s h → Named s h → Matched s h → Results w Of finish s h → AllByRecursion (IsExplained w finish) (map (done_pact k h) (front ++ p ∷ []))
unfolding Tracked Matched
pacts_explained w Of finish k s h b front rest p code facts opened is_it splits values fails rising t n g r =
    let named = all_found (λ b. AllNamed s.ring.next_tid h.owners h.trails (OfBatch b.bid) (map (λ p. p.tid) b.pacts) (map (λ p. p.tx) b.pacts)) (λ b. b.bid == k) s.desk.batches b n.pacts is_it in
    let ended = all_found (λ b. AllByRecursion (λ p. EndsAs w Of finish h.trails p.tid p.result) b.pacts) (λ b. b.bid == k) s.desk.batches b r.pacts is_it in
    each (front ++ p ∷ []) (have_results front p code values fails)
    (up_to (λ p. list_any (λ q. q.tid == p.tid) b.pacts ≡ true) front rest p (subst (AllByRecursion (λ p. list_any (λ q. q.tid == p.tid) b.pacts ≡ true)) splits (all_names b.pacts)))
    (up_to (λ p. (h.trails p.tid).tx ≡ p.tx) front rest p (subst (AllByRecursion (λ p. (h.trails p.tid).tx ≡ p.tx)) splits (all_of_names (OfBatch b.bid) s.ring.next_tid h.owners h.trails b.pacts named.0)))
    (up_to (λ p. EndsAs w Of finish h.trails p.tid p.result) front rest p (subst (AllByRecursion (λ p. EndsAs w Of finish h.trails p.tid p.result)) splits ended.0))
  where
    each : (ps : List Pact) → AllByRecursion (λ p. is_some p.result ≡ true) ps → AllByRecursion (λ p. list_any (λ q. q.tid == p.tid) b.pacts ≡ true) ps → AllByRecursion (λ p. (h.trails p.tid).tx ≡ p.tx) ps → AllByRecursion (λ p. EndsAs w Of finish h.trails p.tid p.result) ps
        → AllByRecursion (IsExplained w finish) (map (done_pact k h) ps)
    each [] v e x q = tt
    each (p ∷ ps) v e x q =
        let o = with_result_of p.result v.0 in
        let run : runs s (OfBatch k) p.tid ≡ true = subst (λ z. holds (is_open_with p.tid) z ≡ true) (sym is_it) (and_from (is_open b) (names_pact p.tid b) opened e.0) in
        (views_explain w Of finish (done_pact k h p) (h.trails p.tid) p.tid o.0 facts (q.0 o.0 o.1) o.1 x.0 (r.within p.tid) (λ a. tied p a (g (OfBatch k) p.tid run a)), each ps v.1 e.1 x.1 q.1)
      where
        tied : (p : Pact) (a : ℕ) → on_actor a p.tid (h.trails p.tid).steps ≡ own_slices p.tid (slices_of (OfBatch k) (h.long a)) → Tied (done_pact k h p) (h.trails p.tid) p.tid a
        tied p a same = let l = own_linked (OfBatch k) (slice_index_or w.text.opening.states a no_state) (cell_at s a).state (h.long a) (t a).links in record { slices = slices_of (OfBatch k) (h.long a); low = 0; from = l.0; to = l.1.0; same = same; view = refl; rising = rising a; links = l.1.1 }

none_link : (k a : ℕ) (h : History) (last : State) (ps : List Pact) → slices_of (OfBatch k) (h.long a) ≡ [] → StatesLink a last (map (done_pact k h) ps)
none_link k a h last [] e = tt
none_link k a h last (p ∷ ps) e =
    let none : view_in p.tid (slices_of (OfBatch k) (h.long a)) ≡ None = ap (view_in p.tid) e in
    let stays : left_of a (done_pact k h p) last ≡ last = ap (λ o. left_as (is_value p.result) o last) none ∙ left_none (is_value p.result) last in
    (subst (λ o. Finds o last) (sym none) tt, subst (λ z. StatesLink a z (map (done_pact k h) ps)) (sym stays) (none_link k a h last ps e))

list_all_at : (p q : Batch → Bool) (b : Batch) (bs : List Batch) → find p bs ≡ Some b → list_all q bs ≡ true → q b ≡ true
list_all_at p q b [] e h = absurd (cc e)
list_all_at p q b (x ∷ xs) e h = by (p x) e (list_all_at p q b xs)
  where
    by : (v : Bool) → (if v then Some x else find p xs) ≡ Some b → (find p xs ≡ Some b → list_all q xs ≡ true → q b ≡ true) → q b ≡ true
    by true e k = let i : x ≡ b = cc e in subst (λ z. q z ≡ true) i (and_parts (q x) (list_all q xs) h).0
    by false e k = k e (and_parts (q x) (list_all q xs) h).1

-- of the batches below one that is next to commit, those that were not aborted are settled
pub next_settled : {C : Type 0} (w : Fixed C) (k j : ℕ) (s : Machine C) (c : Batch) → settling.Settling w s → is_next_to_commit k s.desk.batches ≡ true → j < k → is_aborted j s.book.cascades ≡ false → batch_of j s.desk.batches ≡ Some c → is_settled c.stage ≡ true
next_settled w k j s c g v l e f =
    let i : c.bid ≡ j = eqb-true c.bid j (marks.found_bid j c s.desk.batches f) in
    by i (or_cases (nat_le k c.bid) (c.aborted || is_settled c.stage) (list_all_at (λ b. b.bid == j) (λ b. nat_le k b.bid || (b.aborted || is_settled b.stage)) c s.desk.batches f v))
  where
    or_settled : (c.aborted ≡ true) ⊎ (is_settled c.stage ≡ true) → is_settled c.stage ≡ true
    or_settled (inl y) = absurd (true≢false (sym y ∙ (settling.mark_is w s j c f g ∙ e)))
    or_settled (inr y) = y

    by : c.bid ≡ j → (nat_le k c.bid ≡ true) ⊎ ((c.aborted || is_settled c.stage) ≡ true) → is_settled c.stage ≡ true
    by i (inl x) = absurd (omega (arith, leb-true k c.bid x, i, l))
    by i (inr x) = or_settled (or_cases c.aborted (is_settled c.stage) x)

next_kept : {C : Type 0} (w : Fixed C) (k j : ℕ) (s : Machine C) (h : History) → settling.Settling w s → Marked s h → is_next_to_commit k s.desk.batches ≡ true → j < k → is_aborted j s.book.cascades ≡ false → (o : Option Batch) → batch_of j s.desk.batches ≡ o → is_some o ≡ true → is_kept (OfBatch j) h.kept ≡ true
unfolding Marked
next_kept w k j s h g m v l e None f q = absurd (true≢false (sym q))
next_kept w k j s h g m v l e (Some c) f q = (m j c f).known ∙ ap not (settled_not_formed c.stage (next_settled w k j s c g v l e f))

pacts_linked : {C : Type 0} (w : Fixed C) (Of : Tx → C → Type 0) (finish : C → List State → Alone) (k a : ℕ) (s : Machine C) (h : History) (b : Batch) (front rest : List Pact) (p : Pact) → Good w Of finish s h → is_open b ≡ true → is_next_to_commit k s.desk.batches ≡ true → batch_of k s.desk.batches ≡ Some b → b.pacts ≡ front ++ p ∷ rest
    → AllByRecursion (λ p. is_value p.result ≡ true) front → StatesLink a (last_state a (slice_index_or w.text.opening.states a no_state) h.committed) (map (done_pact k h) (front ++ p ∷ []))
unfolding Marked Placed Tracked Turned Numbered Committed
pacts_linked w Of finish k a s h b front rest p g opened next is_it splits values = at (slices_of (OfBatch k) (h.long a)) refl
  where
    first : State
    first = slice_index_or w.text.opening.states a no_state

    sound : is_aborted k s.book.cascades ≡ false
    sound = sym (settling.mark_is w s k b is_it g.settling) ∙ not-true b.aborted (and_parts (is_formed b.stage) (not b.aborted) opened).1

    fresh : is_kept (OfBatch k) h.kept ≡ false
    fresh = (g.marked k b is_it).known ∙ ap not (and_parts (is_formed b.stage) (not b.aborted) opened).0

    slices : Rising 0 (slices_of (OfBatch k) (h.long a)) × AllByRecursion (λ x. is_among x.tid (map (λ p. p.tid) b.pacts) ≡ true) (slices_of (OfBatch k) (h.long a))
    slices = let q = batch_slices k a s.desk.batches (h.long a) (cell_at s a).entries (g.turned a) (g.from_desk.entries a) in (q.0, of_pacts b (slices_of (OfBatch k) (h.long a)) (batch_of k s.desk.batches) is_it q.1)

    ahead : (slices_of (OfBatch k) (h.long a) ≡ [] → ⊥) → KeptAhead h.kept (OfBatch k) (h.long a)
    ahead n =
        let good : AllByRecursion (GoodKey a s.desk.batches) (keys_in (h.long a)) = subst (AllByRecursion (GoodKey a s.desk.batches)) (g.tracked a).stands (good_keys a s.desk.batches (cell_at s a).entries (g.from_desk.entries a)) in
        ahead_ran h.kept k a s.ring.next_bid (cell_at s a).epoch (cell_at s a).tail s.book.cascades s.desk.batches (h.long a) sound
        (λ j x l z. next_kept w k j s h g.settling g.marked next l z (batch_of j s.desk.batches) refl (some_held _ (batch_of j s.desk.batches) x)) n (g.tracked a).in_order good (g.placed a).fit (g.placed a).ascends

    ran : (slices_of (OfBatch k) (h.long a) ≡ [] → ⊥) → StatesLink a (last_state a first h.committed) (map (done_pact k h) (front ++ p ∷ []))
    ran n =
        let o = goes_on first (last_state a first h.committed) (cell_at s a).state h.kept (OfBatch k) (h.long a) fresh (subst Differ (g.tracked a).stands (g.tracked a).differ) (ahead n) (g.committed a).front (g.committed a).ends (g.tracked a).links in
        pacts_link k a 0 h (last_state a first h.committed) o.to front p rest (slices_of (OfBatch k) (h.long a)) (subst (PactsAscend 0) splits (g.numbered k b is_it)) slices.0
        (subst (λ z. AllByRecursion (λ x. is_among x.tid (map (λ p. p.tid) z) ≡ true) (slices_of (OfBatch k) (h.long a))) splits slices.1) values (all_views k a h (front ++ p ∷ rest)) o.links

    at : (ss : List Slice) → slices_of (OfBatch k) (h.long a) ≡ ss → StatesLink a (last_state a first h.committed) (map (done_pact k h) (front ++ p ∷ []))
    at [] e = none_link k a h (last_state a first h.committed) (front ++ p ∷ []) e
    at (x ∷ xs) e = ran (λ q. cc (sym q ∙ e))

txs_pacts : {C : Type 0} (w : Fixed C) (k : ℕ) (h : History) (ps : List Pact) → txs_of w (map (done_pact k h) ps) ≡ map (λ p. tx_at w.text p.tx) ps
txs_pacts w k h [] = refl
txs_pacts w k h (p ∷ ps) = ap (λ l. tx_at w.text p.tx ∷ l) (txs_pacts w k h ps)

results_pacts : (k : ℕ) (h : History) (ps : List Pact) → map (λ d. d.result) (map (done_pact k h) ps) ≡ map (λ p. p.result) ps
results_pacts k h [] = refl
results_pacts k h (p ∷ ps) = ap (λ l. p.result ∷ l) (results_pacts k h ps)

-- The states behind what counts, and what it leaves on each actor.
record Before {C : Type 0} (w : Fixed C) (finish : C → List State → Alone) (k c : ℕ) (ds : List Done) : Type 0 where
  pub as_many : length (world_before w finish k c ds) ≡ length w.text.opening.states
  pub states : (a : ℕ) → a < length w.text.opening.states → state_in (world_before w finish k c ds) a ≡ last_state a (state_in w.text.opening.states a) ds

swapped : (p q : Done → Bool) (ds : List Done) → filter p (filter q ds) ≡ filter q (filter p ds)
swapped p q [] = refl
swapped p q (d ∷ ds) = by (p d) refl (q d) refl (swapped p q ds)
  where
    by : (b : Bool) → p d ≡ b → (v : Bool) → q d ≡ v → filter p (filter q ds) ≡ filter q (filter p ds) → filter p (if v then d ∷ filter q ds else filter q ds) ≡ filter q (if b then d ∷ filter p ds else filter p ds)
    by true e true f h = rw (e, f) (ap (λ l. d ∷ l) h)
    by true e false f h = rw f h
    by false e true f h = rw e h
    by false e false f h = h

below_filter : (x : Place) (p : Done → Bool) (ds : List Done) → IsBelowAll x ds → IsBelowAll x (filter p ds)
below_filter x p [] h = tt
below_filter x p (d ∷ ds) h = by (p d) (below_filter x p ds h.1)
  where
    by : (b : Bool) → IsBelowAll x (filter p ds) → IsBelowAll x (if b then d ∷ filter p ds else filter p ds)
    by true g = (h.0, g)
    by false g = g

rise_filter : (p : Done → Bool) (ds : List Done) → RivalsRise ds → RivalsRise (filter p ds)
rise_filter p [] h = tt
rise_filter p (d ∷ ds) h = by (p d) (rise_filter p ds h.1)
  where
    by : (b : Bool) → RivalsRise (filter p ds) → RivalsRise (if b then d ∷ filter p ds else filter p ds)
    by true g = (all_filter (λ e. (d.reader && e.reader) ≡ false → Rattle.protocol.specs.Chains.is_place_below d.place e.place ≡ true) p ds h.0, g)
    by false g = g

before : {C : Type 0} (w : Fixed C) (finish : C → List State → Alone) (k c : ℕ) (ds : List Done) → AllByRecursion (λ d. counts k c d ≡ is_value d.result) ds → AllByRecursion (IsExplained w finish) ds
    → ((a : ℕ) → RivalsRise (visitors a ds)) → ((a : ℕ) → AllByRecursion (λ d. d.reader ≡ true → LeavesIt (d.views a)) ds) → ((a : ℕ) → StatesLink a (state_in w.text.opening.states a) ds) → Before w finish k c ds
unfolding LinkedFrom
before w finish k c ds cs ex rise still links =
    let own = filter (counts k c) ds in
    let explained = all_sorted (IsExplained w finish) own (all_filter (IsExplained w finish) (counts k c) ds ex) in
    let same = λ (a : ℕ). links_valued a (state_in w.text.opening.states a) (counts k c) ds cs (links a) in
    let left = λ (a : ℕ). all_filter (λ d. d.reader ≡ true → LeavesIt (d.views a)) (counts k c) ds (still a) in
    let rises = λ (a : ℕ). subst RivalsRise (swapped (counts k c) (came_to a) ds) (rise_filter (counts k c) (visitors a ds) (rise a)) in
    record {
      as_many = serial_length w finish (counted k c ds) w.text.opening.states refl explained (λ a l. sorted_links a (state_in w.text.opening.states a) own (rises a) (left a) (same a).links);
      states = λ a l. serial_states w finish (counted k c ds) w.text.opening.states refl explained (λ a l. sorted_links a (state_in w.text.opening.states a) own (rises a) (left a) (same a).links) a l ∙ (sorted_last a (state_in w.text.opening.states a) own (rises a) (left a) (same a).links ∙ (same a).last);
    }

pub pacts_serial : {C : Type 0} (w : Fixed C) (Of : Tx → C → Type 0) (finish : C → List State → Alone) (k c code : ℕ) (s : Machine C) (h : History) (b : Batch) (front rest : List Pact) (p : Pact) → Facts (length w.text.opening.states) w.code (IsTxIn w.text) Of finish → Good w Of finish s h → Ordered w Of finish s h → PlacesStand w s h → s.book.next_c ≡ c → is_open b ≡ true → is_next_to_commit k s.desk.batches ≡ true → batch_of k s.desk.batches ≡ Some b → b.pacts ≡ front ++ p ∷ rest
    → AllByRecursion (λ p. is_value p.result ≡ true) front → p.result ≡ Some (Fail code)
    → map Some (serial w.code finish (world_before w finish k c h.committed) (map (λ p. tx_at w.text p.tx) (front ++ p ∷ []))).results ≡ map (λ p. p.result) (front ++ p ∷ [])
unfolding LinkedFrom AllExplained Committed Turned
pacts_serial w Of finish k c code s h b front rest p facts g o i nc opened next is_it splits values fails =
    let cs = both_all _ _ (λ d. counts k c d ≡ is_value d.result) h.committed (λ d x y. side_counts k c d (below_open d.place.batch.0 k s.desk.batches b is_it opened x.1) (subst (λ z. IsSided z d.place) nc y)) i.low i.sided in
    let bf = before w finish k c h.committed cs o.explained i.rise o.stills (λ a. (g.committed a).links) in
    let rising = λ (a : ℕ). (batch_slices k a s.desk.batches (h.long a) (cell_at s a).entries (g.turned a) (g.from_desk.entries a)).0 in
    let ex = pacts_explained w Of finish k s h b front rest p code facts opened is_it splits values fails rising g.tracked o.named o.matched o.results in
    let all = serial_results w finish (map (done_pact k h) (front ++ p ∷ [])) (world_before w finish k c h.committed) bf.as_many ex
    (λ a l. subst (λ z. StatesLink a z (map (done_pact k h) (front ++ p ∷ []))) (sym (bf.states a (omega (arith, l, bf.as_many)))) (pacts_linked w Of finish k a s h b front rest p g opened next is_it splits values)) in
    ap (λ z. map Some (serial w.code finish (world_before w finish k c h.committed) z).results) (sym (txs_pacts w k h (front ++ p ∷ []))) ∙ (all ∙ results_pacts k h (front ++ p ∷ []))
