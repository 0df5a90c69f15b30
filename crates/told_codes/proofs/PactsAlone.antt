-- Where a batch that is next to commit has run, its PACTs up to one that failed link with what committed, and each is explained.
use Rattle.std.specs.Prelude.{◌≡◌, refl, ℕ, ◌<◌, ◌==◌, not, true, false, Option, Some, None, is_some, List, [], ◌∷◌, ◌++◌, length, map, slice_index_or}
use Rattle.std.specs.List.{AllByRecursion, list_any}
use Rattle.std.proofs.Common.{sym, ap, subst, ◌∙◌}
use Rattle.std.proofs.lemmas.Bool.{true≢false, and_parts, and_from, not-true}
use Rattle.snap_base.specs.declared.transactions.State.{State}
use Rattle.snap_base.specs.declared.transactions.Tx.{Tx}
use Rattle.snap_base.specs.declared.transactions.TxResult.TheVariants.{Fail}
use Rattle.protocol.specs.Fixed.{Fixed, no_state, tx_at}
use Rattle.protocol.specs.Facts.{Alone, Facts}
use Rattle.protocol.specs.Parts.{Pact, Batch, OfBatch, Machine}
use Rattle.protocol.specs.Rests.{IsTxIn}
use Rattle.protocol.specs.Words.{holds, is_among, is_value, is_aborted, is_formed, is_open, is_next_to_commit, batch_of, names_pact}
use Rattle.protocol.specs.Effects.{cell_at}
use Rattle.protocol.specs.History.{History, Slice, slices_of, view_in, done_pact}
use Rattle.protocol.specs.Chains.{txs_of}
use Rattle.protocol_laws.specs.Commits.{Finds, left_as, left_of, StatesLink, last_state, is_kept, KeptAhead}
use Rattle.protocol_laws.specs.Linked.{IsExplained}
use Rattle.protocol_laws.specs.Marks.{Marked}
use Rattle.protocol_laws.specs.Told.{PactsAscend}
use Rattle.protocol_laws.specs.Tracks.{keys_in, Differ}
use Rattle.protocol_laws.specs.Trails.{on_actor}
use Rattle.protocol_laws.specs.Turns.{Rising}
use Rattle.protocol_laws.proofs.first.Lists.{all_found, some_held}
use Rattle.protocol_laws.proofs.first.SettlingKept as settling
use Rattle.protocol_laws.proofs.first.Statuses.{settled_not_formed, value_some}
use Rattle.protocol_laws.proofs.machine.BatchesCommit.{Numbered, GoodKey, good_keys, batch_slices, of_pacts}
use Rattle.protocol_laws.proofs.machine.CommitLists.{goes_on}
use Rattle.protocol_laws.proofs.machine.CommitsKept.{Committed, all_views}
use Rattle.protocol_laws.proofs.machine.Good.{Good}
use Rattle.protocol_laws.proofs.machine.PlacesKept.{Placed}
use Rattle.protocol_laws.proofs.machine.TracksKept.{Tracked}
use Rattle.protocol_laws.proofs.machine.TurnsKept.{Turned}
use Rattle.protocol_theorems.proofs.order.ExplainedKept.{EndsAs, Results, all_names, all_of_names, with_result_of}
use Rattle.protocol_theorems.proofs.order.NamesKept.{Named, AllNamed}
use Rattle.protocol_theorems.proofs.order.OrderImplied.{left_none}
use Rattle.protocol_theorems.proofs.order.RunsBefore.{is_open_with}
use Rattle.protocol_theorems.proofs.order.SlicesKept.{runs, Matched}
use Rattle.protocol_theorems.proofs.order.ViewsExplain.{Tied, own_slices, own_linked, views_explain}
use Rattle.protocol_verdicts.proofs.evidence.EvidenceAhead.{ahead_ran, pacts_link}
use Rattle.protocol_verdicts.proofs.evidence.EvidenceSerial.{next_settled}

-- ---- each is explained

up_to : {X : Type 0} (P : X → Type 0) (front rest : List X) (x : X) → AllByRecursion P (front ++ x ∷ rest) → AllByRecursion P (front ++ x ∷ [])
up_to P [] rest x h = (h.0, tt)
up_to P (y ∷ front) rest x h = (h.0, up_to P front rest x h.1)

have_results : (front : List Pact) (p : Pact) (code : ℕ) → AllByRecursion (λ p. is_value p.result ≡ true) front → p.result ≡ Some (Fail code) → AllByRecursion (λ p. is_some p.result ≡ true) (front ++ p ∷ [])
have_results [] p code v e = (ap is_some e, tt)
have_results (q ∷ front) p code v e = (value_some q.result v.0, have_results front p code v.1 e)

pub pacts_explained : {C : Type 0} (w : Fixed C) (Of : Tx → C → Type 0) (finish : C → List State → Alone) (k : ℕ) (s : Machine C) (h : History) (b : Batch) (front rest : List Pact) (p : Pact) (code : ℕ) → Facts (length w.text.opening.states) w.code (IsTxIn w.text) Of finish → is_open b ≡ true → batch_of k s.desk.batches ≡ Some b → b.pacts ≡ front ++ p ∷ rest
    → AllByRecursion (λ p. is_value p.result ≡ true) front → p.result ≡ Some (Fail code) → Good w Of finish s h → Named s h → Matched s h → Results w Of finish s h → AllByRecursion (IsExplained w finish) (map (done_pact k h) (front ++ p ∷ []))
unfolding Tracked Turned Matched
pacts_explained w Of finish k s h b front rest p code facts opened is_it splits values fails good n g r =
    let named = all_found (λ b. AllNamed s.ring.next_tid h.owners h.trails (OfBatch b.bid) (map (λ p. p.tid) b.pacts) (map (λ p. p.tx) b.pacts)) (λ b. b.bid == k) s.desk.batches b n.pacts is_it in
    let ended = all_found (λ b. AllByRecursion (λ p. EndsAs w Of finish h.trails p.tid p.result) b.pacts) (λ b. b.bid == k) s.desk.batches b r.pacts is_it in
    each (front ++ p ∷ []) (have_results front p code values fails)
    (up_to (λ p. list_any (λ q. q.tid == p.tid) b.pacts ≡ true) front rest p (subst (AllByRecursion (λ p. list_any (λ q. q.tid == p.tid) b.pacts ≡ true)) splits (all_names b.pacts)))
    (up_to (λ p. (h.trails p.tid).tx ≡ p.tx) front rest p (subst (AllByRecursion (λ p. (h.trails p.tid).tx ≡ p.tx)) splits (all_of_names (OfBatch b.bid) s.ring.next_tid h.owners h.trails b.pacts named.0)))
    (up_to (λ p. EndsAs w Of finish h.trails p.tid p.result) front rest p (subst (AllByRecursion (λ p. EndsAs w Of finish h.trails p.tid p.result)) splits ended.0))
  where
    each : (ps : List Pact) → AllByRecursion (λ p. is_some p.result ≡ true) ps → AllByRecursion (λ p. list_any (λ q. q.tid == p.tid) b.pacts ≡ true) ps → AllByRecursion (λ p. (h.trails p.tid).tx ≡ p.tx) ps → AllByRecursion (λ p. EndsAs w Of finish h.trails p.tid p.result) ps
        → AllByRecursion (IsExplained w finish) (map (done_pact k h) ps)
    each [] v e x q = tt
    each (p ∷ ps) v e x q =
        let o = with_result_of p.result v.0 in
        let run : runs s (OfBatch k) p.tid ≡ true = subst (λ z. holds (is_open_with p.tid) z ≡ true) (sym is_it) (and_from (is_open b) (names_pact p.tid b) opened e.0) in
        (views_explain w Of finish (done_pact k h p) (h.trails p.tid) p.tid o.0 facts (q.0 o.0 o.1) o.1 x.0 (r.within p.tid) (λ a. tied p a (g (OfBatch k) p.tid run a)), each ps v.1 e.1 x.1 q.1)
      where
        tied : (p : Pact) (a : ℕ) → on_actor a p.tid (h.trails p.tid).steps ≡ own_slices p.tid (slices_of (OfBatch k) (h.long a)) → Tied (done_pact k h p) (h.trails p.tid) p.tid a
        tied p a same =
            let l = own_linked (OfBatch k) (slice_index_or w.text.opening.states a no_state) (cell_at s a).state (h.long a) (good.tracked a).links in
            record { slices = slices_of (OfBatch k) (h.long a); low = 0; from = l.0; to = l.1.0; same = same; view = refl; rising = (batch_slices k a s.desk.batches (h.long a) (cell_at s a).entries (good.turned a) (good.from_desk.entries a)).0; links = l.1.1 }

-- ---- on each actor they link

none_ran_link : (k a : ℕ) (h : History) (last : State) (ps : List Pact) → slices_of (OfBatch k) (h.long a) ≡ [] → StatesLink a last (map (done_pact k h) ps)
none_ran_link k a h last [] e = tt
none_ran_link k a h last (p ∷ ps) e =
    let none : view_in p.tid (slices_of (OfBatch k) (h.long a)) ≡ None = ap (view_in p.tid) e in
    let stays : left_of a (done_pact k h p) last ≡ last = ap (λ o. left_as (is_value p.result) o last) none ∙ left_none (is_value p.result) last in
    (subst (λ o. Finds o last) (sym none) tt, subst (λ z. StatesLink a z (map (done_pact k h) ps)) (sym stays) (none_ran_link k a h last ps e))

below_kept : {C : Type 0} (w : Fixed C) (k j : ℕ) (s : Machine C) (h : History) → settling.Settling w s → Marked s h → is_next_to_commit k s.desk.batches ≡ true → j < k → is_aborted j s.book.cascades ≡ false → (o : Option Batch) → batch_of j s.desk.batches ≡ o → is_some o ≡ true → is_kept (OfBatch j) h.kept ≡ true
unfolding Marked
below_kept w k j s h g m v l e None f q = absurd (true≢false (sym q))
below_kept w k j s h g m v l e (Some c) f q = (m j c f).known ∙ ap not (settled_not_formed c.stage (next_settled w k j s c g v l e f))

-- they link on what committed; and on any state, where none of them ran
pub pacts_linked : {C : Type 0} (w : Fixed C) (Of : Tx → C → Type 0) (finish : C → List State → Alone) (k a : ℕ) (s : Machine C) (h : History) (b : Batch) (front rest : List Pact) (p : Pact) (now : State) → Good w Of finish s h → is_open b ≡ true → is_next_to_commit k s.desk.batches ≡ true → batch_of k s.desk.batches ≡ Some b → b.pacts ≡ front ++ p ∷ rest
    → AllByRecursion (λ p. is_value p.result ≡ true) front → ((slices_of (OfBatch k) (h.long a) ≡ [] → ⊥) → now ≡ last_state a (slice_index_or w.text.opening.states a no_state) h.committed) → StatesLink a now (map (done_pact k h) (front ++ p ∷ []))
unfolding Marked Placed Tracked Turned Numbered Committed
pacts_linked w Of finish k a s h b front rest p now g opened next is_it splits values same = at (slices_of (OfBatch k) (h.long a)) refl
  where
    first : State
    first = slice_index_or w.text.opening.states a no_state

    sound : is_aborted k s.book.cascades ≡ false
    sound = sym (settling.mark_is w s k b is_it g.settling) ∙ not-true b.aborted (and_parts (is_formed b.stage) (not b.aborted) opened).1

    fresh : is_kept (OfBatch k) h.kept ≡ false
    fresh = (g.marked k b is_it).known ∙ ap not (and_parts (is_formed b.stage) (not b.aborted) opened).0

    slices : Rising 0 (slices_of (OfBatch k) (h.long a)) × AllByRecursion (λ x. is_among x.tid (map (λ p. p.tid) b.pacts) ≡ true) (slices_of (OfBatch k) (h.long a))
    slices = let q = batch_slices k a s.desk.batches (h.long a) (cell_at s a).entries (g.turned a) (g.from_desk.entries a) in (q.0, of_pacts b (slices_of (OfBatch k) (h.long a)) (batch_of k s.desk.batches) is_it q.1)

    ahead : (slices_of (OfBatch k) (h.long a) ≡ [] → ⊥) → KeptAhead h.kept (OfBatch k) (h.long a)
    ahead n =
        let good : AllByRecursion (GoodKey a s.desk.batches) (keys_in (h.long a)) = subst (AllByRecursion (GoodKey a s.desk.batches)) (g.tracked a).stands (good_keys a s.desk.batches (cell_at s a).entries (g.from_desk.entries a)) in
        ahead_ran h.kept k a s.ring.next_bid (cell_at s a).epoch (cell_at s a).tail s.book.cascades s.desk.batches (h.long a) sound
        (λ j x l z. below_kept w k j s h g.settling g.marked next l z (batch_of j s.desk.batches) refl (some_held _ (batch_of j s.desk.batches) x)) n (g.tracked a).in_order good (g.placed a).fit (g.placed a).ascends

    ran : (slices_of (OfBatch k) (h.long a) ≡ [] → ⊥) → StatesLink a (last_state a first h.committed) (map (done_pact k h) (front ++ p ∷ []))
    ran n =
        let o = goes_on first (last_state a first h.committed) (cell_at s a).state h.kept (OfBatch k) (h.long a) fresh (subst Differ (g.tracked a).stands (g.tracked a).differ) (ahead n) (g.committed a).front (g.committed a).ends (g.tracked a).links in
        pacts_link k a 0 h (last_state a first h.committed) o.to front p rest (slices_of (OfBatch k) (h.long a)) (subst (PactsAscend 0) splits (g.numbered k b is_it)) slices.0
        (subst (λ z. AllByRecursion (λ x. is_among x.tid (map (λ p. p.tid) z) ≡ true) (slices_of (OfBatch k) (h.long a))) splits slices.1) values (all_views k a h (front ++ p ∷ rest)) o.links

    at : (ss : List Slice) → slices_of (OfBatch k) (h.long a) ≡ ss → StatesLink a now (map (done_pact k h) (front ++ p ∷ []))
    at [] e = none_ran_link k a h now (front ++ p ∷ []) e
    at (x ∷ xs) e = let n : slices_of (OfBatch k) (h.long a) ≡ [] → ⊥ = λ q. cc (sym q ∙ e) in subst (λ z. StatesLink a z (map (done_pact k h) (front ++ p ∷ []))) (sym (same n)) (ran n)

-- ---- as the transactions of the text that they are

pub txs_pacts : {C : Type 0} (w : Fixed C) (k : ℕ) (h : History) (ps : List Pact) → txs_of w (map (done_pact k h) ps) ≡ map (λ p. tx_at w.text p.tx) ps
txs_pacts w k h [] = refl
txs_pacts w k h (p ∷ ps) = ap (λ l. tx_at w.text p.tx ∷ l) (txs_pacts w k h ps)

pub results_pacts : (k : ℕ) (h : History) (ps : List Pact) → map (λ d. d.result) (map (done_pact k h) ps) ≡ map (λ p. p.result) ps
results_pacts k h [] = refl
results_pacts k h (p ∷ ps) = ap (λ l. p.result ∷ l) (results_pacts k h ps)
