-- The order of committed transactions, of every run, from what is owed at each event and at its end.
use Rattle.std.specs.Prelude.{◌≡◌, refl, ℕ, ◌<◌, ◌==◌, ℤ, Some, List, [], ◌∷◌, ◌++◌, length, slice_index_or, Option, None, Bool, true, false, if◌then◌else◌, map}
use Rattle.std.specs.List.{AllByRecursion}
use Rattle.std.proofs.Common.{sym, ap, subst, ◌∙◌}
use Rattle.snap_base.specs.declared.transactions.State.{State}
use Rattle.snap_base.specs.declared.transactions.Tx.{Tx}
use Rattle.snap_base.specs.declared.transactions.TxResult.TheVariants.{Value, Fail}
use Rattle.snap_base.specs.declared.verdicts.Place.{Place}
use Rattle.snap_base.specs.declared.verdicts.Verdict.TheVariants as verdicts
use Rattle.protocol_theorems.proofs.order.ViewsExplain.{own_slices}
use Rattle.protocol_laws.proofs.machine.CommitsKept as committing
use Rattle.protocol_laws.proofs.machine.ReadersSee.{ReadBy}
use Rattle.protocol_laws.proofs.machine.ReadersKept.{Locks, ActReads}
use Rattle.protocol.specs.Fixed.{Fixed, is_reader, no_state}
use Rattle.protocol.specs.Facts.{Alone, state_in}
use Rattle.protocol.specs.Parts.{Machine, OfAct, Pact}
use Rattle.protocol.specs.Events.{Event, Commit, Decide}
use Rattle.protocol.specs.Verdicts.{verdict, ended_at}
use Rattle.protocol.specs.Conditions.{IsAllowed}
use Rattle.protocol.specs.Effects.{after, cell_at}
use Rattle.protocol.specs.Runs.{opening, new_cell, IsQuiet}
use Rattle.protocol.specs.History.{Done, History, no_history, history_after, grown, done_batch, done_act, View, act_view, view_in, slices_for, done_pact}
use Rattle.protocol.specs.Chains.{RivalsRise}
use Rattle.protocol_laws.specs.Commits.{last_state, kept_slices}
use Rattle.protocol_laws.specs.Tracks.{slices_in, Linked}
use Rattle.protocol.specs.Words.{batch_of, act_of}
use Rattle.protocol.specs.Events.{Commit, Decide}
use Rattle.protocol_laws.specs.Linked.{visitors, PlacesDiffer}
use Rattle.protocol_laws.specs.Told.{IsAmongDone}
use Rattle.protocol_theorems.specs.Order.{OrderFacts, LeavesIt, IsReader, Nobody}
use Rattle.protocol_laws.proofs.machine.Good.{Good, Given, Owed, for_chain}
use Rattle.protocol_laws.proofs.machine.CommitLists.{rest_slices, in_two, linked_one, Sees}
use Rattle.protocol_laws.proofs.machine.CommitsKept.{Committed}
use Rattle.protocol_laws.proofs.machine.TracksKept.{Tracked}
use Rattle.protocol_theorems.proofs.order.NamesKept.{Named}
use Rattle.protocol_theorems.proofs.order.NamesKept as names
use Rattle.protocol_theorems.proofs.order.SlicesKept.{Matched, LiveStay}
use Rattle.protocol_theorems.proofs.order.SlicesKept as slices
use Rattle.protocol_theorems.proofs.order.ExplainedKept.{Results, NoActResult, AllExplained}
use Rattle.protocol_theorems.proofs.order.ExplainedKept as explained
use Rattle.protocol_theorems.proofs.order.ChainsKept.{Chained, Owes}
use Rattle.protocol_theorems.proofs.order.ChainsKept as chains
use Rattle.protocol_laws.proofs.first.Lists.{all_found, join_nil, join_assoc, all_join}
use Rattle.protocol_laws.proofs.first.Times.{length_map}

-- ---- what is owed at each event

pub record OwedAt {C : Type 0} (w : Fixed C) (e : Event) (s : Machine C) (h : History) : Type 0 where
  -- of the long schedules
  pub schedules : Owed w e s h
  -- an ACT whose control runs has no result
  pub no_result : NoActResult e s
  -- no live ACT stands behind an aborted batch where a rollback takes it
  pub live_stay : LiveStay e s
  -- a batch arrives once on an actor; an ACT that asks lives; one that is decided ran wherever it stands
  pub placing : Owes e s h
  -- readers
  pub locks : Locks s
  pub read_by : ReadBy s h
  pub act_reads : ActReads w s h

-- ---- a reader leaves what it finds

abbrev pub Stills : History → Type 0
Stills h = (a : ℕ) → AllByRecursion (λ d. d.reader ≡ true → LeavesIt (d.views a)) h.committed

no_readers : (a k : ℕ) (h : History) (ps : List Pact) → AllByRecursion (λ d. d.reader ≡ true → LeavesIt (d.views a)) (map (done_pact k h) ps)
no_readers a k h [] = tt
no_readers a k h (p ∷ ps) = ((λ q. absurd (Rattle.std.proofs.lemmas.Bool.true≢false (sym q))), no_readers a k h ps)

stills_kept : {C : Type 0} (w : Fixed C) (e : Event) (s : Machine C) (h : History) → committing.Assumed e s h → Stills h → Stills (grown w e s h)
unfolding committing.Assumed grown
stills_kept w (Commit k) s h am g = λ a. all_join _ h.committed _ (g a) (subst (λ z. AllByRecursion (λ d. d.reader ≡ true → LeavesIt (d.views a)) (done_batch k h z)) (sym am.1.is_it) (no_readers a k h am.0.pacts))
stills_kept w (Decide t) s h am g = λ a. all_join _ h.committed _ (g a) (subst (λ z. AllByRecursion (λ d. d.reader ≡ true → LeavesIt (d.views a)) (done_act s.book.next_c h z)) (sym am.1.is_it) ((λ q. own a q), tt))
  where
    seen : (now : State) (o : Option View) → Sees now o → LeavesIt o
    seen now None k = tt
    seen now (Some v) k = k.1 ∙ sym k.0

    own : (a : ℕ) → am.0.reader ≡ true → LeavesIt (act_view h am.0 a)
    own a q = seen (cell_at s a).state (act_view h am.0 a) (subst (λ v. Sees (cell_at s a).state (view_in am.0.tid (slices_for v am.0.tid (h.reads a) (h.long a)))) (sym q) (subst (λ n. Sees (cell_at s a).state (view_in n (h.reads a))) (sym am.1.tid) (am.1.reads q a).sees))
stills_kept w e s h am g = g

-- ---- who is a reader

unfoldable pub ReadersAre : {C : Type 0} → Fixed C → History → Type 0
ReadersAre w h = AllByRecursion (IsReader w) h.committed

no_pact_reads : {C : Type 0} (w : Fixed C) (k : ℕ) (h : History) (ps : List Pact) → AllByRecursion (IsReader w) (map (done_pact k h) ps)
no_pact_reads w k h [] = tt
no_pact_reads w k h (p ∷ ps) = (refl, no_pact_reads w k h ps)

readers_kept : {C : Type 0} (w : Fixed C) (e : Event) (s : Machine C) (h : History) → committing.Assumed e s h → Named s h → ActReads w s h → ReadersAre w h → ReadersAre w (grown w e s h)
unfolding committing.Assumed ReadersAre ActReads grown
readers_kept w (Commit k) s h am n r g = all_join (IsReader w) h.committed _ g (subst (λ z. AllByRecursion (IsReader w) (done_batch k h z)) (sym am.1.is_it) (no_pact_reads w k h am.0.pacts))
readers_kept w (Decide t) s h am n r g = all_join (IsReader w) h.committed _ g (subst (λ z. AllByRecursion (IsReader w) (done_act s.book.next_c h z)) (sym am.1.is_it) (own, tt))
  where
    own : am.0.reader ≡ is_reader w am.0.tx
    own =
        let i = all_found (λ x. names.IsNamed s.ring.next_tid h.owners h.trails (OfAct x.tid) x.tid x.tx) (λ x. x.tid == t) s.book.acts am.0 n.acts am.1.is_it in
        r t am.0 am.1.is_it ∙ ap (is_reader w) (ap (λ u. (h.trails u).tx) (sym am.1.tid) ∙ i.0.tx)
readers_kept w e s h am n r g = g

-- ---- all of it, along a run

pub record Ordered {C : Type 0} (w : Fixed C) (Of : Tx → C → Type 0) (finish : C → List State → Alone) (s : Machine C) (h : History) : Type 0 where
  pub named : Named s h
  pub matched : Matched s h
  pub results : Results w Of finish s h
  pub explained : AllExplained w finish h
  pub chained : Chained s h
  pub stills : Stills h
  pub readers : ReadersAre w h

pub kept : {C : Type 0} (w : Fixed C) (Of : Tx → C → Type 0) (finish : C → List State → Alone) (e : Event) (s : Machine C) (h : History) → Given w Of finish → IsAllowed w e s → OwedAt w e s h → Good w Of finish s h → Ordered w Of finish s h → Ordered w Of finish (after w e s) (grown w e s h)
kept w Of finish e s h v ok o g i =
    let am = for_chain w Of finish e s h v ok o.schedules g in
    record {
      named = names.kept w e s h ok i.named;
      matched = slices.kept w e s h ok o.live_stay g.settling g.placed g.tracked g.from_desk i.named o.locks o.read_by i.matched;
      results = explained.kept w Of finish e s h ok o.no_result i.named g.drawn g.none g.told i.results;
      explained = explained.explained_kept w Of finish e s h v.facts ok am g.tracked i.named i.matched i.results i.explained;
      chained = chains.kept w e s h ok o.placing o.live_stay am g.settling g.placed g.tracked i.named i.chained;
      stills = stills_kept w e s h am i.stills;
      readers = readers_kept w e s h am i.named o.act_reads i.readers;
    }

pub opened : {C : Type 0} (w : Fixed C) (Of : Tx → C → Type 0) (finish : C → List State → Alone) → Given w Of finish → Ordered w Of finish (opening w) no_history
unfolding Matched AllExplained ReadersAre
opened {C} w Of finish v = record {
  named = record { pacts = tt; acts = tt; standing = λ a. tt };
  matched = λ who t r a. none t (Rattle.protocol_laws.specs.Commits.reads_who [] who);
  results = record { cells = length_map (new_cell _) w.text.opening.states; within = λ t. tt; pacts = tt; acts = tt };
  explained = tt;
  chained = record { over = tt; drawn = λ a. tt; stands = λ t a l p. absurd (Rattle.std.proofs.lemmas.Bool.true≢false (sym l)); chains = λ a. record { once = tt; in_order = tt; front = tt; chain = Nobody [] [] refl refl } };
  stills = λ a. tt;
  readers = tt;
}
  where
    none : (t : ℕ) (v : Bool) → [] ≡ own_slices t (if v then [] else [])
    none t true = refl
    none t false = refl

-- ---- what is owed at the end

-- of places: any two differ, and on each actor they rise in the order of commits
pub record PlacesHold {C : Type 0} (w : Fixed C) (h : History) : Type 0 where
  pub rise : (a : ℕ) → a < length w.text.opening.states → RivalsRise (visitors a h.committed)
  pub differ : PlacesDiffer h.committed

-- of verdicts: who is told a place is one of what committed
pub record Told {C : Type 0} (s : Machine C) (h : History) : Type 0 where
  pub told_value : (n : ℕ) (p : Place) (v : ℤ) → verdict n s.book s.desk ≡ Some (verdicts.Committed p v) → IsAmongDone n p (Value v) h.committed
  pub told_code : (n : ℕ) (p : Place) (c : ℕ) → verdict n s.book s.desk ≡ Some (verdicts.Code p c) → IsAmongDone n p (Fail c) h.committed

-- of quiet states: all are told, and all that ran and was not undone has committed with a value
pub record WhenQuiet {C : Type 0} (w : Fixed C) (s : Machine C) (h : History) : Type 0 where
  pub all_told : IsQuiet w s → AllByRecursion (λ d. verdict d.tx s.book s.desk ≡ ended_at d.place d.result) h.committed
  pub all_kept : IsQuiet w s → (a : ℕ) → a < length w.text.opening.states → rest_slices h.kept (h.long a) ≡ []

-- then an actor's state is the one that the last of what committed left
pub quiet_state : {C : Type 0} (w : Fixed C) (s : Machine C) (h : History) (a : ℕ) → Tracked w s h → Committed w h → rest_slices h.kept (h.long a) ≡ [] → (cell_at s a).state ≡ last_state a (state_in w.text.opening.states a) h.committed
unfolding Tracked Committed
quiet_state w s h a t c e =
    let first = slice_index_or w.text.opening.states a no_state in
    let own = kept_slices h.kept (h.long a) in
    let same : slices_in (h.long a) ≡ own = in_two h.kept (h.long a) (c a).front ∙ (ap (λ z. own ++ z) e ∙ join_nil own) in
    linked_one first (cell_at s a).state (last_state a first h.committed) own (subst (λ ss. Linked first ss (cell_at s a).state) same (t a).links) (c a).ends

-- The facts that imply the order.
pub facts : {C : Type 0} (w : Fixed C) (Of : Tx → C → Type 0) (finish : C → List State → Alone) (s : Machine C) (h : History) → Good w Of finish s h → Ordered w Of finish s h → PlacesHold w h → Told s h → OrderFacts w finish s h
unfolding Committed AllExplained ReadersAre
facts w Of finish s h k g p t = record {
  explained = g.explained;
  linked = λ a l. (k.committed a).links;
  rise = p.rise;
  readers = g.readers;
  still = g.stills;
  differ = p.differ;
  chains = λ a k. (g.chained.chains a).chain;
  told_value = t.told_value;
  told_code = t.told_code;
}

-- ---- what committed only grows, at its end

one_grows : {C : Type 0} (w : Fixed C) (e : Event) (s : Machine C) (h : History) → (new : List Done) × ((grown w e s h).committed ≡ h.committed ++ new)
unfolding grown
one_grows w (Commit k) s h = (done_batch k h (batch_of k s.desk.batches), refl)
one_grows w (Decide t) s h = (done_act s.book.next_c h (act_of t s.book.acts), refl)
one_grows w e s h = ([], sym (join_nil h.committed))

-- So who was told in an earlier state that it committed is among what committed in every later one.
pub committed_grows : {C : Type 0} (w : Fixed C) (es : List Event) (s : Machine C) (h : History) → (new : List Done) × ((history_after w es s h).committed ≡ h.committed ++ new)
committed_grows w [] s h = ([], sym (join_nil h.committed))
committed_grows w (e ∷ es) s h =
    let one = one_grows w e s h in
    let more = committed_grows w es (after w e s) (grown w e s h) in
    (one.0 ++ more.0, more.1 ∙ (ap (λ ds. ds ++ more.0) one.1 ∙ join_assoc h.committed one.0 more.0))
