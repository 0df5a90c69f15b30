-- What the events tell of places and sets is the machine's history, event by event.
use Rattle.std.specs.Prelude.{◌≡◌, refl, ℕ, Bool, if◌then◌else◌, List, [], ◌∷◌, map, slice_index_or, suc, zero}
use Rattle.std.specs.List.{AllByRecursion}
use Rattle.std.proofs.Common.{sym, ap, subst, ◌∙◌}
use Rattle.snap_base.specs.declared.transactions.State.{State}
use Rattle.snap_base.specs.declared.transactions.Tx.{Tx}
use Rattle.protocol.specs.Conditions.{IsAllowed}
use Rattle.protocol.specs.Effects.{after, no_cell}
use Rattle.protocol.specs.Events.{Event, Admit, Arrive, Ask, Commit, Abort, Rollback, Decide, Seal, Finish, Trim}
use Rattle.protocol.specs.Facts.{Alone}
use Rattle.protocol.specs.Fixed.{Fixed, base}
use Rattle.protocol.specs.History.{Done, History, asks, grown, no_history}
use Rattle.protocol.specs.History as history
use Rattle.protocol.specs.OnPost.{next_act}
use Rattle.protocol.specs.Parts.{Machine}
use Rattle.protocol.specs.Rivals.{Lock}
use Rattle.protocol.specs.Runs.{opening, new_cell, reached, state_after, EachAllowed, IsRun}
use Rattle.protocol.specs.Words.{is_among, least_older, who_of}
use Rattle.audit_words.specs.Happenings as told
use Rattle.audit_words.specs.Happenings.{added, cross_out, give_up, happened, met, taken_by, batch_placed_last, with_cut}
use Rattle.audit_words.specs.Seen.{Member, Seen, nothing_seen}
use Rattle.audit_words.specs.Beside.{EachTold, TellsPlaced}
use Rattle.audit_laws.specs.Names.{TellsNames}
use Rattle.audit_laws.specs.RunsTold.{RunsAreSeen, RunsAsTold}
use Rattle.audit_laws.proofs.NamesSeen.{Frames, aborts, at_opening, names_kept}
use Rattle.audit_laws.proofs.Simulated.{EachSame, Tells, plus_zero, SimFacts}
use Rattle.audit_laws.proofs.SimulatedLeaving.{trims_in}
use Rattle.audit_laws.proofs.SimulatedStill.{again, still_here, still, sealing_kept, admitting_kept}
use Rattle.audit_laws.proofs.SimulatedComing.{comes_told, arriving_kept, met_told, may_told, asking_kept}
use Rattle.audit_laws.proofs.SimulatedPlaces.{committing_kept, deciding_kept, aborting_kept}
use Rattle.audit_laws.proofs.SimulatedGoing.{trimming_kept, rolling_kept, finishing_kept}

module _ {C : Type 0} (w : Fixed C) (fr : Frames C) where
  -- ---- each event

  told_kept : (Of : Tx → C → Type 0) (finish : C → List State → Alone) (e : Event) (s : Machine C) (h : History) (t : Seen) → IsAllowed w e s → SimFacts w Of finish s h → TellsNames w s t → Tells w s h t
      → Tells w (after w e s) (grown w e s h) (added w.code.only_reads w.text e t)
  unfolding added
  told_kept Of finish (Admit v) s h t ok f n g = (admitting_kept w fr) v (next_act t.ring) s h t g
  told_kept Of finish (Arrive k a) s h t ok f n g =
      subst (λ (b : Bool). Tells w (after w (Arrive k a) s) (grown w (Arrive k a) s h) (if b then cross_out a (batch_placed_last k a t) else t)) (sym ((comes_told w fr) Of finish k a s h t ok f n g)) ((arriving_kept w fr) Of finish k a s h t ok f n g)
  told_kept Of finish (Ask u a) s h t ok f n g =
      subst (λ (b : Bool). Tells w (after w (Ask u a) s) (grown w (Ask u a) s h) (if b then told.asks u a (least_older u (met u a t)) t else t)) (sym ((may_told w fr) Of finish u a s h t ok f n g))
      (subst (λ (zs : List Lock). Tells w (after w (Ask u a) s) (grown w (Ask u a) s h) (told.asks u a (least_older u zs) t)) (sym ((met_told w fr) Of finish u a s h t f n g)) ((asking_kept w fr) Of finish u a s h t ok f n g))
  told_kept Of finish (Commit k) s h t ok f n g = (committing_kept w fr) Of finish k s h t ok f n g
  told_kept Of finish (Abort k) s h t ok f n g =
      subst (λ (b : Bool). Tells w (after w (Abort k) s) (grown w (Abort k) s h) (if b then with_cut w.text k (give_up (taken_by k t) t) else t)) (sym (aborts w fr k s t (f.room (Abort k) ok) ok n)) ((aborting_kept w fr) Of finish k s h t f n g)
  told_kept Of finish (Rollback a) s h t ok f n g = (rolling_kept w fr) Of finish a s h t ok f n g
  told_kept Of finish (Decide u) s h t ok f n g = (deciding_kept w fr) Of finish u s h t ok f n g
  told_kept Of finish (Seal v) s h t ok f n g = (sealing_kept w fr) v s h t g
  told_kept Of finish (Finish u a) s h t ok f n g = (finishing_kept w fr) Of finish u a s h t ok f n g
  told_kept Of finish (Trim k a) s h t ok f n g = (trimming_kept w fr) k a s h t (trims_in w Of finish k a s h f.given ok f.good) g
  told_kept Of finish e s h t ok f n g = (still w fr) w.code.only_reads e (after w e s) (grown w e s h) t refl ((still_here w fr) e s h t refl g)

  pub happens : (Of : Tx → C → Type 0) (finish : C → List State → Alone) (e : Event) (s : Machine C) (h : History) (t : Seen) → IsAllowed w e s → SimFacts w Of finish s h → TellsNames w s t → Tells w s h t
      → Tells w (after w e s) (grown w e s h) (happened w.code.only_reads w.text e t)
  happens Of finish e s h t ok f n g =
      let x = added w.code.only_reads w.text e t in
      again w (after w e s) (grown w e s h) x (told.ring_after w.text e t.ring) x.batches x.settled x.ran (told_kept Of finish e s h t ok f n g)

  -- ---- a run

  told_along : (Of : Tx → C → Type 0) (finish : C → List State → Alone) (es : List Event) (s : Machine C) (h : History) (t : Seen) → ((fs : List Event) → EachAllowed w fs s → SimFacts w Of finish (state_after w fs s) (history.history_after w fs s h)) → EachAllowed w es s
      → TellsNames w s t → Tells w s h t → Tells w (state_after w es s) (history.history_after w es s h) (told.seen_from w.code.only_reads w.text es t)
  told_along Of finish [] s h t f run n g = g
  told_along Of finish (e ∷ es) s h t f run n g =
      told_along Of finish es (after w e s) (grown w e s h) (happened w.code.only_reads w.text e t) (λ fs r. f (e ∷ fs) (run.0, r)) run.1
      (names_kept w fr e s t ((f [] tt).room e run.0) run.0 n) (happens Of finish e s h t run.0 (f [] tt) n g)

  no_entries : (b a : ℕ) (states : List State) → [] ≡ map who_of (slice_index_or (map (new_cell {C = C} b) states) a no_cell).entries
  no_entries b a [] = refl
  no_entries b zero (x ∷ states) = refl
  no_entries b (suc a) (x ∷ states) = no_entries b a states

  pub told_first : Tells w (opening w) no_history (nothing_seen w.text)
  told_first = record {
    placed = λ a. refl;
    beyond = λ a l. refl;
    entries = λ a. no_entries (base w.text) a w.text.opening.states;
    kept = λ a. refl;
    left_sealed = λ a. refl;
    before = refl;
    behind = refl;
    gains = refl;
    dooms = λ u. refl;
    ordered = λ u. refl;
    next_c = plus_zero w.text.opening.next_c;
    members = tt;
  }

  told_members : (ran : ℕ → List ℕ) (ms : List Member) (ds : List Done) → EachSame ms ds → AllByRecursion (RunsAsTold ran) ds → EachTold ran ms ds
  told_members ran [] [] h k = tt
  told_members ran [] (d ∷ ds) h k = absurd h
  told_members ran (m ∷ ms) [] h k = absurd h
  told_members ran (m ∷ ms) (d ∷ ds) h k =
      (record { who = (h.0).who; tid = (h.0).tid; tx = (h.0).tx; place = (h.0).place; reader = (h.0).reader; views = λ a e. ap (λ (u : ℕ). is_among u (ran a)) (h.0).tid ∙ k.0 e a }, told_members ran ms ds h.1 k.1)

  pub told_of_run : (Of : Tx → C → Type 0) (finish : C → List State → Alone) (es : List Event) → ((fs : List Event) → IsRun w fs → SimFacts w Of finish (reached w fs) (history.history w fs)) → IsRun w es
      → Tells w (reached w es) (history.history w es) (told.seen w.code.only_reads w.text es)
  told_of_run Of finish es f run = told_along Of finish es (opening w) no_history (nothing_seen w.text) f run (at_opening w fr) told_first

  pub places_seen : (Of : Tx → C → Type 0) (finish : C → List State → Alone) (es : List Event) → ((fs : List Event) → IsRun w fs → SimFacts w Of finish (reached w fs) (history.history w fs)) → IsRun w es → RunsAreSeen w es
      → TellsPlaced w.text (history.history w es) (told.seen w.code.only_reads w.text es)
  places_seen Of finish es f run ran =
      let g = told_of_run Of finish es f run in
      record {
        placed = λ a l. g.placed a;
        beyond = λ a l. g.placed a ∙ g.beyond a l;
        members = told_members (told.seen w.code.only_reads w.text es).ran (told.seen w.code.only_reads w.text es).members (history.history w es).committed g.members ran;
      }
