-- All of it, over every run, from what is owed of controls and of ACTs.
use Rattle.std.specs.Prelude.{◌≡◌, refl, ℕ, zero, suc, ◌<◌, ◌≤◌, ◌%◌, replicate, not, true, false, Option, Some, None, is_some, List, [], ◌∷◌, length, map, find, slice_index_or}
use Rattle.std.proofs.Common.{sym, subst, inl, inr}
use Rattle.snap_base.specs.declared.transactions.State.{State}
use Rattle.protocol.specs.Fixed.{Fixed, IsText, no_state, base, tx_at, is_pact}
use Rattle.protocol.specs.Parts.{Act, OfAct, Entry, Waiting, Machine}
use Rattle.protocol.specs.Events.{Event, Arrive, Ask, Run, Commit, Decide, Rollback, Finish, Trim}
use Rattle.protocol.specs.Words.{who_on, is_entry_of, act_of, waiting_of}
use Rattle.protocol.specs.Conditions.{IsAllowed, conditions}
use Rattle.protocol.specs.Effects.{after, cell_at, no_cell}
use Rattle.protocol.specs.Runs.{opening, new_cell}
use Rattle.protocol.specs.History.{History, no_history, grown, is_traceless, is_reader_act}
use Rattle.protocol_laws.specs.Tracks.{key_of, Differ, Bare}
use Rattle.protocol_laws.specs.Turns.{NotDone}
use Rattle.protocol_laws.specs.Places.{FirmUpTo}
use Rattle.protocol_laws.specs.Commits.{is_kept}
use Rattle.protocol_laws.specs.Marks.{Recorded, Marked, Known}
use Rattle.protocol_laws.specs.FromDesk.{FromDesk}
use Rattle.protocol_laws.proofs.first.EpochsKept as epochs
use Rattle.protocol_laws.proofs.first.SettlingKept as settling
use Rattle.protocol_laws.proofs.machine.TracksKept as tracks
use Rattle.protocol_laws.proofs.machine.TurnsKept as turns
use Rattle.protocol_laws.proofs.machine.TurnLists
use Rattle.protocol_laws.proofs.machine.PlacesKept as places
use Rattle.protocol_laws.proofs.machine.MarksKept as marks
use Rattle.protocol_laws.proofs.machine.FromDeskKept as desk
use Rattle.protocol_laws.proofs.machine.BatchesCommit as commits
use Rattle.protocol_laws.proofs.machine.CommitsKept as chain
use Rattle.protocol_laws.proofs.machine.BeforesKept as befores
use Rattle.protocol_laws.proofs.first.Controls as controls
use Rattle.protocol_laws.proofs.machine.ControlWalk.{AllControls, nowhere}
use Rattle.protocol_laws.proofs.machine.TrailsKept as trails
use Rattle.protocol_laws.proofs.machine.Resting as resting
use Rattle.protocol_laws.proofs.machine.RestsKept as rests
use Rattle.protocol_laws.proofs.machine.RunOwed as owes
use Rattle.snap_base.specs.declared.transactions.Tx.{Tx}
use Rattle.protocol.specs.Facts.{Alone, Facts}
use Rattle.std.specs.List.{AllByRecursion}
use Rattle.std.proofs.lemmas.Bool.{cases_Bool, true≢false}
use Rattle.protocol_laws.proofs.machine.CommitsKept.{MayDecide, Committed}
use Rattle.protocol.specs.Rests.{IsTxIn}
use Rattle.protocol_laws.proofs.machine.QueuedText.{Queued, queued_kept, queued_opened}

-- What is owed: of controls, of ACTs, and that the actors of batches and ACTs exist.
abbrev pub RunOwed : {C : Type 0} → ℕ → ℕ → Machine C → History → Type 0
RunOwed t a s h = ((e : Entry) → find (is_entry_of t) (cell_at s a).entries ≡ Some e → NotDone t e) × (is_kept (who_on t (cell_at s a).entries) h.kept ≡ false)

unfoldable pub Owed : {C : Type 0} → Fixed C → Event → Machine C → History → Type 0
-- a control in the inbox is of no ACT that committed; of an ACT, its entry is no sub-batch
Owed w (Run t a) s h = (is_kept (OfAct t) h.kept ≡ false) × (is_pact (tx_at w.text (h.trails t).tx) ≡ false → RunOwed t a s h) × tracks.LeavesIt w t a s
-- an ACT with a control did not commit
Owed w (Ask t a) s h = is_kept (OfAct t) h.kept ≡ false
-- an ACT that leaves committed with a value, or is undone; where it committed, the batches ahead of it are firm
Owed w (Finish t a) s h = (a < length s.cells) × (is_kept (OfAct t) h.kept ≡ not (is_traceless (act_of t s.book.acts))) × (is_traceless (act_of t s.book.acts) ≡ false → FirmUpTo s.desk.settled s.book.cascades (OfAct t) (h.long a)) × (is_reader_act (act_of t s.book.acts) ≡ true → Bare (OfAct t) (h.long a))
Owed w (Trim k a) s h = a < length s.cells
-- an ACT that is decided has only committed ones ahead
Owed w (Decide t) s h = (x : Act) × MayDecide s h t x
Owed w _ s h = Unit {0}

-- the code has its facts, and there is an actor
pub record Given {C : Type 0} (w : Fixed C) (Of : Tx → C → Type 0) (finish : C → List State → Alone) : Type 0 where
  pub text : IsText w.text
  pub actors : 1 ≤ length w.text.opening.states
  pub facts : Facts (length w.text.opening.states) w.code (IsTxIn w.text) Of finish

pub record Good {C : Type 0} (w : Fixed C) (Of : Tx → C → Type 0) (finish : C → List State → Alone) (s : Machine C) (h : History) : Type 0 where
  pub queued : Queued w s
  pub held : controls.HeldIn s
  pub drawn : resting.Drawn s
  pub none : AllControls (resting.NoneNoted s) s
  pub told : AllControls (trails.Told w Of finish h) s
  pub rests : AllControls (rests.Rests w s h) s
  pub valued : owes.Valued s
  pub agreeing : epochs.Agreeing s
  pub settling : settling.Settling w s
  pub placed : places.Placed w s h
  pub tracked : tracks.Tracked w s h
  pub turned : turns.Turned s h
  pub recorded : Recorded w s h
  pub marked : Marked s h
  pub known : Known s h
  pub from_desk : FromDesk s
  pub numbered : commits.Numbered s
  pub committed : Committed w h
  pub lasts : befores.Lasts s h
  pub numbers : befores.Numbers s h

-- what a slice owes
run_owed : {C : Type 0} (w : Fixed C) (Of : Tx → C → Type 0) (finish : C → List State → Alone) (t a : ℕ) (s : Machine C) (h : History) → Given w Of finish → IsAllowed w (Run t a) s → Owed w (Run t a) s h → Good w Of finish s h → RunOwed t a s h
unfolding Owed conditions
run_owed {C} w Of finish t a s h v ok o g = elim (cases_Bool (is_pact (tx_at w.text (h.trails t).tx))) [
  | inl p ↦ by (waiting_of t (cell_at s a).inbox) refl (tracks.held (λ c. is_some (waiting_of t c.inbox)) s.cells a no_cell ok.0) p
  | inr p ↦ o.1 p
]
  where
    by : (x : Option (Waiting C)) → waiting_of t (cell_at s a).inbox ≡ x → is_some x ≡ true → is_pact (tx_at w.text (h.trails t).tx) ≡ true → RunOwed t a s h
    by None e q p = absurd (true≢false (sym q))
    by (Some x) e q p = owes.pact_runs w Of finish t a s h x v.facts e p g.told g.rests g.none g.known g.marked g.valued g.from_desk o.0

pub for_places : {C : Type 0} (w : Fixed C) (Of : Tx → C → Type 0) (finish : C → List State → Alone) (e : Event) (s : Machine C) (h : History) → Given w Of finish → IsAllowed w e s → Owed w e s h → Good w Of finish s h → places.Owed w e s h
unfolding Owed places.Owed turns.Turned
for_places w Of finish (Run t a) s h v ok o g = let r = run_owed w Of finish t a s h v ok o g in ((λ e f. TurnLists.not_complete t e (h.long a) (cell_at s a).entries f (r.0 e f) (g.turned a)), o.2)
for_places w Of finish (Finish t a) s h v ok o g = (o.0, o.2, o.3)
for_places w Of finish (Trim k a) s h v ok o g = o
for_places w Of finish e s h v ok o g = tt

for_turns : {C : Type 0} (w : Fixed C) (Of : Tx → C → Type 0) (finish : C → List State → Alone) (e : Event) (s : Machine C) (h : History) → Given w Of finish → IsAllowed w e s → Owed w e s h → Good w Of finish s h → turns.Assumed e s
unfolding Owed turns.Assumed
for_turns w Of finish (Run t a) s h v ok o g = (run_owed w Of finish t a s h v ok o g).0
for_turns w Of finish (Finish t a) s h v ok o g = o.0
for_turns w Of finish (Trim k a) s h v ok o g = o
for_turns w Of finish e s h v ok o g = tt

pub for_chain : {C : Type 0} (w : Fixed C) (Of : Tx → C → Type 0) (finish : C → List State → Alone) (e : Event) (s : Machine C) (h : History) → Given w Of finish → IsAllowed w e s → Owed w e s h → Good w Of finish s h → chain.Assumed e s h
unfolding Owed chain.Assumed
for_chain w Of finish (Arrive k a) s h v ok o g = commits.arrives_fresh w k a s h ok g.agreeing g.known g.marked g.placed g.from_desk
for_chain w Of finish (Ask t a) s h v ok o g = o
for_chain w Of finish (Run t a) s h v ok o g = (run_owed w Of finish t a s h v ok o g).1
for_chain w Of finish (Commit k) s h v ok o g = commits.may_commit w k s h ok g.settling g.known g.marked g.placed g.tracked g.turned g.from_desk g.numbered
for_chain w Of finish (Rollback a) s h v ok o g = commits.cuts_fresh w s h g.settling g.known g.marked
for_chain w Of finish (Decide t) s h v ok o g = o
for_chain w Of finish (Finish t a) s h v ok o g = o.1
for_chain w Of finish (Trim k a) s h v ok o g = commits.trims_kept w k a s h ok g.marked
for_chain w Of finish e s h v ok o g = tt

exists : {C : Type 0} (w : Fixed C) (e : Event) (s : Machine C) (h : History) → Owed w e s h → befores.Exists e s
unfolding Owed befores.Exists
exists w (Finish t a) s h o = o.0
exists w (Trim k a) s h o = o
exists w e s h o = tt

differ : {C : Type 0} (w : Fixed C) (s : Machine C) (h : History) → tracks.Tracked w s h → (a : ℕ) → Differ (map key_of (cell_at s a).entries)
unfolding tracks.Tracked
differ w s h t a = (t a).differ

pub kept : {C : Type 0} (w : Fixed C) (Of : Tx → C → Type 0) (finish : C → List State → Alone) (e : Event) (s : Machine C) (h : History) → Given w Of finish → IsAllowed w e s → Owed w e s h → Good w Of finish s h → Good w Of finish (after w e s) (grown w e s h)
kept w Of finish e s h v ok o g =
    let p = places.kept w e s h ok (for_places w Of finish e s h v ok o g) (record { agreeing = g.agreeing; settling = g.settling; placed = g.placed; tracked = g.tracked }) in
    record {
      queued = queued_kept w e s ok g.queued;
      held = controls.kept w e s ok g.held;
      drawn = resting.drawn_kept w e s g.drawn;
      none = resting.results_kept w e s ok g.held g.drawn g.none;
      told = trails.kept w Of finish e s h v.text v.actors v.facts ok g.queued g.held g.told;
      rests = rests.kept w Of finish e s h v.facts ok g.held g.drawn g.from_desk g.none g.told g.rests;
      valued = owes.valued_kept w e s ok g.valued;
      agreeing = p.agreeing;
      settling = p.settling;
      placed = p.placed;
      tracked = p.tracked;
      turned = turns.kept w e s h ok (for_turns w Of finish e s h v ok o g) (differ w s h g.tracked) g.turned;
      recorded = marks.recorded_kept w e s h ok g.placed g.tracked g.recorded;
      marked = marks.marked_kept w e s h ok g.placed g.recorded g.known g.marked;
      known = marks.known_kept w e s h ok g.known;
      from_desk = desk.kept w e s (epochs.bids_below s g.agreeing) (differ w s h g.tracked) ok g.from_desk;
      numbered = commits.numbered_kept w e s g.numbered;
      committed = chain.kept w e s h ok (for_chain w Of finish e s h v ok o g) g.tracked g.committed;
      lasts = befores.lasts_kept w e s h ok (exists w e s h o) g.agreeing g.placed g.turned g.lasts;
      numbers = befores.numbers_stay w e s h ok g.lasts g.numbers;
    }

-- ---- the opening

pub no_entries : (C : Type 0) (low : ℕ) (states : List State) (a : ℕ) → (slice_index_or (map (new_cell {C = C} low) states) a no_cell).entries ≡ []
no_entries C low [] a = refl
no_entries C low (x ∷ xs) zero = refl
no_entries C low (x ∷ xs) (suc a) = no_entries C low xs a

tracks_new : (C : Type 0) (low : ℕ) (states : List State) (a : ℕ) → Rattle.protocol_laws.specs.Tracks.Tracks (slice_index_or states a no_state) (map key_of (slice_index_or (map (new_cell {C = C} low) states) a no_cell).entries) (slice_index_or (map (new_cell {C = C} low) states) a no_cell).images (slice_index_or (map (new_cell {C = C} low) states) a no_cell).state []
tracks_new C low [] a = record { stands = refl; differ = tt; in_order = tt; images_are = refl; links = refl }
tracks_new C low (x ∷ xs) zero = record { stands = refl; differ = tt; in_order = tt; images_are = refl; links = refl }
tracks_new C low (x ∷ xs) (suc a) = tracks_new C low xs a

pub opened : {C : Type 0} (w : Fixed C) (Of : Tx → C → Type 0) (finish : C → List State → Alone) → Given w Of finish → Good w Of finish (opening w) no_history
unfolding resting.Drawn owes.Valued places.Placed tracks.Tracked turns.Turned Recorded Marked Known commits.Numbered Committed befores.Lasts befores.Numbers
opened {C} w Of finish v = let text = v.text in record {
  queued = queued_opened w;
  held = controls.opened w;
  drawn = tt;
  none = nowhere w (resting.NoneNoted (opening w));
  told = nowhere w (trails.Told w Of finish no_history);
  rests = nowhere w (rests.Rests w (opening w) no_history);
  valued = λ k b e. absurd (cc e);
  agreeing = epochs.opened w text;
  settling = settling.opened w text;
  placed = λ a. record { behind = epoch_least a w.text.opening.states; fit = tt; ascends = tt; firm = tt };
  tracked = λ a. tracks_new C (base w.text) w.text.opening.states a;
  turned = λ a. subst (Rattle.protocol_laws.specs.Turns.Turns []) (sym (no_entries C (base w.text) w.text.opening.states a)) tt;
  recorded = λ k a q. absurd (no_record w.text.logs (a % w.text.logs) k a q);
  marked = λ k b e. absurd (cc e);
  known = λ k e. absurd (Rattle.std.proofs.lemmas.Bool.true≢false (sym e));
  from_desk = record { subs = tt; entries = λ a. subst (Rattle.std.specs.List.AllByRecursion _) (sym (no_entries C (base w.text) w.text.opening.states a)) tt; in_order = λ a. subst Rattle.protocol_laws.specs.FromDesk.CompleteInOrder (sym (no_entries C (base w.text) w.text.opening.states a)) tt };
  numbered = λ k b e. absurd (cc e);
  committed = λ a. record { front = tt; ends = refl; links = tt };
  lasts = λ a. record { placed = tt; gone = tt };
  numbers = λ a. tt;
}
  where
    epoch_least : (a : ℕ) (states : List State) → (slice_index_or (map (new_cell {C = C} (base w.text)) states) a no_cell).epoch ≤ 0
    epoch_least a [] = omega Rattle.std.proofs.Common.arith
    epoch_least zero (x ∷ xs) = omega Rattle.std.proofs.Common.arith
    epoch_least (suc a) (x ∷ xs) = epoch_least a xs

    no_record : (n l k a : ℕ) → Rattle.std.specs.List.list_any (Rattle.protocol.specs.Records.is_complete k a) (slice_index_or (replicate n Rattle.protocol.specs.Effects.no_log) l Rattle.protocol.specs.Effects.no_log).records ≡ true → ⊥
    no_record zero l k a q = Rattle.std.proofs.lemmas.Bool.true≢false (sym q)
    no_record (suc n) zero k a q = Rattle.std.proofs.lemmas.Bool.true≢false (sym q)
    no_record (suc n) (suc l) k a q = no_record n l k a q
