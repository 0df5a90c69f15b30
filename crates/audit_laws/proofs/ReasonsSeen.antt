-- Why an ACT is given up, by the events, is why it is doomed: event by event, and over every run.
use Rattle.std.specs.Prelude.{◌≡◌, refl, ℕ, zero, suc, max, Bool, true, false, not, ◌&&◌, if◌then◌else◌, Option, Some, None, List, [], ◌∷◌, ◌++◌, length, map}
use Rattle.std.proofs.Common.{arith, sym, ap, ◌∙◌}
use Rattle.std.proofs.lemmas.Bool.{true≢false}
use Rattle.snap_base.specs.declared.transactions.State.{State}
use Rattle.snap_base.specs.declared.transactions.Tx.{Tx}
use Rattle.protocol.specs.Conditions.{IsAllowed}
use Rattle.protocol.specs.Contents.{ActTids, Statuses}
use Rattle.protocol.specs.Effects.{after, cell_at}
use Rattle.protocol.specs.Events.{Event, Admit, Arrive, Ask, Settle, Abort, Decide, Seal, Finish}
use Rattle.protocol.specs.Facts.{Alone}
use Rattle.protocol.specs.Fixed.{Fixed, IsText, Text}
use Rattle.protocol.specs.History.{History, grown, no_history}
use Rattle.protocol.specs.History as history
use Rattle.protocol.specs.OnBook as book
use Rattle.protocol.specs.Parts.{Machine}
use Rattle.protocol.specs.Rests.{HasFacts, IsRest, IsTxIn}
use Rattle.protocol.specs.Rivals.{Lock}
use Rattle.protocol.specs.Runs.{EachAllowed, IsRun, opening, reached, state_after}
use Rattle.protocol.specs.Words.{floor_at, is_among, is_value, least_older, lock_of}
use Rattle.protocol_laws.proofs.first.PairsFound.{each_act}
use Rattle.protocol_laws.proofs.machine.AllGood.{none_allowed}
use Rattle.protocol_laws.proofs.machine.Good.{Given}
use Rattle.audit_words.specs.Happenings as told
use Rattle.audit_words.specs.Happenings.{act_placed_last, added, batch_placed_last, cross_out, give_up, happened, met, taken_by, with_cut}
use Rattle.audit_words.specs.Seen.{Seen, first_doom, nothing_seen, was_formed}
use Rattle.audit_laws.specs.Acts.{ActsAreSeen, reason}
use Rattle.audit_laws.specs.Names.{TellsNames}
use Rattle.audit_laws.proofs.Acts.{mapped_tids}
use Rattle.audit_laws.proofs.NamesSeen.{Frames, aborts, at_opening, either, names_kept}
use Rattle.audit_laws.proofs.PlacesSeen.{Laws, facts_of}
use Rattle.audit_laws.proofs.Reasons.{crossed_why, died_why, reason_changed, reason_decided, reason_in, reason_mapped, reason_more, reason_of, reason_raised, reason_same, reason_sealed, taken_why}
use Rattle.audit_laws.proofs.Simulated.{SimFacts, Tells, asked_acts_by, plus_zero}
use Rattle.audit_laws.proofs.SimulatedComing.{arrived_crosses, arrived_ends, asked_crosses, asked_ends, asks_live, comes_told, joined_by, joined_tids, may_told, met_told}
use Rattle.audit_laws.proofs.SimulatedPlaces.{reached_by}
use Rattle.audit_laws.proofs.Simulation.{happens, told_first, told_of_run}

-- no ACT gets another status, and nobody is given up
abbrev leaves_acts : Event → Bool
leaves_acts (Admit t) = false
leaves_acts (Arrive k a) = false
leaves_acts (Ask t a) = false
leaves_acts (Abort k) = false
leaves_acts (Decide t) = false
leaves_acts (Seal t) = false
leaves_acts _ = true

dooms_stay : (r : Tx → Bool) (w : Text) (e : Event) (t : Seen) → leaves_acts e ≡ true → (added r w e t).dooms ≡ t.dooms
unfolding added
dooms_stay r w (Arrive k a) t h = absurd (true≢false (sym h))
dooms_stay r w (Ask u a) t h = absurd (true≢false (sym h))
dooms_stay r w (Abort k) t h = absurd (true≢false (sym h))
dooms_stay r w (Settle k) t h = either (λ x. x.dooms) (was_formed k t && not (is_among k t.settled)) _ t refl
dooms_stay r w (Finish u a) t h = either (λ x. x.dooms) _ _ t refl
dooms_stay r w e t h = refl

-- the first reason of each
abbrev TellsWhy : {C : Type 0} → Machine C → Seen → Type 0
TellsWhy s t = (u : ℕ) → first_doom u t.dooms ≡ reason_in u s.book.acts

module _ {C : Type 0} (w : Fixed C) (fr : Frames C) where
  reasons_stay : (e : Event) (s : Machine C) (u : ℕ) → leaves_acts e ≡ true → reason_in u (after w e s).book.acts ≡ reason_in u s.book.acts
  reasons_stay (Admit t) s u q = absurd (true≢false (sym q))
  reasons_stay (Arrive k a) s u q = absurd (true≢false (sym q))
  reasons_stay (Ask t a) s u q = absurd (true≢false (sym q))
  reasons_stay (Abort k) s u q = absurd (true≢false (sym q))
  reasons_stay (Decide t) s u q = absurd (true≢false (sym q))
  reasons_stay (Seal t) s u q = absurd (true≢false (sym q))
  reasons_stay e s u q = reason_same u (after w e s).book.acts s.book.acts (fr w e s ActTids refl) (fr w e s Statuses refl)

  -- ---- an ACT asks

  joined_reason : (u a v : ℕ) (s : Machine C) → reason_in v ((joined_by w fr) u a s) ≡ reason_in v s.book.acts
  joined_reason u a v s =
      let m = max (cell_at s a).last (floor_at u s.book.acts (cell_at s a)) in
      reason_raised v (s.book.pairs ++ book.new_pairs u a (book.met (lock_of u s.book.acts) (cell_at s a).entries) s.book.acts) (book.changed_act u (book.joins a m) s.book.acts) ∙ reason_changed v u (book.joins a m) s.book.acts (λ x. refl) (λ x. refl)

  asked_why : (Of : Tx → C → Type 0) (finish : C → List State → Alone) (u a v : ℕ) (s : Machine C) (h : History) (t : Seen) → IsAllowed w (Ask u a) s → SimFacts w Of finish s h → TellsNames w s t → Tells w s h t → TellsWhy s t
      → (o : Option ℕ) → book.in_the_way (lock_of u s.book.acts) (cell_at s a).entries ≡ o → first_doom v (told.asks u a o t).dooms ≡ reason_in v (asked_acts_by u a o s)
  asked_why Of finish u a v s h t ok f n g y (Some older) e = died_why u a older v t.dooms s.book.acts ((asks_live w fr) Of finish u a s h ok f) (y v)
  asked_why Of finish u a v s h t ok f n g y None e =
      crossed_why a v (act_placed_last u a t) ((joined_by w fr) u a s) (n.tids ∙ sym ((joined_tids w fr) u a s)) (y v ∙ sym (joined_reason u a v s))
      ((asked_crosses w fr) Of finish u a v s h t ok f n g e) ((asked_ends w fr) Of finish u a v s h t ok f n g e)

  -- ---- each event

  why_kept : (Of : Tx → C → Type 0) (finish : C → List State → Alone) (e : Event) (s : Machine C) (h : History) (t : Seen) → IsAllowed w e s → SimFacts w Of finish s h → TellsNames w s t → Tells w s h t → TellsWhy s t
      → TellsWhy (after w e s) (happened w.code.only_reads w.text e t)
  unfolding added after
  why_kept Of finish (Admit v) s h t ok f n g y u = y u ∙ sym (reason_more u s.book.acts _ refl)
  why_kept Of finish (Arrive k a) s h t ok f n g y u =
      let ts = book.tids_on (cell_at s a).entries in
      let x : Seen = batch_placed_last k a t in
      ap (λ (b : Bool). first_doom u (if b then cross_out a x else t).dooms) ((comes_told w fr) Of finish k a s h t ok f n g)
      ∙ crossed_why a u x (map (book.lowered k ts) s.book.acts) (n.tids ∙ sym (mapped_tids (book.lowered k ts) s.book.acts (λ z. refl))) (y u ∙ sym (reason_mapped u (book.lowered k ts) s.book.acts (λ z. refl) (λ z. refl)))
      ((arrived_crosses w fr) Of finish k a u s h t ok f g) ((arrived_ends w fr) Of finish k a u s h t ok f g)
  why_kept Of finish (Ask u a) s h t ok f n g y v =
      ap (λ (b : Bool). first_doom v (if b then told.asks u a (least_older u (met u a t)) t else t).dooms) ((may_told w fr) Of finish u a s h t ok f n g)
      ∙ (ap (λ (zs : List Lock). first_doom v (told.asks u a (least_older u zs) t).dooms) ((met_told w fr) Of finish u a s h t f n g)
      ∙ asked_why Of finish u a v s h t ok f n g y (book.in_the_way (lock_of u s.book.acts) (cell_at s a).entries) refl)
  why_kept Of finish (Abort k) s h t ok f n g y u =
      ap (λ (b : Bool). first_doom u (if b then with_cut w.text k (give_up (taken_by k t) t) else t).dooms) (aborts w fr k s t (f.room (Abort k) ok) ok n)
      ∙ taken_why k (book.failed_tx (book.why k s.desk)) u t s.book.acts n.tids (y u) ((reached_by w fr) Of finish k u s h t f g)
  why_kept Of finish (Decide v) s h t ok f n g y u = y u ∙ sym (reason_changed u v (book.decided_as s.book.next_c) s.book.acts (λ x. refl) (λ x. reason_decided u s.book.next_c (is_value x.result) x.status))
  why_kept Of finish (Seal v) s h t ok f n g y u = y u ∙ sym (reason_changed u v book.sealed s.book.acts (λ x. refl) (λ x. reason_sealed u x.status))
  why_kept Of finish e s h t ok f n g y u = ap (first_doom u) (dooms_stay w.code.only_reads w.text e t refl) ∙ (y u ∙ sym (reasons_stay e s u refl))

  -- ---- a run

  why_along : (Of : Tx → C → Type 0) (finish : C → List State → Alone) (es : List Event) (s : Machine C) (h : History) (t : Seen) → ((fs : List Event) → EachAllowed w fs s → SimFacts w Of finish (state_after w fs s) (history.history_after w fs s h)) → EachAllowed w es s
      → TellsNames w s t → Tells w s h t → TellsWhy s t → TellsWhy (state_after w es s) (told.seen_from w.code.only_reads w.text es t)
  why_along Of finish [] s h t f run n g y = y
  why_along Of finish (e ∷ es) s h t f run n g y =
      why_along Of finish es (after w e s) (grown w e s h) (happened w.code.only_reads w.text e t) (λ fs r. f (e ∷ fs) (run.0, r)) run.1
      (names_kept w fr e s t ((f [] tt).room e run.0) run.0 n) ((happens w fr) Of finish e s h t run.0 (f [] tt) n g) (why_kept Of finish e s h t run.0 (f [] tt) n g y)

  acts_seen_with : (Of : Tx → C → Type 0) (finish : C → List State → Alone) (es : List Event) → ((fs : List Event) → IsRun w fs → SimFacts w Of finish (reached w fs) (history.history w fs)) → IsRun w es → ActsAreSeen w es
  acts_seen_with Of finish es f run =
      let t = told.seen w.code.only_reads w.text es in
      let why = why_along Of finish es (opening w) no_history (nothing_seen w.text) f run (at_opening w fr) (told_first w fr) (λ u. refl) in
      record {
        reasons = each_act (reached w es) (λ u x. first_doom u t.dooms ≡ reason u x.status) (f es run).good.ascend (λ u x e. why u ∙ ap (reason_of u) e);
        next_c = ((told_of_run w fr) Of finish es f run).next_c;
      }

pub acts_seen : {C : Type 0} (w : Fixed C) (finish : C → List State → Alone) (es : List Event) → Frames C → HasFacts w finish → IsText w.text → Laws w finish → IsRun w es → ActsAreSeen w es
acts_seen {C} w finish es fr f text l run = by es run (length w.text.opening.states) refl
  where
    by : (es : List Event) → IsRun w es → (n : ℕ) → length w.text.opening.states ≡ n → ActsAreSeen w es
    by es run (suc n) e =
        let v : Given w (IsRest w.code (IsTxIn w.text)) finish = record { text = text; actors = omega (arith, e); facts = f } in
        (acts_seen_with w fr) (IsRest w.code (IsTxIn w.text)) finish es (λ fs r. facts_of w (IsRest w.code (IsTxIn w.text)) finish fs v l r) run
    by [] run zero e = record { reasons = tt; next_c = plus_zero w.text.opening.next_c }
    by (d ∷ es) run zero e = absurd (none_allowed w d text e run.0)
