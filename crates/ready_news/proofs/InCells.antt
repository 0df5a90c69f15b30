-- What is listed of the actors tells what is new there.
use Rattle.std.specs.Prelude.{◌≡◌, ◌↔◌, nat_lt, map, refl, ℕ, zero, suc, ◌+◌, ◌<◌, ◌≤◌, ◌==◌, Bool, true, false, ◌&&◌, ◌||◌, if◌then◌else◌, is_some, Option, Some, None, List, [], ◌∷◌, ◌++◌, length, take, slice_get, slice_set, Contains}
use Rattle.std.specs.List.{list_any, flat_map, AllByRecursion}
use Rattle.std.proofs.Common.{arith, sym, ap, subst, inl, inr, ◌∙◌}
use Rattle.std.proofs.lemmas.Bool.{true≢false, ltb-false, and_parts, eqb-true, cases_Bool}
use Rattle.std.proofs.lemmas.List.Elements.{Contains-append_left, Contains-append_right}
use Rattle.std.proofs.lemmas.Option.{same_Some, slice_get_within, slice_get_past}
use Rattle.aml_slice.specs.Controls.{Rest}
use Rattle.protocol.specs.Conditions.{IsAllowed, conditions, epoch, has_ended_on, has_gone_on, refusal}
use Rattle.protocol.specs.Effects.{after, cell_at, puts}
use Rattle.protocol.specs.Events.{Event, Form, Arrive, Ask, Take, Run, Send, End, Close, Complete, Abort, Rollback, Finish, Trim}
use Rattle.protocol.specs.Fixed.{Text, Fixed, declared, tx_at}
use Rattle.protocol.specs.Laws.{AfterEveryRun}
use Rattle.snap_hand.specs.core_rows.OnRuns.{HasRun}
use Rattle.protocol.specs.OnCell.{batch_entries, batch_placed, done_in, is_done_after, outcome_taken, pact_closed, slice_of, slice_run}
use Rattle.protocol.specs.OnDesk.{new_batch}
use Rattle.protocol.specs.OnRing.{next_actors, next_pacts, numbered}
use Rattle.protocol.specs.Parts.{SubBatch, Pact, Batch, Desk, Outcome, Cell, Machine}
use Rattle.protocol.specs.Words.{below, has_undone, holds, is_among, is_ended, is_going, is_undone, names_pact, outcome_of, pact_result, result_among, sub_of}
use Rattle.listing_facts.specs.Owing.{UndoneHaveDeclared}
use Rattle.listing_facts.specs.batch_table.Listed.{pact_tx}
use Rattle.listing_facts.specs.hybrid_schedule.Listed.{undone_by}
use Rattle.protocol_laws.specs.Ranges.{BatchInRange, IsDrawnTid, NumbersInRange}
use Rattle.protocol_theorems.specs.Sizes.{SizesHold}
use Rattle.protocol_ready.specs.Telling.{CellTells}
use Rattle.protocol_ready.specs.Touched.{is_touched, is_abort, changes_entries, changes_done, changes_result}
use Rattle.protocol_ready.proofs.Listing.{Has, from_has, any_of}
use Rattle.protocol_ready.proofs.TouchedListed.{no}
use Rattle.listing_facts.specs.Listing.{CellLists}
use Rattle.ready_listing.specs.Listed.{on_place, of_place}
use Rattle.ready_listing.proofs.Lists.{first_of_all, in_flat_map, in_below}
use Rattle.ready_listing.proofs.Told.{cell_lists}
use Rattle.snap_hand.specs.Hands.{Parts, Fits, IsHandOf, IsWhole}
use Rattle.ready_news.specs.New.{IsBehind, is_new}
use Rattle.ready_news.specs.InBook.{only}
use Rattle.ready_news.specs.InCells.{close_at, closes_behind, declared_in, late_by, left_by, of_late, of_shown, on_changed, owes, put_there, wakes, cells_listed}
use Rattle.ready_news.proofs.Common.{Among, cell_is_there, desk_there}
use Rattle.ready_news.proofs.InPost.{find_gone, numbered_from, left_or}
use Rattle.ready_news.proofs.PostTold.{Asks, asks_of, first_only}
use Rattle.ready_news.proofs.Waking.{arrive_closes, ask_closes, ask_completes, ask_runs, complete_listed, done_owes_nothing, finish_closes, finish_ends, finish_sends, named_by, run_listed, trim_closes}

-- ---- elsewhere nothing is touched

-- the event is on this actor
abbrev here : Event → ℕ → Bool
here (Arrive k b) a = b == a
here (Ask t b) a = b == a
here (Run t b) a = b == a
here (Close t b) a = b == a
here (Complete k b) a = b == a
here (Rollback b) a = b == a
here (Finish t b) a = b == a
here (Trim k b) a = b == a
here _ a = false

-- more than that something comes or goes
abbrev is_plain : Event → Bool
is_plain (Take t b) = false
is_plain (Send t b) = false
is_plain (End t b) = false
is_plain _ = true

record Away (w : Fixed Rest) (e : Event) (s : Machine Rest) (a : ℕ) : Type 0 where
  pub run : (t : ℕ) → is_touched w e s (Run t a) ≡ false
  pub send : (t : ℕ) → is_touched w e s (Send t a) ≡ false
  pub end : (t : ℕ) → is_touched w e s (End t a) ≡ false
  pub done : (t : ℕ) → (changes_entries e a || changes_done w e s t a) ≡ false
  pub complete : (k : ℕ) → is_touched w e s (Complete k a) ≡ false
  pub rollback : is_touched w e s (Rollback a) ≡ false

away : (w : Fixed Rest) (e : Event) (s : Machine Rest) (a : ℕ) → is_plain e ≡ true → is_abort e ≡ false → here e a ≡ false → Away w e s a
away w (Arrive k b) s a y z h = record { run = λ t. rw h refl; send = λ t. refl; end = λ t. refl; done = λ t. rw h refl; complete = λ k. rw h refl; rollback = refl }
away w (Ask u b) s a y z h = record { run = λ t. rw h refl; send = λ t. refl; end = λ t. refl; done = λ t. rw h refl; complete = λ k. rw h refl; rollback = refl }
away w (Take u b) s a y z h = no y
away w (Run u b) s a y z h = record { run = λ t. rw h refl; send = λ t. rw h refl; end = λ t. rw h refl; done = λ t. rw h refl; complete = λ k. rw h refl; rollback = refl }
away w (Send u b) s a y z h = no y
away w (End u b) s a y z h = no y
away w (Close u b) s a y z h = record { run = λ t. rw h refl; send = λ t. refl; end = λ t. refl; done = λ t. rw h refl; complete = λ k. rw h refl; rollback = refl }
away w (Complete k b) s a y z h = record { run = λ t. rw h refl; send = λ t. refl; end = λ t. refl; done = λ t. refl; complete = λ k. rw h refl; rollback = refl }
away w (Rollback b) s a y z h = record { run = λ t. rw h refl; send = λ t. rw h refl; end = λ t. rw h refl; done = λ t. rw h refl; complete = λ k. rw h refl; rollback = rw h refl }
away w (Finish u b) s a y z h = record { run = λ t. rw h refl; send = λ t. rw h refl; end = λ t. rw h refl; done = λ t. rw h refl; complete = λ k. rw h refl; rollback = refl }
away w (Trim k b) s a y z h = record { run = λ t. rw h refl; send = λ t. refl; end = λ t. refl; done = λ t. rw h refl; complete = λ k. rw h refl; rollback = refl }
away w (Abort k) s a y z h = absurd (true≢false z)
away w _ s a y z h = record { run = λ t. refl; send = λ t. refl; end = λ t. refl; done = λ t. refl; complete = λ k. refl; rollback = refl }

-- ---- a PACT of a new batch has no result

unnamed_among : (t n : ℕ) (ps : List Pact) → AllByRecursion (λ p. p.tid < n) ps → n ≤ t → list_any (λ p. p.tid == t) ps ≡ false
unnamed_among t n [] h g = refl
unnamed_among t n (p ∷ ps) h g = by (p.tid == t) refl (unnamed_among t n ps h.1 g)
  where
    by : (b : Bool) → (p.tid == t) ≡ b → list_any (λ p. p.tid == t) ps ≡ false → (b || list_any (λ p. p.tid == t) ps) ≡ false
    by true e i = absurd (omega (arith, eqb-true p.tid t e, h.0, g))
    by false e i = i

drawn_below : (w : Fixed Rest) (s : Machine Rest) (ps : List Pact) → AllByRecursion (λ p. IsDrawnTid w s p.tid) ps → AllByRecursion (λ p. p.tid < s.ring.next_tid) ps
drawn_below w s [] h = tt
drawn_below w s (p ∷ ps) h = (h.0.below, drawn_below w s ps h.1)

none_noted : (t n : ℕ) (ns : List ℕ) → result_among t (numbered n ns) ≡ None
none_noted t n [] = refl
none_noted t n (m ∷ ns) = by (n == t) (none_noted t (n + 1) ns)
  where
    by : (b : Bool) → result_among t (numbered (n + 1) ns) ≡ None → (if b then None else result_among t (numbered (n + 1) ns)) ≡ None
    by true i = refl
    by false i = i

new_unended : (w : Fixed Rest) (s : Machine Rest) (t : ℕ) (b : Batch) (bs : List Batch) → AllByRecursion (BatchInRange w s) bs → s.ring.next_tid ≤ t → result_among t b.pacts ≡ None → pact_result t (bs ++ b ∷ []) ≡ None
new_unended w s t b [] h g none = by (names_pact t b)
  where
    by : (c : Bool) → (if c then result_among t b.pacts else None) ≡ None
    by true = none
    by false = refl
new_unended w s t b (x ∷ bs) h g none = rw (unnamed_among t s.ring.next_tid x.pacts (drawn_below w s x.pacts h.0.tids) g) (new_unended w s t b bs h.1 g none)

form_closes : (w : Fixed Rest) (k : ℕ) (s : Machine Rest) (t a : ℕ) → AllByRecursion (BatchInRange w s) s.desk.batches → list_any (λ p. p.tid == t) (next_pacts w.text s.ring) ≡ true → IsAllowed w (Close t a) (after w (Form k) s) → ⊥
unfolding conditions after
form_closes w k s t a ranges h c =
    let q = any_of (λ p. p.tid == t) (next_pacts w.text s.ring) h in
    let new : s.ring.next_tid ≤ t = subst (λ n. s.ring.next_tid ≤ n) (eqb-true q.it.tid t q.does) (numbered_from s.ring.next_tid (take w.text.batch _) q.it q.has) in
    true≢false (sym c.0 ∙ ap is_some (new_unended w s t (new_batch k (next_actors w.text s.ring) (next_pacts w.text s.ring)) s.desk.batches ranges new (none_noted t s.ring.next_tid (take w.text.batch _))))

-- ---- a PACT that ended

-- what is known of the state in which it is looked for
record Desked (w : Fixed Rest) (t : Machine Rest) (h : Parts) : Type 0 where
  pub owing : UndoneHaveDeclared w t
  pub desk : h.desk ≡ Some t.desk
  pub cells : (b : ℕ) (x : Cell Rest) → slice_get h.cells b ≡ Some (Some x) → slice_get t.cells b ≡ Some x
  pub there : (b : ℕ) → b < length h.cells → (x : Cell Rest) × (slice_get h.cells b ≡ Some (Some x))

owed : (w : Fixed Rest) (t : Machine Rest) (h : Parts) → Desked w t h → (u a : ℕ) (c : Cell Rest) → slice_get t.cells a ≡ Some c → has_undone u c.entries ≡ true → a < length h.cells → Contains (close_at u h a) (Close u a)
owed w t h k u a c at undone within =
    let x = k.there a within in
    let same : x.0 ≡ c = same_Some x.0 c (sym (k.cells a x.0 x.1) ∙ at) in
    let due : owes u (slice_get h.cells a) ≡ true = ap (owes u) x.1 ∙ (ap (λ z. has_undone u z.entries) same ∙ undone) in
    subst (λ v. Contains (only v (Close u a)) (Close u a)) (sym due) (first_of_all [] (Close u a))

among_declared : (w : Text) (n : Option ℕ) (a : ℕ) → holds (λ m. is_among a (declared (tx_at w m))) n ≡ true → Has (declared_in w n) a
among_declared w None a h = no h
among_declared w (Some n) a h =
    let s = any_of (λ x. x == a) (declared (tx_at w n)) h in
    subst (Has (declared (tx_at w n))) (eqb-true s.it a s.does) s.has

ended_in : (w : Fixed Rest) (t : Machine Rest) (h : Parts) → Desked w t h → (u a : ℕ) (c : Cell Rest) → slice_get t.cells a ≡ Some c → has_undone u c.entries ≡ true → is_some (pact_result u t.desk.batches) ≡ true → a < length h.cells
    → Contains (closes_behind w.text u h.desk h) (Close u a)
ended_in w t h k u a c at undone result within =
    let actors = declared_in w.text (pact_tx u t.desk.batches) in
    let has : Has actors a = among_declared w.text (pact_tx u t.desk.batches) a (k.owing u a (ap (holds (λ x. has_undone u x.entries)) at ∙ undone)) in
    subst (λ o. Contains (closes_behind w.text u o h) (Close u a)) (sym k.desk)
    (subst (λ v. Contains (if v then flat_map (close_at u h) actors else []) (Close u a)) (sym result)
    (in_flat_map (close_at u h) actors a (Close u a) (from_has actors a has) (owed w t h k u a c at undone within)))

close_result : (w : Fixed Rest) (t : Machine Rest) (u a : ℕ) → IsAllowed w (Close u a) t → is_some (pact_result u t.desk.batches) ≡ true
unfolding conditions
close_result w t u a c = c.0

-- the cell that was put in
got : (xs : List (Cell Rest)) (i j : ℕ) (y c : Cell Rest) → slice_get (slice_set xs j y) i ≡ Some c → j ≡ i → c ≡ y
got [] i j y c e h = absurd (cc e)
got (x ∷ xs) zero zero y c e h = sym (same_Some y c e)
got (x ∷ xs) (suc i) zero y c e h = absurd (omega (arith, h))
got (x ∷ xs) zero (suc j) y c e h = absurd (omega (arith, h))
got (x ∷ xs) (suc i) (suc j) y c e h = got xs i j y c e (omega (arith, h))

-- ---- one actor

module _ (asked : Event → Bool) (w : Fixed Rest) (s : Machine Rest) (h : Parts) (es : List Event) where
  -- what is told of an actor where the event is not
  told_away : (e : Event) → Asks asked w s e → AllByRecursion (BatchInRange w s) s.desk.batches → Desked w (after w e s) h → (cascades a : ℕ) (c : Cell Rest) → a < length h.cells → slice_get (after w e s).cells a ≡ Some c → is_plain e ≡ true → is_abort e ≡ false → here e a ≡ false → Among (cells_listed w.text e h) es → CellTells asked cascades a c es
  told_away e g ranges desked cascades a c within at plain z q more =
      let far = away w e s a plain z q in
      record {
        run = λ t x y. absurd (true≢false (sym (g.touched (Run t a) x) ∙ far.run t));
        send = λ t x y. absurd (true≢false (sym (g.touched (Send t a) x) ∙ far.send t));
        end = λ t x y. absurd (true≢false (sym (g.touched (End t a) x) ∙ far.end t));
        close = λ t x y. closed e g plain t x (left_or (changes_result w e s t) _ (left_or_right (is_abort e) _ (g.touched (Close t a) x) z) (λ v. absurd (true≢false (sym v ∙ far.done t))));
        complete = λ k x y. absurd (true≢false (sym (g.touched (Complete k a) x) ∙ far.complete k));
        rollback = λ x y. absurd (true≢false (sym (g.touched (Rollback a) x) ∙ far.rollback));
      }
    where
      left_or_right : (b d : Bool) → (b || d) ≡ true → b ≡ false → d ≡ true
      left_or_right true d x e = absurd (true≢false e)
      left_or_right false d x e = x

      closed : (e : Event) → Asks asked w s e → is_plain e ≡ true → (t : ℕ) → asked (Close t a) ≡ true → changes_result w e s t ≡ true → Contains es (Close t a)
      closed (Form k) g plain t x v = absurd (form_closes w k s t a ranges v (g.allowed (Close t a) x))
      closed (End u b) g plain t x v = no plain
      closed _ g plain t x v = no v

  -- after a cascade all
  abort_listed : (e : Event) (a : ℕ) → a < length h.cells → is_abort e ≡ true → Among (cells_listed w.text e h) es → Among (on_place h a) es
  abort_listed (Abort k) a within z more f c = more f (in_flat_map (on_place h) (below (length h.cells)) a f (in_below a (length h.cells) within) c)
  abort_listed _ a within z more f c = no z

  -- a control comes
  took : (u b : ℕ) → Asks asked w s (Take u b) → (cascades a : ℕ) (c : Cell Rest) → Among (cells_listed w.text (Take u b) h) es → CellTells asked cascades a c es
  took u b g cascades a c more = record {
    run = λ t x y.
        let q = and_parts (b == a) (u == t) (first_only ((b == a) && (u == t)) (g.touched (Run t a) x)) in
        subst (λ n. Contains es (Run n a)) (eqb-true u t q.1) (subst (λ n. Contains es (Run u n)) (eqb-true b a q.0) (more (Run u b) (first_of_all [] (Run u b))));
    send = λ t x y. no (g.touched (Send t a) x);
    end = λ t x y. no (g.touched (End t a) x);
    close = λ t x y. no (g.touched (Close t a) x);
    complete = λ k x y. no (g.touched (Complete k a) x);
    rollback = λ x y. no (g.touched (Rollback a) x);
  }

  -- an outcome goes
  went : (p : Outcome Rest → Bool) (u b t a : ℕ) (c : Cell Rest) → slice_get (puts s b (outcome_taken u (cell_at s b))) a ≡ Some c → ((b == a) && (u == t)) ≡ true → holds p (outcome_of t c.outbox) ≡ true → ⊥
  went p u b t a c at same y =
      let q = and_parts (b == a) (u == t) same in
      let is = got s.cells a b (outcome_taken u (cell_at s b)) c at (eqb-true b a q.0) in
      true≢false (sym y ∙ ap (λ z. holds p (outcome_of t z.outbox)) is ∙ ap (λ n. holds p (outcome_of n (outcome_taken u (cell_at s b)).outbox)) (sym (eqb-true u t q.1)) ∙ ap (holds p) (find_gone (λ x. x.tid == u) (cell_at s b).outbox))

  sent_on : (u b : ℕ) → Asks asked w s (Send u b) → (cascades a : ℕ) (c : Cell Rest) → slice_get (after w (Send u b) s).cells a ≡ Some c → CellTells asked cascades a c es
  unfolding after
  sent_on u b g cascades a c at = record {
    run = λ t x y. no (g.touched (Run t a) x);
    send = λ t x y. absurd (went (λ x. is_going x.next) u b t a c at (g.touched (Send t a) x) y);
    end = λ t x y. absurd (went (λ x. is_ended x.next) u b t a c at (g.touched (End t a) x) y);
    close = λ t x y. no (g.touched (Close t a) x);
    complete = λ k x y. no (g.touched (Complete k a) x);
    rollback = λ x y. no (g.touched (Rollback a) x);
  }

  ended : (u b : ℕ) → Asks asked w s (End u b) → Desked w (after w (End u b) s) h → (cascades a : ℕ) (c : Cell Rest) → a < length h.cells → slice_get (after w (End u b) s).cells a ≡ Some c → Among (cells_listed w.text (End u b) h) es → CellTells asked cascades a c es
  unfolding after
  ended u b g desked cascades a c within at more = record {
    run = λ t x y. no (g.touched (Run t a) x);
    send = λ t x y. absurd (went (λ x. is_going x.next) u b t a c at (g.touched (Send t a) x) y);
    end = λ t x y. absurd (went (λ x. is_ended x.next) u b t a c at (g.touched (End t a) x) y);
    close = λ t x y.
        let there = ended_in w (after w (End u b) s) h desked t a c at y (close_result w (after w (End u b) s) t a (g.allowed (Close t a) x)) within in
        more (Close t a) (subst (λ n. Contains (closes_behind w.text n h.desk h) (Close t a)) (sym (eqb-true u t (first_only (u == t) (g.touched (Close t a) x)))) there);
    complete = λ k x y. no (g.touched (Complete k a) x);
    rollback = λ x y. no (g.touched (Rollback a) x);
  }

  -- ---- where it is

  -- of what the actor's cell shows
  shown_among : (e : Event) (o : Option Desk) (a b : ℕ) (c : Cell Rest) → b ≡ a → slice_get h.cells a ≡ Some (Some c) → Among (of_shown (on_changed e o b) (slice_get h.cells b)) es → Among (on_changed e o a c) es
  shown_among e o a b c same shown more f x =
      more f (subst (λ n. Contains (of_shown (on_changed e o n) (slice_get h.cells n)) f) (sym same) (subst (λ v. Contains (of_shown (on_changed e o a) v) f) (sym shown) x))

  module _ (e : Event) (g : Asks asked w s e) (o : Option Desk) (a : ℕ) (c : Cell Rest) (at : slice_get (after w e s).cells a ≡ Some c) (more : Among (on_changed e o a c) es) where
    put_in_list : Among (put_there e o a c) es
    put_in_list f x = more f (Contains-append_left (put_there e o a c) (wakes a c) f x)

    runs_woken : (t : ℕ) → asked (Run t a) ≡ true → Contains es (Run t a)
    runs_woken t x = more (Run t a) (Contains-append_right (put_there e o a c) (wakes a c) (Run t a) (run_listed w (after w e s) t a c at (g.allowed (Run t a) x)))

    completes_woken : (k : ℕ) → asked (Complete k a) ≡ true → Contains es (Complete k a)
    completes_woken k x = more (Complete k a) (Contains-append_right (put_there e o a c) (wakes a c) (Complete k a) (complete_listed w (after w e s) k a c at (g.allowed (Complete k a) x)))

  -- a sub-batch comes
  arrived : (k b : ℕ) → Asks asked w s (Arrive k b) → (o : Option Desk) → o ≡ Some s.desk → (cascades a : ℕ) (c : Cell Rest) → b ≡ a → slice_get (after w (Arrive k b) s).cells a ≡ Some c → Among (on_changed (Arrive k b) o a c) es → CellTells asked cascades a c es
  unfolding after
  arrived k b g o shown cascades a c same at more = record {
    run = λ t x y. runs_woken (Arrive k b) g o a c at more t x;
    send = λ t x y. no (g.touched (Send t a) x);
    end = λ t x y. no (g.touched (End t a) x);
    close = λ t x y. elim (cases_Bool (list_any (is_undone t) (batch_entries k m))) [
      | inl named ↦ put_in_list (Arrive k b) g o a c at more (Close t a) (late t x named)
      | inr other ↦ absurd (g.refused (Close t a) x (arrive_closes w k b s t a other (g.allowed (Close t a) x)))
    ];
    complete = λ j x y. completes_woken (Arrive k b) g o a c at more j x;
    rollback = λ x y. no (g.touched (Rollback a) x);
  }
    where
      m : Option SubBatch
      m = sub_of k b s.post.subs

      is : c ≡ batch_placed k m (cell_at s b)
      is = got s.cells a b (batch_placed k m (cell_at s b)) c at same

      late : (t : ℕ) → asked (Close t a) ≡ true → list_any (is_undone t) (batch_entries k m) ≡ true → Contains (late_by k a o c) (Close t a)
      late t x named =
          let ended : is_some (pact_result t s.desk.batches) ≡ true = close_result w (after w (Arrive k b) s) t a (g.allowed (Close t a) x) in
          subst (λ v. Contains (late_by k a v c) (Close t a)) (sym shown)
          (in_flat_map (of_late a s.desk) (undone_by k c.entries) t (Close t a)
          (subst (λ z. Contains (undone_by k z.entries) t) (sym is) (named_by k t (cell_at s b).entries m named))
          (subst (λ v. Contains (only v (Close t a)) (Close t a)) (sym ended) (first_of_all [] (Close t a))))

  desk_stays : (k b : ℕ) → h.desk ≡ Some (after w (Arrive k b) s).desk → h.desk ≡ Some s.desk
  unfolding after
  desk_stays k b e = e

  -- an ACT asks
  asked_there : (u b : ℕ) → Asks asked w s (Ask u b) → (cascades a : ℕ) (c : Cell Rest) → b ≡ a → Among (cells_listed w.text (Ask u b) h) es → CellTells asked cascades a c es
  asked_there u b g cascades a c same more = record {
    run = λ t x y. elim (cases_Bool (u == t)) [
      | inl own ↦ subst (λ n. Contains es (Run n a)) (eqb-true u t own) (subst (λ n. Contains es (Run u n)) same (more (Run u b) (first_of_all [] (Run u b))))
      | inr other ↦ absurd (g.refused (Run t a) x (ask_runs w u b s t a other (g.allowed (Run t a) x)))
    ];
    send = λ t x y. no (g.touched (Send t a) x);
    end = λ t x y. no (g.touched (End t a) x);
    close = λ t x y. absurd (g.refused (Close t a) x (ask_closes w u b s t a (g.allowed (Close t a) x)));
    complete = λ k x y. absurd (g.refused (Complete k a) x (ask_completes w u b s k a (g.allowed (Complete k a) x)));
    rollback = λ x y. no (g.touched (Rollback a) x);
  }

  -- a slice runs
  ran : (u b : ℕ) → Asks asked w s (Run u b) → (o : Option Desk) (cascades a : ℕ) (c : Cell Rest) → b ≡ a → slice_get (after w (Run u b) s).cells a ≡ Some c → Among (on_changed (Run u b) o a c) es → CellTells asked cascades a c es
  unfolding after
  ran u b g o cascades a c same at more = record {
    run = λ t x y. runs_woken (Run u b) g o a c at more t x;
    send = λ t x y. taken_on (Send t a) (Contains-append_left (only (has_gone_on u c) (Send u a)) (only (has_ended_on u c) (End u a)) (Send t a)
        (subst (λ n. Contains (only (has_gone_on n c) (Send n a)) (Send t a)) (sym (eqb-true u t (and_parts (b == a) (u == t) (g.touched (Send t a) x)).1)) (due (Send t a) y)));
    end = λ t x y. taken_on (End t a) (Contains-append_right (only (has_gone_on u c) (Send u a)) (only (has_ended_on u c) (End u a)) (End t a)
        (subst (λ n. Contains (only (has_ended_on n c) (End n a)) (End t a)) (sym (eqb-true u t (and_parts (b == a) (u == t) (g.touched (End t a) x)).1)) (due (End t a) y)));
    close = λ t x y. absurd (settled t (g.touched (Close t a) x) y);
    complete = λ k x y. completes_woken (Run u b) g o a c at more k x;
    rollback = λ x y. no (g.touched (Rollback a) x);
  }
    where
      taken_on : Among (left_by u a c) es
      taken_on f x = put_in_list (Run u b) g o a c at more f x

      due : {v : Bool} (f : Event) → v ≡ true → Contains (only v f) f
      due f y = subst (λ v. Contains (only v f) f) (sym y) (first_of_all [] f)

      is : c ≡ slice_run w.code u b (cell_at s b)
      is = got s.cells a b (slice_run w.code u b (cell_at s b)) c at same

      settled : (t : ℕ) → (((b == a) && (u == t)) && is_done_after w.code b (slice_of w.code u (cell_at s b))) ≡ true → has_undone t c.entries ≡ true → ⊥
      settled t x y =
          let q = and_parts ((b == a) && (u == t)) (is_done_after w.code b (slice_of w.code u (cell_at s b))) x in
          let own = eqb-true u t (and_parts (b == a) (u == t) q.0).1 in
          let entries = (cell_at s b).entries in
          let done : c.entries ≡ map (done_in u) entries = ap (λ z. z.entries) is ∙ ap (λ v. if v then map (done_in u) entries else entries) q.1 in
          true≢false (sym y ∙ (ap (has_undone t) done ∙ (ap (λ n. has_undone n (map (done_in u) entries)) (sym own) ∙ done_owes_nothing u entries)))

  -- a PACT is closed
  closed_there : (u b : ℕ) → Asks asked w s (Close u b) → (o : Option Desk) (cascades a : ℕ) (c : Cell Rest) → b ≡ a → slice_get (after w (Close u b) s).cells a ≡ Some c → Among (on_changed (Close u b) o a c) es → CellTells asked cascades a c es
  unfolding after
  closed_there u b g o cascades a c same at more = record {
    run = λ t x y. runs_woken (Close u b) g o a c at more t x;
    send = λ t x y. no (g.touched (Send t a) x);
    end = λ t x y. no (g.touched (End t a) x);
    close = λ t x y. absurd (settled t (eqb-true u t (and_parts (b == a) (u == t) (g.touched (Close t a) x)).1) y);
    complete = λ k x y. completes_woken (Close u b) g o a c at more k x;
    rollback = λ x y. no (g.touched (Rollback a) x);
  }
    where
      settled : (t : ℕ) → u ≡ t → has_undone t c.entries ≡ true → ⊥
      settled t own y =
          let entries = (cell_at s b).entries in
          let is = got s.cells a b (pact_closed u (cell_at s b)) c at same in
          true≢false (sym y ∙ (ap (λ z. has_undone t z.entries) is ∙ (ap (λ n. has_undone n (map (done_in u) entries)) (sym own) ∙ done_owes_nothing u entries)))

  -- a batch is complete
  completed : (j b : ℕ) → Asks asked w s (Complete j b) → (o : Option Desk) (cascades a : ℕ) (c : Cell Rest) → slice_get (after w (Complete j b) s).cells a ≡ Some c → Among (on_changed (Complete j b) o a c) es → CellTells asked cascades a c es
  completed j b g o cascades a c at more = record {
    run = λ t x y. runs_woken (Complete j b) g o a c at more t x;
    send = λ t x y. no (g.touched (Send t a) x);
    end = λ t x y. no (g.touched (End t a) x);
    close = λ t x y. no (g.touched (Close t a) x);
    complete = λ k x y. completes_woken (Complete j b) g o a c at more k x;
    rollback = λ x y. no (g.touched (Rollback a) x);
  }

  -- an ACT leaves
  act_gone : (u b : ℕ) → Asks asked w s (Finish u b) → (o : Option Desk) (cascades a : ℕ) (c : Cell Rest) → slice_get (after w (Finish u b) s).cells a ≡ Some c → Among (on_changed (Finish u b) o a c) es → CellTells asked cascades a c es
  act_gone u b g o cascades a c at more = record {
    run = λ t x y. runs_woken (Finish u b) g o a c at more t x;
    send = λ t x y. absurd (g.refused (Send t a) x (finish_sends w u b s t a (g.allowed (Send t a) x)));
    end = λ t x y. absurd (g.refused (End t a) x (finish_ends w u b s t a (g.allowed (End t a) x)));
    close = λ t x y. absurd (g.refused (Close t a) x (finish_closes w u b s t a (g.allowed (Close t a) x)));
    complete = λ k x y. completes_woken (Finish u b) g o a c at more k x;
    rollback = λ x y. no (g.touched (Rollback a) x);
  }

  -- a settled batch leaves
  batch_gone : (j b : ℕ) → Asks asked w s (Trim j b) → (o : Option Desk) (cascades a : ℕ) (c : Cell Rest) → slice_get (after w (Trim j b) s).cells a ≡ Some c → Among (on_changed (Trim j b) o a c) es → CellTells asked cascades a c es
  batch_gone j b g o cascades a c at more = record {
    run = λ t x y. runs_woken (Trim j b) g o a c at more t x;
    send = λ t x y. no (g.touched (Send t a) x);
    end = λ t x y. no (g.touched (End t a) x);
    close = λ t x y. absurd (g.refused (Close t a) x (trim_closes w j b s t a (g.allowed (Close t a) x)));
    complete = λ k x y. completes_woken (Trim j b) g o a c at more k x;
    rollback = λ x y. no (g.touched (Rollback a) x);
  }

  module _ (ranges : AllByRecursion (BatchInRange w s) s.desk.batches) (enough : (cascades a : ℕ) (c : Cell Rest) → CellLists asked cascades a c es → CellTells asked cascades a c es) where
    all_told : (cascades a : ℕ) (c : Cell Rest) → slice_get h.cells a ≡ Some (Some c) → Among (on_place h a) es → CellTells asked cascades a c es
    all_told cascades a c shown among = enough cascades a c (cell_lists asked es cascades a c (λ f x. among f (subst (λ v. Contains v f) (sym (ap (of_place a) shown)) x)))

    here_told : (e : Event) → Asks asked w s e → Desked w (after w e s) h → (cascades a : ℕ) (c : Cell Rest) → here e a ≡ true → slice_get (after w e s).cells a ≡ Some c → slice_get h.cells a ≡ Some (Some c) → Among (cells_listed w.text e h) es → CellTells asked cascades a c es
    here_told (Arrive k b) g desked cascades a c q at shown more = arrived k b g h.desk (desk_stays k b desked.desk) cascades a c (eqb-true b a q) at (shown_among (Arrive k b) h.desk a b c (eqb-true b a q) shown more)
    here_told (Ask u b) g desked cascades a c q at shown more = asked_there u b g cascades a c (eqb-true b a q) more
    here_told (Run u b) g desked cascades a c q at shown more = ran u b g h.desk cascades a c (eqb-true b a q) at (shown_among (Run u b) h.desk a b c (eqb-true b a q) shown more)
    here_told (Close u b) g desked cascades a c q at shown more = closed_there u b g h.desk cascades a c (eqb-true b a q) at (shown_among (Close u b) h.desk a b c (eqb-true b a q) shown more)
    here_told (Complete j b) g desked cascades a c q at shown more = completed j b g h.desk cascades a c at (shown_among (Complete j b) h.desk a b c (eqb-true b a q) shown more)
    here_told (Rollback b) g desked cascades a c q at shown more = all_told cascades a c shown (subst (λ n. Among (on_place h n) es) (eqb-true b a q) more)
    here_told (Finish u b) g desked cascades a c q at shown more = act_gone u b g h.desk cascades a c at (shown_among (Finish u b) h.desk a b c (eqb-true b a q) shown more)
    here_told (Trim j b) g desked cascades a c q at shown more = batch_gone j b g h.desk cascades a c at (shown_among (Trim j b) h.desk a b c (eqb-true b a q) shown more)
    here_told _ g desked cascades a c q at shown more = no q

    plain_told : (e : Event) → is_plain e ≡ true → Asks asked w s e → Desked w (after w e s) h → (cascades a : ℕ) (c : Cell Rest) → a < length h.cells → slice_get (after w e s).cells a ≡ Some c → slice_get h.cells a ≡ Some (Some c) → Among (cells_listed w.text e h) es → CellTells asked cascades a c es
    plain_told e plain g desked cascades a c within at shown more = elim (cases_Bool (is_abort e)) [
      | inl z ↦ all_told cascades a c shown (abort_listed e a within z more)
      | inr z ↦ elim (cases_Bool (here e a)) [ inl q ↦ here_told e g desked cascades a c q at shown more | inr q ↦ told_away e g ranges desked cascades a c within at plain z q more ]
    ]

    cell_told : (e : Event) → Asks asked w s e → Desked w (after w e s) h → (cascades a : ℕ) (c : Cell Rest) → a < length h.cells → slice_get (after w e s).cells a ≡ Some c → slice_get h.cells a ≡ Some (Some c) → Among (cells_listed w.text e h) es → CellTells asked cascades a c es
    cell_told (Take u b) g desked cascades a c within at shown more = took u b g cascades a c more
    cell_told (Send u b) g desked cascades a c within at shown more = sent_on u b g cascades a c at
    cell_told (End u b) g desked cascades a c within at shown more = ended u b g desked cascades a c within at more
    cell_told _ g desked cascades a c within at shown more = plain_told _ refl g desked cascades a c within at shown more

-- ---- what the hand shows

cell_shows : (w : Fixed Rest) (h : Parts) (t : Machine Rest) → IsHandOf w h → IsWhole h → Fits h t → (a : ℕ) (c : Cell Rest) → a < length h.cells → slice_get t.cells a ≡ Some c → slice_get h.cells a ≡ Some (Some c)
cell_shows w h t places whole fits a c within at =
    let x = cell_is_there h whole w.text.logs a places.logs within in
    x.1 ∙ ap (λ z. Some (Some z)) (same_Some x.0 c (sym (fits.cells a x.0 x.1) ∙ at))

is_within : (w : Fixed Rest) (h : Parts) (t : Machine Rest) → IsHandOf w h → length t.cells ≡ length w.text.opening.states → (a : ℕ) (c : Cell Rest) → slice_get t.cells a ≡ Some c → a < length h.cells
is_within w h t places sizes a c at = subst (λ n. a < n) (sizes ∙ sym places.cells) (slice_get_within t.cells a c at)

pub all_cells_told : (w : Fixed Rest) (e : Event) (s : Machine Rest) (h : Parts) (es : List Event) → IsHandOf w h → IsWhole h → IsBehind w e s h
    → ((w : Fixed Rest) (e : Event) (s : Machine Rest) → (refusal w e s ≡ 0) ↔ IsAllowed w e s)
    → ((w : Fixed Rest) (e : Event) (s : Machine Rest) → HasRun w s → IsAllowed w e s → HasRun w (after w e s))
    → AfterEveryRun (UndoneHaveDeclared {C = Rest}) → AfterEveryRun (NumbersInRange {C = Rest}) → AfterEveryRun (SizesHold {C = Rest})
    → ((asked : Event → Bool) (cascades a : ℕ) (c : Cell Rest) (es : List Event) → CellLists asked cascades a c es → CellTells asked cascades a c es)
    → Among (cells_listed w.text e h) es → (a : ℕ) (c : Cell Rest) → slice_get (after w e s).cells a ≡ Some c → CellTells (is_new w e s) (epoch (after w e s).book) a c es
all_cells_told w e s h es places whole behind ruled goes owing ranges sizes enough more a c at =
    let run = behind.run in
    let next = goes w e s run behind.allowed in
    let ranged : NumbersInRange w s = subst (NumbersInRange w) (sym run.is_reached) (ranges w run.events run.text run.run) in
    let sized : SizesHold w (after w e s) = subst (SizesHold w) (sym next.is_reached) (sizes w next.events next.text next.run) in
    let within = is_within w h (after w e s) places sized.cells a c at in
    let desk = desk_there h whole in
    let desked : Desked w (after w e s) h = record {
      owing = subst (UndoneHaveDeclared w) (sym next.is_reached) (owing w next.events next.text next.run);
      desk = desk.1 ∙ ap Some (sym (behind.fits.desk desk.0 desk.1));
      cells = behind.fits.cells;
      there = λ b inside. cell_is_there h whole w.text.logs b places.logs inside;
    } in
    cell_told (is_new w e s) w s h es ranged.batches (λ cascades a c. enough (is_new w e s) cascades a c es) e (asks_of w e s ruled) desked (epoch (after w e s).book) a c within at
    (cell_shows w h (after w e s) places whole behind.fits a c within at) more

-- ---- what the code finds

pub not_there : (h : Parts) (a : ℕ) → nat_lt a (length h.cells) ≡ false → slice_get h.cells a ≡ None
not_there h a e = slice_get_past h.cells a (ltb-false a (length h.cells) e)
