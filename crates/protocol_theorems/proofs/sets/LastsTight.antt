-- The last batch of an actor is one that was placed there, or base, event by event.
use Rattle.std.specs.Prelude.{◌≡◌, refl, ℕ, ◌≤◌, ◌==◌, max, Bool, true, false, ◌&&◌, ◌⊎◌, if◌then◌else◌, Option, Some, None, List, [], ◌∷◌, ◌++◌, map, slice_index_or, zero, suc}
use Rattle.std.proofs.Common.{arith, sym, ap, inl, inr, ◌∙◌}
use Rattle.std.proofs.lemmas.List.{append-nil}
use Rattle.std.proofs.lemmas.Bool.{eqb-true, and_parts, or_cases, true≢false}
use Rattle.snap_base.specs.declared.transactions.State.{State}
use Rattle.protocol.specs.Fixed.{Fixed, base}
use Rattle.protocol.specs.Parts.{Cascade, OfBatch, OfAct, Who, Entry, BatchEntry, ActEntry, Cell, Machine}
use Rattle.protocol.specs.Events.{Event, Arrive, Ask, Take, Run, Send, End, Close, Complete, Rollback, Finish, Trim}
use Rattle.protocol.specs.Words.{greatest, is_who, batches_on, act_of, sub_of, lock_of}
use Rattle.protocol.specs.Conditions.{IsAllowed, conditions, epoch}
use Rattle.protocol.specs.Effects.{after, cell_at, no_cell}
use Rattle.protocol.specs.Runs.{opening, new_cell}
use Rattle.protocol.specs.OnBook as book
use Rattle.protocol.specs.OnCell as cell
use Rattle.protocol.specs.OnCell.{is_cut}
use Rattle.protocol.specs.History.{History, Ran, Stands, Gone, no_history, grown, not_run, ran_in, completed, left_for_good, without_standing, long_staying, asks, batches_in, batch_in, is_traceless}
use Rattle.protocol_laws.specs.Tracks.{NoneGone, CutIsEnd}
use Rattle.protocol_laws.specs.Turns.{Turns}
use Rattle.protocol_laws.specs.Marks.{is_done}
use Rattle.protocol_laws.specs.Befores.{gone_in}
use Rattle.protocol_laws.proofs.machine.TrackLists
use Rattle.protocol_laws.proofs.machine.TracksKept.{beside, beside_same, in_range, arrives}
use Rattle.protocol_laws.proofs.machine.TurnLists
use Rattle.protocol_laws.proofs.machine.TurnsKept.{Turned}
use Rattle.protocol_laws.proofs.machine.PlaceLists
use Rattle.protocol_laws.proofs.machine.PlacesKept.{Placed}
use Rattle.protocol_laws.proofs.machine.BeforesKept as befores
use Rattle.protocol_laws.proofs.machine.ShowsKept as shows
use Rattle.protocol_laws.proofs.machine.OversKept.{greatest_join}

-- ---- lists

gone_within : (rs : List Ran) → greatest (gone_in rs) ≤ greatest (batches_in rs)
gone_within [] = omega arith
gone_within (Stands y c ss ∷ rs) = omega (arith, greatest_join (batch_in y) (batches_in rs), gone_within rs)
gone_within (Gone y ss ∷ rs) = omega (arith, greatest_join (batch_in y) (batches_in rs), greatest_join (batch_in y) (gone_in rs), gone_within rs)

none_gone : (rs : List Ran) → NoneGone rs → gone_in rs ≡ []
none_gone [] h = refl
none_gone (Stands y c ss ∷ rs) h = none_gone rs h
none_gone (Gone y ss ∷ rs) h = absurd h

gone_stays : (cs : List Cascade) (rs : List Ran) → CutIsEnd cs rs → gone_in (long_staying cs rs) ≡ gone_in rs
gone_stays cs [] h = refl
gone_stays cs (Stands y c ss ∷ rs) h = by (is_cut cs y) refl (gone_stays cs rs h.1)
  where
    by : (b : Bool) → is_cut cs y ≡ b → gone_in (long_staying cs rs) ≡ gone_in rs → gone_in (if b then [] else Stands y c ss ∷ long_staying cs rs) ≡ gone_in rs
    by true e r = sym (none_gone rs (h.0 e))
    by false e r = r
gone_stays cs (Gone y ss ∷ rs) h = ap (λ z. batch_in y ++ z) (gone_stays cs rs h)

on_within : (rs : List Ran) (es : List Entry) → Turns rs es → greatest (batches_on es) ≤ greatest (batches_in rs)
on_within [] [] t = omega arith
on_within [] (e ∷ es) t = absurd t
on_within (Gone y ss ∷ rs) es t = omega (arith, greatest_join (batch_in y) (batches_in rs), on_within rs es t)
on_within (Stands y c ss ∷ rs) [] t = absurd t
on_within (Stands (OfBatch j) c ss ∷ rs) (BatchEntry b ∷ es) t = let i : b.bid ≡ j = cc t.0 in omega (arith, i, on_within rs es t.2)
on_within (Stands (OfBatch j) c ss ∷ rs) (ActEntry x ∷ es) t = absurd (cc t.0)
on_within (Stands (OfAct u) c ss ∷ rs) (BatchEntry b ∷ es) t = absurd (cc t.0)
on_within (Stands (OfAct u) c ss ∷ rs) (ActEntry x ∷ es) t = on_within rs es t.2

-- who leaves is gone, and nobody comes back
gone_more : (who : Who) (rs : List Ran) → greatest (gone_in rs) ≤ greatest (gone_in (map (left_for_good who) rs))
gone_more who [] = omega arith
gone_more who (Stands y c ss ∷ rs) = by (is_who y who) (gone_more who rs)
  where
    by : (b : Bool) → greatest (gone_in rs) ≤ greatest (gone_in (map (left_for_good who) rs)) → greatest (gone_in rs) ≤ greatest (gone_in ((if b then Gone y ss else Stands y c ss) ∷ map (left_for_good who) rs))
    by true r = omega (arith, r, greatest_join (batch_in y) (gone_in (map (left_for_good who) rs)))
    by false r = r
gone_more who (Gone y ss ∷ rs) = omega (arith, gone_more who rs, greatest_join (batch_in y) (gone_in rs), greatest_join (batch_in y) (gone_in (map (left_for_good who) rs)))

is_batch : (k : ℕ) (y : Who) → is_who y (OfBatch k) ≡ true → greatest (batch_in y) ≡ k
is_batch k (OfBatch j) e = omega (arith, eqb-true j k e)
is_batch k (OfAct t) e = absurd (true≢false (sym e))

goes : (k : ℕ) (rs : List Ran) → is_done k rs ≡ true → k ≤ greatest (gone_in (map (left_for_good (OfBatch k)) rs))
goes k [] e = absurd (true≢false (sym e))
goes k (Stands y c ss ∷ rs) e = by (is_who y (OfBatch k)) refl (or_cases (c && is_who y (OfBatch k)) (is_done k rs) e) (goes k rs)
  where
    by : (b : Bool) → is_who y (OfBatch k) ≡ b → ((c && is_who y (OfBatch k)) ≡ true) ⊎ (is_done k rs ≡ true) → (is_done k rs ≡ true → k ≤ greatest (gone_in (map (left_for_good (OfBatch k)) rs))) → k ≤ greatest (gone_in ((if b then Gone y ss else Stands y c ss) ∷ map (left_for_good (OfBatch k)) rs))
    by true q h r = omega (arith, greatest_join (batch_in y) (gone_in (map (left_for_good (OfBatch k)) rs)), is_batch k y q)
    by false q (inl h) r = absurd (true≢false (sym (and_parts c (is_who y (OfBatch k)) h).1 ∙ q))
    by false q (inr h) r = r h
goes k (Gone y ss ∷ rs) e = elim (or_cases (is_who y (OfBatch k)) (is_done k rs) e) [
  | inl q ↦ omega (arith, greatest_join (batch_in y) (gone_in (map (left_for_good (OfBatch k)) rs)), is_batch k y q)
  | inr q ↦ omega (arith, greatest_join (batch_in y) (gone_in (map (left_for_good (OfBatch k)) rs)), goes k rs q)
]

-- ---- one actor

pub record Tight (first last trimmed : ℕ) (long : List Ran) : Type 0 where
  pub placed : last ≤ max first (greatest (batches_in long))
  pub gone : trimmed ≤ max first (greatest (gone_in long))

same : (first last trimmed : ℕ) (rs rs' : List Ran) → batches_in rs' ≡ batches_in rs → greatest (gone_in rs) ≤ greatest (gone_in rs') → Tight first last trimmed rs → Tight first last trimmed rs'
same first last trimmed rs rs' e f h = record { placed = rw e h.placed; gone = omega (arith, f, h.gone) }

abbrev pub At : {C : Type 0} → ℕ → ℕ → Cell C → List Ran → Type 0
At first a c long = Tight first c.last c.last_trimmed long

unfoldable pub Tights : {C : Type 0} → Fixed C → Machine C → History → Type 0
Tights w s h = (a : ℕ) → At (base w.text) a (cell_at s a) (h.long a)

ask : (first last trimmed t : ℕ) (o : Option ℕ) (rs : List Ran) → Tight first last trimmed rs → Tight first last trimmed (rs ++ map not_run (asks t o))
ask first last trimmed t None rs h = same first last trimmed rs (rs ++ not_run (OfAct t) ∷ []) (PlaceLists.batches_join rs (not_run (OfAct t) ∷ []) ∙ append-nil (batches_in rs)) (omega (arith, ap greatest (befores.gone_more (OfAct t) rs))) h
ask first last trimmed t (Some x) rs h = rw (append-nil rs) h

ran : (first last trimmed : ℕ) (who : Who) (x : Rattle.protocol.specs.History.Slice) (rs : List Ran) → Tight first last trimmed rs → Tight first last trimmed (map (ran_in who x) rs)
ran first last trimmed who x rs h = same first last trimmed rs (map (ran_in who x) rs) (PlaceLists.batches_ran who x rs) (omega (arith, ap greatest (befores.gone_ran who x rs))) h

finish : (first last trimmed t : ℕ) (q : Bool) (rs : List Ran) → Tight first last trimmed rs → Tight first last trimmed (if q then without_standing (OfAct t) rs else map (left_for_good (OfAct t)) rs)
finish first last trimmed t true rs h = same first last trimmed rs (without_standing (OfAct t) rs) (PlaceLists.batches_without_act t rs) (omega (arith, ap greatest (befores.gone_undone t rs))) h
finish first last trimmed t false rs h = same first last trimmed rs (map (left_for_good (OfAct t)) rs) (PlaceLists.batches_left (OfAct t) rs) (gone_more (OfAct t) rs) h

-- a batch that leaves is there
abbrev pub TrimsDone : {C : Type 0} → Event → Machine C → History → Type 0
TrimsDone (Trim k a) s h = is_done k (h.long a) ≡ true
TrimsDone _ s h = Unit {0}

pub tights_kept : {C : Type 0} (w : Fixed C) (e : Event) (s : Machine C) (h : History) → IsAllowed w e s → shows.Owed e s h → TrimsDone e s h → Placed w s h → Turned s h → Tights w s h → Tights w (after w e s) (grown w e s h)
unfolding Tights shows.Owed Placed Turned conditions after grown
tights_kept w (Arrive k a) s h ok o d p t g = beside (At (base w.text)) s.cells a _ _ h.long (arrives (epoch s.book) a (λ c. c.epoch == epoch s.book) s.cells (sub_of k a s.post.subs) ok.1.1.0)
    (λ y. record {
      placed = omega (arith, ap greatest (PlaceLists.batches_join (h.long a) (not_run (OfBatch k) ∷ [])), greatest_join (batches_in (h.long a)) (k ∷ []));
      gone = omega (arith, ap greatest (befores.gone_more (OfBatch k) (h.long a)), y.gone);
    }) g
tights_kept w (Ask u a) s h ok o d p t g = beside (At (base w.text)) s.cells a _ _ h.long (in_range _ s.cells a ok.1.1.0) (ask (base w.text) (cell_at s a).last (cell_at s a).last_trimmed u (book.in_the_way (lock_of u s.book.acts) (cell_at s a).entries) (h.long a)) g
tights_kept w (Take u a) s h ok o d p t g = beside_same (At (base w.text)) s.cells a _ h.long (in_range _ s.cells a ok.1.0) (λ y. y) g
tights_kept w (Run u a) s h ok o d p t g = beside (At (base w.text)) s.cells a _ _ h.long (in_range _ s.cells a ok.0) (λ y. TrackLists.on_reads (Tight (base w.text) (cell_at s a).last (cell_at s a).last_trimmed) (cell.reads_on u (cell_at s a).entries) _ _ (h.long a) (ran (base w.text) (cell_at s a).last (cell_at s a).last_trimmed _ _ (h.long a)) y) g
tights_kept w (Send u a) s h ok o d p t g = beside_same (At (base w.text)) s.cells a _ h.long (in_range _ s.cells a ok.0) (λ y. y) g
tights_kept w (End u a) s h ok o d p t g = beside_same (At (base w.text)) s.cells a _ h.long (in_range _ s.cells a ok.0) (λ y. y) g
tights_kept w (Close u a) s h ok o d p t g = beside_same (At (base w.text)) s.cells a _ h.long (in_range _ s.cells a ok.1.0) (λ y. y) g
tights_kept w (Complete k a) s h ok o d p t g = beside (At (base w.text)) s.cells a _ _ h.long (in_range _ s.cells a ok.0) (same (base w.text) (cell_at s a).last (cell_at s a).last_trimmed (h.long a) (map (completed k) (h.long a)) (PlaceLists.batches_completed k (h.long a)) (omega (arith, ap greatest (befores.gone_completed k (h.long a))))) g
tights_kept w (Rollback a) s h ok o d p t g = beside (At (base w.text)) s.cells a _ _ h.long (in_range _ s.cells a ok.0)
    (λ y. let e = gone_stays s.book.cascades (h.long a) (PlaceLists.cut_is_end s.desk.settled s.book.cascades (h.long a) (p a).firm) in record {
      placed = omega (arith, y.gone, ap greatest e, gone_within (long_staying s.book.cascades (h.long a)), on_within (long_staying s.book.cascades (h.long a)) (cell.staying s.book.cascades (cell_at s a).entries) (TurnLists.roll_back s.book.cascades (h.long a) (cell_at s a).entries (t a)));
      gone = omega (arith, y.gone, ap greatest e);
    }) g
tights_kept w (Finish u a) s h ok o d p t g = beside (At (base w.text)) s.cells a _ _ h.long o (finish (base w.text) (cell_at s a).last (cell_at s a).last_trimmed u (is_traceless (act_of u s.book.acts)) (h.long a)) g
tights_kept w (Trim k a) s h ok o d p t g = beside (At (base w.text)) s.cells a _ _ h.long o (λ y. record {
  placed = rw (PlaceLists.batches_left (OfBatch k) (h.long a)) y.placed;
  gone = omega (arith, y.gone, gone_more (OfBatch k) (h.long a), goes k (h.long a) d);
}) g
tights_kept w e s h ok o d p t g = g

pub tights_opened : {C : Type 0} (w : Fixed C) → Tights w (opening w) no_history
unfolding Tights
tights_opened {C} w = λ a. at w.text.opening.states a
  where
    at : (states : List State) (a : ℕ) → At (base w.text) a (slice_index_or (map (new_cell {C = C} (base w.text)) states) a no_cell) []
    at [] a = record { placed = omega arith; gone = omega arith }
    at (x ∷ xs) zero = record { placed = omega arith; gone = omega arith }
    at (x ∷ xs) (suc a) = at xs a
