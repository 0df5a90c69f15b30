-- Batches along an actor's schedule: they ascend, fit, and nobody stands there twice. Of states alone.
use Rattle.std.specs.Prelude.{◌≡◌, refl, ℕ, zero, suc, ◌<◌, ◌≤◌, ◌==◌, nat_lt, not, Bool, true, false, ◌||◌, if◌then◌else◌, Option, Some, None, is_some, List, [], ◌∷◌, ◌++◌, length, map, filter, slice_index_or}
use Rattle.std.specs.List.{AllByRecursion}
use Rattle.std.proofs.Common.{arith, sym, ap, subst, ◌∙◌}
use Rattle.std.proofs.lemmas.List.{append-nil}
use Rattle.std.proofs.lemmas.Bool.{ltb-true, true≢false, not-true}
use Rattle.protocol.specs.Cutting.{Ascends}
use Rattle.snap_base.specs.declared.transactions.State.{State}
use Rattle.protocol.specs.Rivals.{Lock}
use Rattle.protocol.specs.Fixed.{Fixed, base}
use Rattle.protocol.specs.Parts.{SubBatch, Cascade, OfBatch, OfAct, Entry, BatchEntry, ActEntry, Cell, Machine}
use Rattle.protocol.specs.Events.{Event, Form, Arrive, Ask, Take, Run, Send, End, Close, Complete, Settle, Abort, Rollback, Finish, Trim}
use Rattle.protocol.specs.Words.{epoch_of, sub_of, who_of, is_batch_entry, is_act_entry, has_act, batches_on, lock_of}
use Rattle.protocol.specs.Contents.{complete_mark}
use Rattle.protocol.specs.Conditions.{IsAllowed, conditions, epoch}
use Rattle.protocol.specs.Effects.{after, cell_at, no_cell}
use Rattle.protocol.specs.Runs.{opening, new_cell}
use Rattle.protocol.specs.OnBook as book
use Rattle.protocol.specs.OnCell as cell
use Rattle.protocol.specs.History.{Ran, Stands, long_staying, batches_in}
use Rattle.protocol_laws.specs.Tracks.{key_of, keys_in, is_key_among, Differ}
use Rattle.protocol_laws.specs.Places.{has_gone, FirmUpToGone, Places}
use Rattle.protocol_theorems.specs.Quiet.{NumbersRise}
use Rattle.protocol_laws.specs.FromDesk.{FromDesk}
use Rattle.protocol_laws.proofs.first.EpochsKept as epochs
use Rattle.protocol_laws.proofs.first.SettlingKept as settling
use Rattle.protocol_laws.proofs.machine.TrackLists
use Rattle.protocol_laws.proofs.machine.TracksKept.{held}
use Rattle.protocol_laws.proofs.machine.PlaceLists
use Rattle.protocol_laws.proofs.machine.PlacesKept.{message}
use Rattle.protocol_laws.proofs.machine.FromDeskKept as desk
use Rattle.protocol_theorems.proofs.quiet.ActsKnown.{one_of}
use Rattle.protocol_laws.proofs.machine.TrackLists.{entries_done}
use Rattle.protocol_theorems.proofs.sets.AfterSets.{among_all}

-- ---- a schedule as a long schedule that nobody has left

abbrev pub row : List Entry → List Ran
row [] = []
row (e ∷ es) = Stands (who_of e) (complete_mark e) [] ∷ row es

none_gone : (es : List Entry) → has_gone (row es) ≡ false
none_gone [] = refl
none_gone (e ∷ es) = none_gone es

row_firm : (n : ℕ) (cs : List Cascade) (es : List Entry) → FirmUpToGone n cs (row es)
row_firm n cs [] = tt
row_firm n cs (e ∷ es) = (λ q. absurd (true≢false (sym q ∙ none_gone es)), row_firm n cs es)

row_keys : (es : List Entry) → keys_in (row es) ≡ map key_of es
row_keys [] = refl
row_keys (e ∷ es) = ap (λ z. key_of e ∷ z) (row_keys es)

pub row_batches : (es : List Entry) → batches_in (row es) ≡ batches_on es
row_batches [] = refl
row_batches (BatchEntry b ∷ es) = ap (λ z. b.bid ∷ z) (row_batches es)
row_batches (ActEntry x ∷ es) = row_batches es

row_join : (es fs : List Entry) → row (es ++ fs) ≡ row es ++ row fs
row_join [] fs = refl
row_join (e ∷ es) fs = ap (λ z. Stands (who_of e) (complete_mark e) [] ∷ z) (row_join es fs)

row_staying : (cs : List Cascade) (es : List Entry) → row (cell.staying cs es) ≡ long_staying cs (row es)
row_staying cs [] = refl
row_staying cs (e ∷ es) = by (cell.is_cut cs (who_of e)) (row_staying cs es)
  where
    by : (v : Bool) → row (cell.staying cs es) ≡ long_staying cs (row es) → row (if v then [] else e ∷ cell.staying cs es) ≡ (if v then [] else Stands (who_of e) (complete_mark e) [] ∷ long_staying cs (row es))
    by true h = refl
    by false h = ap (λ z. Stands (who_of e) (complete_mark e) [] ∷ z) h

pub batches_done : (t : ℕ) (es : List Entry) → batches_on (map (cell.done_in t) es) ≡ batches_on es
batches_done t [] = refl
batches_done t (BatchEntry b ∷ es) = ap (λ z. b.bid ∷ z) (batches_done t es)
batches_done t (ActEntry x ∷ es) = batches_done t es

pub batches_complete : (k : ℕ) (es : List Entry) → batches_on (map (cell.complete_in k) es) ≡ batches_on es
batches_complete k [] = refl
batches_complete k (BatchEntry b ∷ es) = ap (λ z. b.bid ∷ z) (batches_complete k es)
batches_complete k (ActEntry x ∷ es) = batches_complete k es

pub batches_without_act : (t : ℕ) (es : List Entry) → batches_on (filter (λ e. not (is_act_entry t e)) es) ≡ batches_on es
batches_without_act t [] = refl
batches_without_act t (BatchEntry b ∷ es) = ap (λ z. b.bid ∷ z) (batches_without_act t es)
batches_without_act t (ActEntry x ∷ es) = by (x.tid == t) (batches_without_act t es)
  where
    by : (v : Bool) → batches_on (filter (λ e. not (is_act_entry t e)) es) ≡ batches_on es → batches_on (if not v then ActEntry x ∷ filter (λ e. not (is_act_entry t e)) es else filter (λ e. not (is_act_entry t e)) es) ≡ batches_on es
    by true h = h
    by false h = h

-- what holds of all batches holds without one of them
all_without : (P : ℕ → Type 0) (k : ℕ) (es : List Entry) → AllByRecursion P (batches_on es) → AllByRecursion P (batches_on (filter (λ e. not (is_batch_entry k e)) es))
all_without P k [] h = tt
all_without P k (ActEntry x ∷ es) h = all_without P k es h
all_without P k (BatchEntry b ∷ es) h = by (b.bid == k) (all_without P k es h.1)
  where
    by : (v : Bool) → AllByRecursion P (batches_on (filter (λ e. not (is_batch_entry k e)) es)) → AllByRecursion P (batches_on (if not v then BatchEntry b ∷ filter (λ e. not (is_batch_entry k e)) es else filter (λ e. not (is_batch_entry k e)) es))
    by true g = g
    by false g = (h.0, g)

ascends_without : (k : ℕ) (es : List Entry) → Ascends (batches_on es) → Ascends (batches_on (filter (λ e. not (is_batch_entry k e)) es))
ascends_without k [] h = tt
ascends_without k (ActEntry x ∷ es) h = ascends_without k es h
ascends_without k (BatchEntry b ∷ es) h = by (b.bid == k) (ascends_without k es h.1)
  where
    by : (v : Bool) → Ascends (batches_on (filter (λ e. not (is_batch_entry k e)) es)) → Ascends (batches_on (if not v then BatchEntry b ∷ filter (λ e. not (is_batch_entry k e)) es else filter (λ e. not (is_batch_entry k e)) es))
    by true g = g
    by false g = (all_without (λ j. b.bid < j) k es h.0, g)

-- ---- one cell

pub record RowAt (next n : ℕ) (cs : List Cascade) (epoch tail : ℕ) (es : List Entry) : Type 0 where
  pub places : Places next n cs epoch tail (row es)
  pub differ : Differ (map key_of es)

same_row : (next n : ℕ) (cs : List Cascade) (ep tail : ℕ) (es fs : List Entry) → batches_on fs ≡ batches_on es → Differ (map key_of fs) → RowAt next n cs ep tail es → RowAt next n cs ep tail fs
same_row next n cs ep tail es fs e d h = record { places = PlaceLists.same_batches next n cs ep tail (row es) (row fs) (row_batches fs ∙ (e ∙ sym (row_batches es))) (row_firm n cs fs) h.places; differ = d }

arrive : (next n : ℕ) (cs : List Cascade) (ep tail k : ℕ) (es : List Entry) (o : Option SubBatch) → is_some o ≡ true → k < next → epoch_of k cs ≡ ep → tail < k → RowAt next n cs ep tail es → RowAt next n cs ep k (es ++ cell.batch_entries k o)
arrive next n cs ep tail k es None i l e m h = absurd (true≢false (sym i))
arrive next n cs ep tail k es (Some x) i l e m h = record {
  places = rw (row_join es (cell.batch_entries k (Some x))) (PlaceLists.place_batch next n cs ep tail k (row es) l e m h.places);
  differ = rw (keys_join es (cell.batch_entries k (Some x))) (TrackLists.differ_more (record { who = OfBatch k; complete = false }) (map key_of es) (ap (is_key_among (OfBatch k)) (sym (row_keys es)) ∙ PlaceLists.none_among k next n cs ep tail (row es) e m h.places) h.differ);
}
  where
    keys_join : (es fs : List Entry) → map key_of (es ++ fs) ≡ map key_of es ++ map key_of fs
    keys_join [] fs = refl
    keys_join (e ∷ es) fs = ap (λ z. key_of e ∷ z) (keys_join es fs)

pub act_key : (t : ℕ) (es : List Entry) → is_key_among (OfAct t) (map key_of es) ≡ has_act t es
act_key t [] = refl
act_key t (BatchEntry b ∷ es) = act_key t es
act_key t (ActEntry x ∷ es) = ap (λ z. (x.tid == t) || z) (act_key t es)

ask : (next n : ℕ) (cs : List Cascade) (ep tail : ℕ) (t : Lock) (es : List Entry) (o : Option ℕ) → has_act t.tid es ≡ false → RowAt next n cs ep tail es → RowAt next n cs ep tail (es ++ cell.act_entries t o)
ask next n cs ep tail t es (Some x) e h = rw (append-nil es) h
ask next n cs ep tail t es None e h = record {
  places = rw (row_join es (cell.act_entries t None)) (PlaceLists.place_act next n cs ep tail t.tid (row es) h.places);
  differ = rw (keys_join es (cell.act_entries t None)) (TrackLists.differ_more (record { who = OfAct t.tid; complete = false }) (map key_of es) (act_key t.tid es ∙ e) h.differ);
}
  where
    keys_join : (es fs : List Entry) → map key_of (es ++ fs) ≡ map key_of es ++ map key_of fs
    keys_join [] fs = refl
    keys_join (e ∷ es) fs = ap (λ z. key_of e ∷ z) (keys_join es fs)

ran : (next n : ℕ) (cs : List Cascade) (ep tail t : ℕ) (v : Bool) (es : List Entry) → RowAt next n cs ep tail es → RowAt next n cs ep tail (if v then map (cell.done_in t) es else es)
ran next n cs ep tail t true es h = same_row next n cs ep tail es _ (batches_done t es) (subst Differ (sym (entries_done t es)) h.differ) h
ran next n cs ep tail t false es h = h

-- ---- every event

abbrev pub At : {C : Type 0} → Machine C → ℕ → Cell C → Type 0
At s a c = RowAt s.ring.next_bid s.desk.settled s.book.cascades c.epoch c.tail c.entries

unfoldable pub Rows : {C : Type 0} → Machine C → Type 0
Rows s = (a : ℕ) → At s a (cell_at s a)

pub rows_kept : {C : Type 0} (w : Fixed C) (e : Event) (s : Machine C) → IsAllowed w e s → epochs.Agreeing s → settling.Settling w s → Rows s → Rows (after w e s)
unfolding Rows conditions after
rows_kept w (Form k) s ok g t h = λ a. record { places = PlaceLists.form _ _ _ _ _ _ (h a).places; differ = (h a).differ }
rows_kept w (Arrive k a) s ok g t h = let m = message w k a s ok g in one_of (λ b c. At s b c) no_cell s.cells a _ (λ x. arrive _ _ _ _ _ k (cell_at s a).entries (sub_of k a s.post.subs) ok.0 m.formed m.own m.behind x) h
rows_kept w (Ask t a) s ok g u h = one_of (λ b c. At s b c) no_cell s.cells a _ (λ x. ask _ _ _ _ _ (lock_of t s.book.acts) (cell_at s a).entries (book.in_the_way (lock_of t s.book.acts) (cell_at s a).entries) (not-true (has_act t (cell_at s a).entries) (held (λ c. not (has_act t c.entries)) s.cells a no_cell ok.1.1.0)) x) h
rows_kept w (Take t a) s ok g u h = one_of (λ b c. At s b c) no_cell s.cells a _ (λ x. x) h
rows_kept w (Run t a) s ok g u h = one_of (λ b c. At s b c) no_cell s.cells a (cell.slice_run w.code t a (cell_at s a)) (λ x. ran _ _ _ _ _ t (cell.is_done_after w.code a (cell.slice_of w.code t (cell_at s a))) (cell_at s a).entries x) h
rows_kept w (Send t a) s ok g u h = one_of (λ b c. At s b c) no_cell s.cells a _ (λ x. x) h
rows_kept w (End t a) s ok g u h = one_of (λ b c. At s b c) no_cell s.cells a _ (λ x. x) h
rows_kept w (Close t a) s ok g u h = one_of (λ b c. At s b c) no_cell s.cells a _ (λ x. ran _ _ _ _ _ t true (cell_at s a).entries x) h
rows_kept w (Complete k a) s ok g u h = one_of (λ b c. At s b c) no_cell s.cells a _ (λ x. same_row _ _ _ _ _ (cell_at s a).entries _ (batches_complete k (cell_at s a).entries) (subst Differ (sym (TrackLists.entries_completed k (cell_at s a).entries)) (TrackLists.differ_completed k _ x.differ)) x) h
rows_kept w (Settle k) s ok g t h = λ a. record { places = PlaceLists.settle _ _ k _ _ _ _ (omega (arith, settling.settles_above w s k ok t)) (h a).places; differ = (h a).differ }
rows_kept w (Abort k) s ok g t h = λ a. record { places = PlaceLists.cascade _ _ _ _ _ _ _ refl (settling.aborts_above w s k ok t) (settling.firsts_at_most w s k ok t) (h a).places; differ = (h a).differ }
rows_kept w (Rollback a) s ok g t h = one_of (λ b c. At s b c) no_cell s.cells a _ (λ x. record {
  places = rw (row_staying s.book.cascades (cell_at s a).entries) (PlaceLists.roll_back _ _ _ _ _ _ (ltb-true _ _ (held (λ c. nat_lt c.epoch (epoch s.book)) s.cells a no_cell ok.0)) x.places);
  differ = subst Differ (sym (TrackLists.entries_staying s.book.cascades (cell_at s a).entries)) (TrackLists.differ_staying s.book.cascades _ x.differ);
}) h
rows_kept w (Finish t a) s ok g u h = one_of (λ b c. At s b c) no_cell s.cells a _ (λ x. same_row _ _ _ _ _ (cell_at s a).entries _ (batches_without_act t (cell_at s a).entries) (subst Differ (sym (TrackLists.entries_without_act t (cell_at s a).entries)) (TrackLists.differ_without (OfAct t) _ x.differ)) x) h
rows_kept w (Trim k a) s ok g u h = one_of (λ b c. At s b c) no_cell s.cells a (cell.batch_left k (cell_at s a)) (λ x. record {
  places = record {
    behind = x.places.behind;
    fit = rw (row_batches (filter (λ e. not (is_batch_entry k e)) (cell_at s a).entries)) (all_without _ k (cell_at s a).entries (subst (AllByRecursion _) (row_batches (cell_at s a).entries) x.places.fit));
    ascends = rw (row_batches (filter (λ e. not (is_batch_entry k e)) (cell_at s a).entries)) (ascends_without k (cell_at s a).entries (subst Ascends (row_batches (cell_at s a).entries) x.places.ascends));
    firm = row_firm _ _ (filter (λ e. not (is_batch_entry k e)) (cell_at s a).entries);
  };
  differ = subst Differ (sym (TrackLists.entries_without_batch k (cell_at s a).entries)) (TrackLists.differ_without (OfBatch k) _ x.differ);
}) h
rows_kept w e s ok g t h = h

empty_row : (next n : ℕ) (cs : List Cascade) (ep tail : ℕ) (es : List Entry) → es ≡ [] → ep ≤ length cs → RowAt next n cs ep tail es
empty_row next n cs ep tail es e l = subst (RowAt next n cs ep tail) (sym e) (record { places = record { behind = l; fit = tt; ascends = tt; firm = tt }; differ = tt })

pub rows_opened : {C : Type 0} (w : Fixed C) → Rows (opening w)
unfolding Rows
rows_opened {C} w = λ a. empty_row _ _ _ _ _ (cell_at (opening w) a).entries (none w.text.opening.states a) (least w.text.opening.states a)
  where
    none : (ss : List State) (a : ℕ) → (slice_index_or (map (new_cell {C = C} (base w.text)) ss) a no_cell).entries ≡ []
    none [] a = refl
    none (x ∷ xs) zero = refl
    none (x ∷ xs) (suc a) = none xs a

    least : (ss : List State) (a : ℕ) → (slice_index_or (map (new_cell {C = C} (base w.text)) ss) a no_cell).epoch ≤ 0
    least [] a = omega arith
    least (x ∷ xs) zero = omega arith
    least (x ∷ xs) (suc a) = least xs a

-- ---- for quiet states

rises_of : (ks : List ℕ) → Ascends ks → NumbersRise ks
rises_of [] h = tt
rises_of (k ∷ ks) h = (λ j i. among_all (λ j. k < j) j ks i h.0, rises_of ks h.1)

pub rises : {C : Type 0} (s : Machine C) → Rows s → (a : ℕ) → NumbersRise (batches_on (cell_at s a).entries)
unfolding Rows
rises s h a = rises_of (batches_on (cell_at s a).entries) (subst Ascends (row_batches (cell_at s a).entries) (h a).places.ascends)

pub differ : {C : Type 0} (s : Machine C) → Rows s → (a : ℕ) → Differ (map key_of (cell_at s a).entries)
unfolding Rows
differ s h a = (h a).differ

pub from_desk_kept : {C : Type 0} (w : Fixed C) (e : Event) (s : Machine C) → IsAllowed w e s → epochs.Agreeing s → Rows s → FromDesk s → FromDesk (after w e s)
from_desk_kept w e s ok g h f = desk.kept w e s (epochs.bids_below s g) (differ s h) ok f

pub from_desk_opened : {C : Type 0} (w : Fixed C) → FromDesk (opening w)
from_desk_opened {C} w = record {
  subs = tt;
  entries = λ a. subst (AllByRecursion (Rattle.protocol_laws.specs.FromDesk.EntryOf a [])) (sym (none w.text.opening.states a)) tt;
  in_order = λ a. subst Rattle.protocol_laws.specs.FromDesk.CompleteInOrder (sym (none w.text.opening.states a)) tt;
}
  where
    none : (ss : List State) (a : ℕ) → (slice_index_or (map (new_cell {C = C} (base w.text)) ss) a no_cell).entries ≡ []
    none [] a = refl
    none (x ∷ xs) zero = refl
    none (x ∷ xs) (suc a) = none xs a
