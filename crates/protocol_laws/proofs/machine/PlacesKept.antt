-- Batches along the long schedules, and these beside the cells, after every run.
use Rattle.std.specs.Prelude.{◌≡◌, refl, ℕ, ◌<◌, ◌==◌, nat_lt, Bool, true, false, ◌&&◌, if◌then◌else◌, Option, Some, None, is_some, List, ◌++◌, length, map, find, slice_get}
use Rattle.std.proofs.Common.{arith, sym, ap, ◌∙◌}
use Rattle.std.proofs.lemmas.List.{append-nil}
use Rattle.std.proofs.lemmas.Bool.{eqb-true, ltb-true, and_parts, true≢false}
use Rattle.protocol.specs.Fixed.{Fixed}
use Rattle.protocol.specs.Parts.{SubBatch, OfBatch, OfAct, Entry, Cell, Machine}
use Rattle.protocol.specs.Events.{Event, Form, Arrive, Ask, Take, Run, Send, End, Close, Complete, Settle, Abort, Rollback, Finish, Trim}
use Rattle.protocol.specs.Words.{holds, epoch_of, is_entry_of, act_of, sub_of, lock_of}
use Rattle.protocol.specs.Contents.{complete_mark}
use Rattle.protocol.specs.Conditions.{IsAllowed, conditions, epoch}
use Rattle.protocol.specs.Effects.{after, cell_at, no_cell}
use Rattle.protocol.specs.OnBook as book
use Rattle.protocol.specs.OnCell as cell
use Rattle.protocol.specs.History.{History, Ran, grown, not_run, left_for_good, without_standing, asks, is_traceless, is_reader_act}
use Rattle.protocol_laws.specs.Tracks.{is_key_among, Bare}
use Rattle.protocol_laws.specs.Places.{FirmUpTo, Places}
use Rattle.protocol_laws.proofs.first.EpochsKept as epochs
use Rattle.protocol_laws.proofs.first.CellEpochs as cells
use Rattle.protocol_laws.proofs.first.SettlingKept as settling
use Rattle.protocol_laws.proofs.machine.TrackLists
use Rattle.protocol_laws.proofs.machine.TracksKept as tracks
use Rattle.protocol_laws.proofs.machine.TracksKept.{beside, beside_same, in_range, arrives}
use Rattle.protocol_laws.proofs.machine.PlaceLists
use Rattle.protocol_laws.proofs.first.Lists.{all_found}

-- What is taken from invariants of controls and of ACTs.
unfoldable pub Owed : {C : Type 0} → Fixed C → Event → Machine C → History → Type 0
-- a control in the inbox is of an entry that is not complete
Owed w (Run t a) s h = ((e : Entry) → find (is_entry_of t) (cell_at s a).entries ≡ Some e → complete_mark e ≡ false) × tracks.LeavesIt w t a s
-- an ACT that leaves sealed has only batches ahead of it that are firm; a reader has nothing there
Owed w (Finish t a) s h = (a < length s.cells) × (is_traceless (act_of t s.book.acts) ≡ false → FirmUpTo s.desk.settled s.book.cascades (OfAct t) (h.long a)) × (is_reader_act (act_of t s.book.acts) ≡ true → Bare (OfAct t) (h.long a))
Owed w (Trim k a) s h = a < length s.cells
Owed w _ s h = Unit {0}

abbrev pub At : {C : Type 0} → Machine C → ℕ → Cell C → List Ran → Type 0
At s a c long = Places s.ring.next_bid s.desk.settled s.book.cascades c.epoch c.tail long

unfoldable pub Placed : {C : Type 0} → Fixed C → Machine C → History → Type 0
Placed w s h = (a : ℕ) → At s a (cell_at s a) (h.long a)

-- the message, and its place: of the cell's epoch, behind the tail
pub record Arrives {C : Type 0} (s : Machine C) (k a : ℕ) : Type 0 where
  pub formed : k < s.ring.next_bid
  pub own : epoch_of k s.book.cascades ≡ (cell_at s a).epoch
  pub behind : (cell_at s a).tail < k

pub message : {C : Type 0} (w : Fixed C) (k a : ℕ) (s : Machine C) → IsAllowed w (Arrive k a) s → epochs.Agreeing s → Arrives s k a
unfolding conditions
message {C} w k a s ok h = by (sub_of k a s.post.subs) refl ok.0 ok.1.1.0 ok.1.1.1.0
  where
    by : (o : Option SubBatch) → sub_of k a s.post.subs ≡ o → is_some o ≡ true
        → holds (λ m. (m.epoch == epoch s.book) && holds (λ c. c.epoch == epoch s.book) (slice_get s.cells a)) o ≡ true
        → holds (λ m. holds (λ c. m.prev == c.tail) (slice_get s.cells a)) o ≡ true → Arrives s k a
    by None e p q r = absurd (true≢false (sym p))
    by (Some m) e p q r =
        let f = all_found (epochs.NamesIn s) (λ x. (x.bid == k) && (x.actor == a)) s.post.subs m (epochs.names_in s h) e in
        let n = epochs.named s m f.0 in
        let i : m.bid ≡ k = eqb-true m.bid k (and_parts (m.bid == k) (m.actor == a) f.1).0 in
        let v = and_parts (m.epoch == epoch s.book) (holds (λ c. c.epoch == epoch s.book) (slice_get s.cells a)) q in
        let own : (cell_at s a).epoch ≡ epoch s.book = eqb-true (cell_at s a).epoch (epoch s.book) (cells.held (λ c. c.epoch == epoch s.book) s.cells a no_cell v.1) in
        record {
          formed = omega (arith, n.0, i);
          own = ap (λ z. epoch_of z s.book.cascades) (sym i) ∙ (sym n.1 ∙ (eqb-true m.epoch (epoch s.book) v.0 ∙ sym own));
          behind = omega (arith, epochs.prev_less s m f.0, i, eqb-true m.prev (cell_at s a).tail (cells.held (λ c. m.prev == c.tail) s.cells a no_cell r));
        }

pub record Known {C : Type 0} (w : Fixed C) (s : Machine C) : Type 0 where
  pub agreeing : epochs.Agreeing s
  pub settling : settling.Settling w s

ask : {C : Type 0} (s : Machine C) (t a : ℕ) (o : Option ℕ) (c : Cell C) (long : List Ran) → At s a c long → At s a c (long ++ map not_run (asks t o))
ask s t a None c long h = PlaceLists.place_act _ _ _ _ _ t long h
ask s t a (Some older) c long h = rw (append-nil long) h

finish : {C : Type 0} (s : Machine C) (t a : ℕ) (b : Bool) (c : Cell C) (long : List Ran) → (b ≡ false → FirmUpTo s.desk.settled s.book.cascades (OfAct t) long) → At s a c long
    → At s a c (if b then without_standing (OfAct t) long else map (left_for_good (OfAct t)) long)
finish s t a true c long f h = PlaceLists.same_batches _ _ _ _ _ long _ (PlaceLists.batches_without_act t long) (PlaceLists.firm_without _ _ (OfAct t) long h.firm) h
finish s t a false c long f h = PlaceLists.same_batches _ _ _ _ _ long _ (PlaceLists.batches_left (OfAct t) long) (PlaceLists.firm_left _ _ (OfAct t) long (f refl) h.firm) h

pub placed_kept : {C : Type 0} (w : Fixed C) (e : Event) (s : Machine C) (h : History) → IsAllowed w e s → Owed w e s h → Known w s → Placed w s h → Placed w (after w e s) (grown w e s h)
unfolding Placed Owed conditions after grown
placed_kept w (Form k) s h ok more n g = λ a. PlaceLists.form _ _ _ _ _ (h.long a) (g a)
placed_kept w (Arrive k a) s h ok more n g =
    let m = message w k a s ok n.agreeing in
    beside (At s) s.cells a _ _ h.long (arrives (epoch s.book) a (λ c. c.epoch == epoch s.book) s.cells (sub_of k a s.post.subs) ok.1.1.0) (λ x. PlaceLists.place_batch _ _ _ _ _ k (h.long a) m.formed m.own m.behind x) g
placed_kept w (Ask t a) s h ok more n g = beside (At s) s.cells a _ _ h.long (in_range _ s.cells a ok.1.1.0) (ask s t a (book.in_the_way (lock_of t s.book.acts) (cell_at s a).entries) (cell_at s a) (h.long a)) g
placed_kept w (Take t a) s h ok more n g = beside_same (At s) s.cells a _ h.long (in_range _ s.cells a ok.1.0) (λ x. x) g
placed_kept w (Run t a) s h ok more n g =
    beside (At s) s.cells a _ _ h.long (in_range _ s.cells a ok.0) (TrackLists.on_reads (At s a (cell_at s a)) (cell.reads_on t (cell_at s a).entries) _ _ (h.long a) (λ x. PlaceLists.same_batches _ _ _ _ _ (h.long a) _ (PlaceLists.batches_ran _ _ (h.long a)) (PlaceLists.firm_ran _ _ _ _ (h.long a) x.firm) x)) g
placed_kept w (Send t a) s h ok more n g = beside_same (At s) s.cells a _ h.long (in_range _ s.cells a ok.0) (λ x. x) g
placed_kept w (End t a) s h ok more n g = beside_same (At s) s.cells a _ h.long (in_range _ s.cells a ok.0) (λ x. x) g
placed_kept w (Close t a) s h ok more n g = beside_same (At s) s.cells a _ h.long (in_range _ s.cells a ok.1.0) (λ x. x) g
placed_kept w (Complete k a) s h ok more n g =
    beside (At s) s.cells a _ _ h.long (in_range _ s.cells a ok.0) (λ x. PlaceLists.same_batches _ _ _ _ _ (h.long a) _ (PlaceLists.batches_completed k (h.long a)) (PlaceLists.firm_completed _ _ k (h.long a) x.firm) x) g
placed_kept w (Settle k) s h ok more n g = λ a. PlaceLists.settle _ _ k _ _ _ (h.long a) (omega (arith, settling.settles_above w s k ok n.settling)) (g a)
placed_kept w (Abort k) s h ok more n g = λ a. PlaceLists.cascade _ _ _ _ _ _ (h.long a) refl (settling.aborts_above w s k ok n.settling) (settling.firsts_at_most w s k ok n.settling) (g a)
placed_kept w (Rollback a) s h ok more n g =
    beside (At s) s.cells a _ _ h.long (in_range _ s.cells a ok.0) (λ x. PlaceLists.roll_back _ _ _ _ _ (h.long a) (ltb-true _ _ (cells.held (λ c. nat_lt c.epoch (epoch s.book)) s.cells a no_cell ok.0)) x) g
placed_kept w (Finish t a) s h ok more n g = beside (At s) s.cells a _ _ h.long more.0 (finish s t a (is_traceless (act_of t s.book.acts)) (cell_at s a) (h.long a) more.1) g
placed_kept w (Trim k a) s h ok more n g =
    let f = settling.trims_settled w s k a ok n.settling in
    beside (At s) s.cells a _ _ h.long more (λ x. PlaceLists.leave_batch _ _ _ _ _ k (h.long a) f.0 f.1 x) g
placed_kept w e s h ok more n g = g

-- ---- both

pub record Together {C : Type 0} (w : Fixed C) (s : Machine C) (h : History) : Type 0 where
  pub agreeing : epochs.Agreeing s
  pub settling : settling.Settling w s
  pub placed : Placed w s h
  pub tracked : tracks.Tracked w s h

-- what the long schedules owe
owed : {C : Type 0} (w : Fixed C) (e : Event) (s : Machine C) (h : History) → IsAllowed w e s → Owed w e s h → Together w s h → tracks.Assumed w e s h
unfolding Owed Placed tracks.Assumed tracks.Tracked conditions
owed w (Arrive k a) s h ok more g =
    let m = message w k a s ok g.agreeing in
    ap (is_key_among (OfBatch k)) (g.tracked a).stands ∙ PlaceLists.none_among k _ _ _ _ _ (h.long a) m.own m.behind (g.placed a)
owed w (Run t a) s h ok more g = more
owed w (Rollback a) s h ok more g = PlaceLists.cut_is_end s.desk.settled s.book.cascades (h.long a) (g.placed a).firm
owed w (Finish t a) s h ok more g = (more.0, more.2)
owed w (Trim k a) s h ok more g = more
owed w e s h ok more g = tt

pub kept : {C : Type 0} (w : Fixed C) (e : Event) (s : Machine C) (h : History) → IsAllowed w e s → Owed w e s h → Together w s h → Together w (after w e s) (grown w e s h)
kept w e s h ok more g = record {
  agreeing = epochs.kept w e s ok g.agreeing;
  settling = settling.kept w e s ok g.settling;
  placed = placed_kept w e s h ok more (record { agreeing = g.agreeing; settling = g.settling }) g.placed;
  tracked = tracks.kept w e s h ok (owed w e s h ok more g) g.tracked;
}
