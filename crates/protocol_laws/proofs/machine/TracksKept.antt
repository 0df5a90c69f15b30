-- The long schedules of all actors, event by event.
use Rattle.std.specs.Prelude.{◌≡◌, refl, ℕ, zero, suc, ◌<◌, ◌==◌, not, Bool, true, false, ◌&&◌, ◌||◌, if◌then◌else◌, Option, Some, None, is_some, List, [], ◌∷◌, ◌++◌, length, map, filter, find, slice_get, slice_index_or, slice_set}
use Rattle.std.specs.List.{list_all}
use Rattle.std.proofs.Common.{arith, sym, ap, subst, inl, inr, ◌∙◌}
use Rattle.std.proofs.lemmas.List.{append-nil, get_or-set_same, get_or-set_other}
use Rattle.std.proofs.lemmas.Bool.{eqb-true, eqb-false, and_parts, true≢false, cases_Bool}
use Rattle.snap_base.specs.declared.transactions.State.{State}
use Rattle.protocol.specs.Fixed.{Fixed, no_state}
use Rattle.protocol.specs.Rivals.{Lock}
use Rattle.protocol.specs.Parts.{Book, SubBatch, ControlMessage, OfBatch, OfAct, Entry, BatchEntry, ActEntry, Image, Cell, Machine}
use Rattle.protocol.specs.Events.{Event, Arrive, Ask, Take, Run, Send, End, Close, Complete, Rollback, Finish, Trim}
use Rattle.protocol.specs.Words.{holds, control_of, who_on, is_who, is_entry_of, is_clear, is_over_for, ahead, has_act, is_reader_entry, image_of, act_of, sub_of, lock_of}
use Rattle.protocol.specs.Contents.{complete_mark}
use Rattle.protocol.specs.Conditions.{IsAllowed, conditions, epoch}
use Rattle.protocol.specs.Effects.{after, cell_at, no_cell}
use Rattle.protocol.specs.OnBook as book
use Rattle.protocol.specs.OnCell as cell
use Rattle.protocol.specs.OnCell.{is_entry_among, state_from}
use Rattle.protocol.specs.History.{History, Ran, grown, with_at, not_run, ran_on, left_for_good, without_standing, long_staying, asks, Slice, is_reader_act, is_traceless}
use Rattle.protocol_laws.specs.Tracks.{Key, key_of, is_key_among, Tracks, CutIsEnd, Bare}
use Rattle.protocol_laws.proofs.machine.TrackLists
pub use Rattle.protocol_laws.proofs.first.CellEpochs.{held}

-- ---- one cell and what is carried of its actor

pub beside : {C X : Type 0} (P : ℕ → Cell C → X → Type 0) (cells : List (Cell C)) (a : ℕ) (c : Cell C) (new : X) (long : ℕ → X) → a < length cells
    → (P a (slice_index_or cells a no_cell) (long a) → P a c new)
    → ((b : ℕ) → P b (slice_index_or cells b no_cell) (long b)) → (b : ℕ) → P b (slice_index_or (slice_set cells a c) b no_cell) (with_at a new long b)
beside P cells a c new long r k h b = elim (cases_Bool (b == a)) [
  | inl e ↦ let q : b ≡ a = eqb-true b a e in rw e (subst (λ z. P z (slice_index_or (slice_set cells a c) z no_cell) new) (sym q) (rw (get_or-set_same cells a c no_cell r) (k (h a))))
  | inr e ↦ rw (e, get_or-set_other cells a b c no_cell (eqb-false b a e)) (h b)
]

-- where what is carried stays
pub beside_same : {C X : Type 0} (P : ℕ → Cell C → X → Type 0) (cells : List (Cell C)) (a : ℕ) (c : Cell C) (long : ℕ → X) → a < length cells
    → (P a (slice_index_or cells a no_cell) (long a) → P a c (long a))
    → ((b : ℕ) → P b (slice_index_or cells b no_cell) (long b)) → (b : ℕ) → P b (slice_index_or (slice_set cells a c) b no_cell) (long b)
beside_same P cells a c long r k h b = elim (cases_Bool (b == a)) [
  | inl e ↦ let q : b ≡ a = eqb-true b a e in subst (λ z. P z (slice_index_or (slice_set cells a c) z no_cell) (long z)) (sym q) (rw (get_or-set_same cells a c no_cell r) (k (h a)))
  | inr e ↦ rw (get_or-set_other cells a b c no_cell (eqb-false b a e)) (h b)
]

pub in_range : {X : Type 0} (p : X → Bool) (xs : List X) (a : ℕ) → holds p (slice_get xs a) ≡ true → a < length xs
in_range p [] a h = absurd (true≢false (sym h))
in_range p (x ∷ xs) zero h = omega arith
in_range p (x ∷ xs) (suc a) h = omega (arith, in_range p xs a h)

-- ---- what is tracked

abbrev pub At : {C : Type 0} → Fixed C → ℕ → Cell C → List Ran → Type 0
At w a c long = Tracks (slice_index_or w.text.opening.states a no_state) (map key_of c.entries) c.images c.state long

unfoldable pub Tracked : {C : Type 0} → Fixed C → Machine C → History → Type 0
Tracked w s h = (a : ℕ) → At w a (cell_at s a) (h.long a)

-- a slice of a reader leaves the state that it found
abbrev pub LeavesIt : {C : Type 0} → Fixed C → ℕ → ℕ → Machine C → Type 0
LeavesIt w t a s = cell.reads_on t (cell_at s a).entries ≡ true → (cell.slice_run w.code t a (cell_at s a)).state ≡ (cell_at s a).state

-- What is taken from other invariants.
unfoldable pub Assumed : {C : Type 0} → Fixed C → Event → Machine C → History → Type 0
-- a batch that arrives is not there
Assumed w (Arrive k a) s h = is_key_among (OfBatch k) (map key_of (cell_at s a).entries) ≡ false
-- a control in the inbox is of an entry that is not complete
Assumed w (Run t a) s h = ((e : Entry) → find (is_entry_of t) (cell_at s a).entries ≡ Some e → complete_mark e ≡ false) × LeavesIt w t a s
-- nothing behind an aborted batch left for good
Assumed w (Rollback a) s h = CutIsEnd s.book.cascades (h.long a)
-- they are actors; and a reader has nothing there
Assumed w (Finish t a) s h = (a < length s.cells) × (is_reader_act (act_of t s.book.acts) ≡ true → Bare (OfAct t) (h.long a))
Assumed w (Trim k a) s h = a < length s.cells
Assumed w _ s h = Unit {0}

-- the same keys, images and state
same_keys : {first : State} {ks ks' : List Key} {is : List Image} {now : State} {long : List Ran} → ks' ≡ ks → Tracks first ks is now long → Tracks first ks' is now long
same_keys e h = rw e h

-- ---- the events

arrive : {C : Type 0} (w : Fixed C) (k a : ℕ) (o : Option SubBatch) (c : Cell C) (long : List Ran) → is_some o ≡ true → is_key_among (OfBatch k) (map key_of c.entries) ≡ false
    → At w a c long → At w a (cell.batch_placed k o c) (long ++ not_run (OfBatch k) ∷ [])
arrive w k a None c long e n h = absurd (true≢false (sym e))
arrive w k a (Some m) c long e n h = same_keys (TrackLists.entries_join c.entries (cell.batch_entries k (Some m))) (TrackLists.more _ _ _ _ long (OfBatch k) n h)

pub act_not_among : (t : ℕ) (es : List Entry) → not (has_act t es) ≡ true → is_key_among (OfAct t) (map key_of es) ≡ false
act_not_among t [] h = refl
act_not_among t (BatchEntry b ∷ es) h = act_not_among t es h
act_not_among t (ActEntry x ∷ es) h = by (x.tid == t) h (act_not_among t es)
  where
    by : (b : Bool) → not (b || has_act t es) ≡ true → (not (has_act t es) ≡ true → is_key_among (OfAct t) (map key_of es) ≡ false) → (b || is_key_among (OfAct t) (map key_of es)) ≡ false
    by true q k = absurd (true≢false (sym q))
    by false q k = k q

ask : {C : Type 0} (w : Fixed C) (t : Lock) (a : ℕ) (o : Option ℕ) (m : Option (ControlMessage C)) (c : Cell C) (long : List Ran) → not (has_act t.tid c.entries) ≡ true
    → At w a c long → At w a (cell.act_placed t o m c) (long ++ map not_run (asks t.tid o))
ask w t a None m c long e h = same_keys (TrackLists.entries_join c.entries (cell.act_entries t None)) (TrackLists.more _ _ _ _ long (OfAct t.tid) (act_not_among t.tid c.entries e) h)
ask w t a (Some older) m c long e h = rw (append-nil long, append-nil c.entries) h

-- the transaction's place is there, and nothing is ahead of it
clear : {C : Type 0} (t : ℕ) (c : Cell C) → cell.reads_on t c.entries ≡ false → is_clear t c.entries ≡ true → ((e : Entry) → find (is_entry_of t) c.entries ≡ Some e → complete_mark e ≡ false) → TrackLists.IsTop (who_on t c.entries) (map key_of c.entries)
clear t c r h n = by (find (is_entry_of t) c.entries) refl h
  where
    by : (o : Option Entry) → find (is_entry_of t) c.entries ≡ o → holds (λ own. list_all (is_over_for own) (ahead (is_entry_of t) c.entries)) o ≡ true → TrackLists.IsTop (who_on t c.entries) (map key_of c.entries)
    by None e q = absurd (true≢false (sym q))
    by (Some x) e q = TrackLists.top_from t x x c.entries (subst (λ z. holds is_reader_entry z ≡ false) e r) q e (n x e)

run : {C : Type 0} (w : Fixed C) (t a : ℕ) (c : Cell C) (long : List Ran) → is_clear t c.entries ≡ true → ((e : Entry) → find (is_entry_of t) c.entries ≡ Some e → complete_mark e ≡ false)
    → (cell.reads_on t c.entries ≡ true → (cell.slice_run w.code t a c).state ≡ c.state)
    → At w a c long → At w a (cell.slice_run w.code t a c) (ran_on (cell.reads_on t c.entries) (who_on t c.entries) (record { tid = t; found = c.state; left = (cell.slice_run w.code t a c).state }) long)
run w t a c long q n r h = same_keys (by (cell.is_done_after w.code a (cell.slice_of w.code t c))) (track (cell.reads_on t c.entries) refl)
  where
    first : State
    first = slice_index_or w.text.opening.states a no_state

    ran : Slice
    ran = record { tid = t; found = c.state; left = (cell.slice_run w.code t a c).state }

    track : (b : Bool) → cell.reads_on t c.entries ≡ b → Tracks first (map key_of c.entries) (cell.images_after b (who_on t c.entries) c.state c.images) (cell.slice_run w.code t a c).state (ran_on b (who_on t c.entries) ran long)
    track true e = subst (λ z. Tracks first (map key_of c.entries) c.images z long) (sym (r e)) h
    track false e = TrackLists.run _ _ _ c.state long (who_on t c.entries) ran (clear t c e q n) refl h

    by : (b : Bool) → map key_of (if b then map (cell.done_in t) c.entries else c.entries) ≡ map key_of c.entries
    by true = TrackLists.entries_done t c.entries
    by false = refl

pub filter_same : {X : Type 0} (p q : X → Bool) (xs : List X) → ((x : X) → p x ≡ q x) → filter p xs ≡ filter q xs
filter_same p q [] h = refl
filter_same p q (x ∷ xs) h = rw (h x, filter_same p q xs h) refl

find_same : {X : Type 0} (p q : X → Bool) (xs : List X) → ((x : X) → p x ≡ q x) → find p xs ≡ find q xs
find_same p q [] h = refl
find_same p q (x ∷ xs) h = rw (h x, find_same p q xs h) refl

pub rollback : {C : Type 0} (w : Fixed C) (a : ℕ) (b : Book) (c : Cell C) (long : List Ran) → CutIsEnd b.cascades long → At w a c long → At w a (cell.rolled_back b.cascades c) (long_staying b.cascades long)
rollback w a b c long n h =
    let g = TrackLists.roll_back b.cascades _ (map key_of c.entries) c.images c.state long n h in
    rw (
      TrackLists.entries_staying b.cascades c.entries,
      filter_same (λ i. not (is_entry_among i.who (cell.going b.cascades c.entries))) (λ i. not (TrackLists.goes (TrackLists.keys_going b.cascades (map key_of c.entries)) i)) c.images (λ i. ap not (TrackLists.among_going b.cascades i.who c.entries)),
      find_same (λ i. is_entry_among i.who (cell.going b.cascades c.entries)) (TrackLists.goes (TrackLists.keys_going b.cascades (map key_of c.entries))) c.images (λ i. TrackLists.among_going b.cascades i.who c.entries),
    ) g

pub finish : {C : Type 0} (w : Fixed C) (t a : ℕ) (b : Book) (c : Cell C) (long : List Ran) → (is_reader_act (act_of t b.acts) ≡ true → Bare (OfAct t) long) → At w a c long
    → At w a (cell.act_left t (act_of t b.acts) c) (if is_traceless (act_of t b.acts) then without_standing (OfAct t) long else map (left_for_good (OfAct t)) long)
finish {C} w t a b c long r h = same_keys (TrackLists.entries_without_act t c.entries) (by (cell.is_undone_act (act_of t b.acts)) (is_reader_act (act_of t b.acts)) refl)
  where
    first : State
    first = slice_index_or w.text.opening.states a no_state

    undone : Tracks first (TrackLists.keys_without (OfAct t) (map key_of c.entries)) (filter (λ i. not (is_who (OfAct t) i.who)) c.images) (state_from c.state (image_of (OfAct t) c.images)) (without_standing (OfAct t) long)
    undone = TrackLists.undo _ _ _ _ long (OfAct t) (TrackLists.acts_not_complete t c.entries) h

    none : Bare (OfAct t) long → image_of (OfAct t) c.images ≡ None
    none e = ap (image_of (OfAct t)) h.images_are ∙ TrackLists.bare_image (OfAct t) long e

    by : (q v : Bool) → is_reader_act (act_of t b.acts) ≡ v → Tracks first (TrackLists.keys_without (OfAct t) (map key_of c.entries)) (filter (λ i. not (is_who (OfAct t) i.who)) c.images) (if q then state_from c.state (image_of (OfAct t) c.images) else c.state) (if q || v then without_standing (OfAct t) long else map (left_for_good (OfAct t)) long)
    by true v e = undone
    by false true e = subst (λ o. Tracks first (TrackLists.keys_without (OfAct t) (map key_of c.entries)) (filter (λ i. not (is_who (OfAct t) i.who)) c.images) (state_from c.state o) (without_standing (OfAct t) long)) (none (r e)) undone
    by false false e = TrackLists.leave _ _ _ _ long (OfAct t) h

pub arrives : {C : Type 0} (n a : ℕ) (p : Cell C → Bool) (cells : List (Cell C)) (o : Option SubBatch) → holds (λ m. (m.epoch == n) && holds p (slice_get cells a)) o ≡ true → a < length cells
arrives n a p cells None h = absurd (true≢false (sym h))
arrives n a p cells (Some m) h = in_range p cells a (and_parts (m.epoch == n) (holds p (slice_get cells a)) h).1

pub kept : {C : Type 0} (w : Fixed C) (e : Event) (s : Machine C) (h : History) → IsAllowed w e s → Assumed w e s h → Tracked w s h → Tracked w (after w e s) (grown w e s h)
unfolding Tracked Assumed conditions after grown
kept w (Arrive k a) s h ok more g =
    beside (At w) s.cells a _ _ h.long (arrives (epoch s.book) a (λ c. c.epoch == epoch s.book) s.cells (sub_of k a s.post.subs) ok.1.1.0) (arrive w k a (sub_of k a s.post.subs) (cell_at s a) (h.long a) ok.0 more) g
kept w (Ask t a) s h ok more g =
    beside (At w) s.cells a _ _ h.long (in_range _ s.cells a ok.1.1.0) (ask w (lock_of t s.book.acts) a (book.in_the_way (lock_of t s.book.acts) (cell_at s a).entries) (control_of t s.post.controls) (cell_at s a) (h.long a) (held (λ c. not (has_act t c.entries)) s.cells a no_cell ok.1.1.0)) g
kept w (Take t a) s h ok more g = beside_same (At w) s.cells a _ h.long (in_range _ s.cells a ok.1.0) (λ x. x) g
kept w (Run t a) s h ok more g =
    beside (At w) s.cells a _ _ h.long (in_range _ s.cells a ok.0) (run w t a (cell_at s a) (h.long a) (held (λ c. is_clear t c.entries) s.cells a no_cell ok.1.0) more.0 more.1) g
kept w (Send t a) s h ok more g = beside_same (At w) s.cells a _ h.long (in_range _ s.cells a ok.0) (λ x. x) g
kept w (End t a) s h ok more g = beside_same (At w) s.cells a _ h.long (in_range _ s.cells a ok.0) (λ x. x) g
kept w (Close t a) s h ok more g = beside_same (At w) s.cells a _ h.long (in_range _ s.cells a ok.1.0) (same_keys (TrackLists.entries_done t (cell_at s a).entries)) g
kept w (Complete k a) s h ok more g =
    beside (At w) s.cells a _ _ h.long (in_range _ s.cells a ok.0) (λ x. same_keys (TrackLists.entries_completed k (cell_at s a).entries) (TrackLists.complete _ _ _ _ (h.long a) k x)) g
kept w (Rollback a) s h ok more g = beside (At w) s.cells a _ _ h.long (in_range _ s.cells a ok.0) (rollback w a s.book (cell_at s a) (h.long a) more) g
kept w (Finish t a) s h ok more g = beside (At w) s.cells a _ _ h.long more.0 (finish w t a s.book (cell_at s a) (h.long a) more.1) g
kept w (Trim k a) s h ok more g =
    beside (At w) s.cells a _ _ h.long more (λ x. same_keys (TrackLists.entries_without_batch k (cell_at s a).entries) (TrackLists.leave _ _ _ _ (h.long a) (OfBatch k) x)) g
kept w e s h ok more g = g
