-- The turns of all actors, event by event.
use Rattle.std.specs.Prelude.{◌≡◌, refl, ℕ, ◌<◌, ◌==◌, not, Bool, true, false, if◌then◌else◌, Option, Some, None, is_some, List, [], ◌∷◌, ◌++◌, length, map, find}
use Rattle.std.proofs.Common.{sym, subst}
use Rattle.std.proofs.lemmas.List.{append-nil}
use Rattle.std.proofs.lemmas.Bool.{true≢false}
use Rattle.protocol.specs.Fixed.{Fixed}
use Rattle.protocol.specs.Rivals.{Lock}
use Rattle.protocol.specs.Parts.{SubBatch, OfBatch, OfAct, Entry, BatchEntry, ActEntry, Cell, Machine}
use Rattle.protocol.specs.Events.{Event, Arrive, Ask, Take, Run, Send, End, Close, Complete, Rollback, Finish, Trim}
use Rattle.protocol.specs.Words.{holds, who_of, who_on, is_who, is_entry_of, is_turn_of, is_act_entry, is_batch_entry, is_all_done, is_reader_entry, act_of, sub_of, lock_of}
use Rattle.protocol.specs.Conditions.{IsAllowed, conditions, epoch}
use Rattle.protocol.specs.Effects.{after, cell_at, no_cell}
use Rattle.protocol.specs.OnBook as book
use Rattle.protocol.specs.OnCell as cell
use Rattle.protocol.specs.History.{History, Slice, Ran, grown, not_run, ran_on, left_for_good, without_standing, asks, is_traceless}
use Rattle.protocol_laws.specs.Tracks.{key_of, Differ}
use Rattle.protocol_laws.specs.Turns.{Turns, NotDone}
use Rattle.protocol_laws.proofs.machine.TracksKept.{beside, beside_same, in_range, arrives, held}
use Rattle.protocol_laws.proofs.machine.TurnLists

abbrev pub At : {C : Type 0} → ℕ → Cell C → List Ran → Type 0
At a c long = Turns long c.entries

unfoldable pub Turned : {C : Type 0} → Machine C → History → Type 0
Turned s h = (a : ℕ) → At a (cell_at s a) (h.long a)

unfoldable pub Assumed : {C : Type 0} → Event → Machine C → Type 0
-- a control in the inbox is of a PACT that is not done there
Assumed (Run t a) s = (e : Entry) → find (is_entry_of t) (cell_at s a).entries ≡ Some e → NotDone t e
Assumed (Finish t a) s = a < length s.cells
Assumed (Trim k a) s = a < length s.cells
Assumed _ s = Unit {0}

-- one that is there, and for which the test holds
pub one_is : {X : Type 0} (p : X → Bool) (o : Option X) → holds p o ≡ true → (x : X) × (o ≡ Some x) × (p x ≡ true)
one_is p None h = absurd (true≢false (sym h))
one_is p (Some x) h = (x, refl, h)

arrive : {C : Type 0} (k a : ℕ) (o : Option SubBatch) (c : Cell C) (long : List Ran) → is_some o ≡ true → At a c long → At a (cell.batch_placed k o c) (long ++ not_run (OfBatch k) ∷ [])
arrive k a None c long e h = absurd (true≢false (sym e))
arrive k a (Some m) c long e h = TurnLists.more (BatchEntry (record { bid = k; slots = map cell.not_done m.tids; complete = false })) long c.entries refl h

ask : (t : Lock) (o : Option ℕ) (es : List Entry) (long : List Ran) → Turns long es → Turns (long ++ map not_run (asks t.tid o)) (es ++ cell.act_entries t o)
ask t None es long h = TurnLists.more (ActEntry t) long es refl h
ask t (Some older) es long h = rw (append-nil long, append-nil es) h

run : {C : Type 0} (w : Fixed C) (t a : ℕ) (c : Cell C) (long : List Ran) (x : Slice) → x.tid ≡ t → holds (is_turn_of t) (find (is_entry_of t) c.entries) ≡ true → ((e : Entry) → find (is_entry_of t) c.entries ≡ Some e → NotDone t e) → Differ (map key_of c.entries)
    → At a c long → At a (cell.slice_run w.code t a c) (ran_on (cell.reads_on t c.entries) (who_on t c.entries) x long)
run w t a c long x i q n d h =
    let o = one_is (is_turn_of t) (find (is_entry_of t) c.entries) q in
    by (cell.is_done_after w.code a (cell.slice_of w.code t c)) (ran_on (cell.reads_on t c.entries) (who_on t c.entries) x long) (turn (cell.reads_on t c.entries) refl o)
  where
    turn : (b : Bool) → cell.reads_on t c.entries ≡ b → (e : Entry) × (find (is_entry_of t) c.entries ≡ Some e) × (is_turn_of t e ≡ true) → Turns (ran_on b (who_on t c.entries) x long) c.entries
    turn true r o = h
    turn false r o = TurnLists.run t o.0 x long c.entries (subst (λ z. holds is_reader_entry z ≡ false) o.1 r) i o.1 o.2 (n o.0 o.1) d h

    by : (b : Bool) (rs : List Ran) → Turns rs c.entries → Turns rs (if b then map (cell.done_in t) c.entries else c.entries)
    by true rs g = TurnLists.done t rs c.entries g
    by false rs g = g

complete : {C : Type 0} (k a : ℕ) (c : Cell C) (long : List Ran) → holds is_all_done (find (is_batch_entry k) c.entries) ≡ true → Differ (map key_of c.entries) → At a c long → At a (cell.batch_completed k c) (map (Rattle.protocol.specs.History.completed k) long)
complete k a c long q d h = let o = one_is is_all_done (find (is_batch_entry k) c.entries) q in TurnLists.complete k o.0 long c.entries o.1 o.2 d h

is_act : (t : ℕ) (e : Entry) → is_who (who_of e) (OfAct t) ≡ is_act_entry t e
is_act t (BatchEntry b) = refl
is_act t (ActEntry x) = refl

is_batch : (k : ℕ) (e : Entry) → is_who (who_of e) (OfBatch k) ≡ is_batch_entry k e
is_batch k (BatchEntry b) = refl
is_batch k (ActEntry x) = refl

finish : (t : ℕ) (b : Bool) (es : List Entry) (long : List Ran) → Turns long es → Turns (if b then without_standing (OfAct t) long else map (left_for_good (OfAct t)) long) (Rattle.std.specs.Prelude.filter (λ e. not (is_act_entry t e)) es)
finish t true es long h = TurnLists.undo (OfAct t) (is_act_entry t) long es (is_act t) h
finish t false es long h = TurnLists.leave (OfAct t) (is_act_entry t) long es (is_act t) h

pub kept : {C : Type 0} (w : Fixed C) (e : Event) (s : Machine C) (h : History) → IsAllowed w e s → Assumed e s → ((a : ℕ) → Differ (map key_of (cell_at s a).entries)) → Turned s h → Turned (after w e s) (grown w e s h)
unfolding Turned Assumed conditions after grown
kept w (Arrive k a) s h ok more d g = beside At s.cells a _ _ h.long (arrives (epoch s.book) a (λ c. c.epoch == epoch s.book) s.cells (sub_of k a s.post.subs) ok.1.1.0) (arrive k a (sub_of k a s.post.subs) (cell_at s a) (h.long a) ok.0) g
kept w (Ask t a) s h ok more d g = beside At s.cells a _ _ h.long (in_range _ s.cells a ok.1.1.0) (ask (lock_of t s.book.acts) (book.in_the_way (lock_of t s.book.acts) (cell_at s a).entries) (cell_at s a).entries (h.long a)) g
kept w (Take t a) s h ok more d g = beside_same At s.cells a _ h.long (in_range _ s.cells a ok.1.0) (λ x. x) g
kept w (Run t a) s h ok more d g =
    beside At s.cells a _ _ h.long (in_range _ s.cells a ok.0) (run w t a (cell_at s a) (h.long a) (record { tid = t; found = (cell_at s a).state; left = (cell.slice_run w.code t a (cell_at s a)).state }) refl (held (λ c. holds (is_turn_of t) (find (is_entry_of t) c.entries)) s.cells a no_cell ok.1.1.0) more (d a)) g
kept w (Send t a) s h ok more d g = beside_same At s.cells a _ h.long (in_range _ s.cells a ok.0) (λ x. x) g
kept w (End t a) s h ok more d g = beside_same At s.cells a _ h.long (in_range _ s.cells a ok.0) (λ x. x) g
kept w (Close t a) s h ok more d g = beside_same At s.cells a _ h.long (in_range _ s.cells a ok.1.0) (TurnLists.done t (h.long a) (cell_at s a).entries) g
kept w (Complete k a) s h ok more d g =
    beside At s.cells a _ _ h.long (in_range _ s.cells a ok.0) (complete k a (cell_at s a) (h.long a) (held (λ c. holds is_all_done (find (is_batch_entry k) c.entries)) s.cells a no_cell ok.1.1.0) (d a)) g
kept w (Rollback a) s h ok more d g = beside At s.cells a _ _ h.long (in_range _ s.cells a ok.0) (TurnLists.roll_back s.book.cascades (h.long a) (cell_at s a).entries) g
kept w (Finish t a) s h ok more d g = beside At s.cells a _ _ h.long more (finish t (is_traceless (act_of t s.book.acts)) (cell_at s a).entries (h.long a)) g
kept w (Trim k a) s h ok more d g = beside At s.cells a _ _ h.long more (TurnLists.leave (OfBatch k) (is_batch_entry k) (h.long a) (cell_at s a).entries (is_batch k)) g
kept w e s h ok more d g = g
