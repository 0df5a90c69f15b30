-- Before numbers, last batches and floors are below the next batch, event by event.
use Rattle.std.specs.Prelude.{◌≡◌, refl, ℕ, zero, suc, ◌+◌, ◌<◌, ◌==◌, max, not, Bool, true, false, ◌&&◌, if◌then◌else◌, Option, Some, None, List, [], ◌∷◌, ◌++◌, map, filter, slice_index_or}
use Rattle.std.specs.List.{AllByRecursion}
use Rattle.std.proofs.Common.{arith, sym, subst}
use Rattle.snap_base.specs.declared.transactions.State.{State}
use Rattle.snap_base.specs.declared.transactions.Tx.{Tx}
use Rattle.protocol.specs.Fixed.{Fixed, IsText, base, Next, Go, Ended}
use Rattle.protocol.specs.Facts.{Alone}
use Rattle.protocol.specs.Rivals.{Lock}
use Rattle.protocol.specs.Parts.{Act, Book, Pair, Outcome, OfBatch, OfAct, Entry, BatchEntry, ActEntry, FloorPair, Cell, Machine}
use Rattle.protocol.specs.Events.{Event, Form, Admit, Arrive, Ask, Take, Run, Send, End, Close, Complete, Abort, Rollback, Prepare, Vouch, Decide, Seal, Finish, Trim}
use Rattle.protocol.specs.Words.{holds, greatest, batches_on, has_act, outcome_of, act_of, sub_of, is_settled, declared_of, is_sealed, lock_of, floor_for, floor_at}
use Rattle.protocol.specs.Spread.{raised, carries_to, crossed_out}
use Rattle.protocol.specs.Conditions.{IsAllowed, conditions, epoch}
use Rattle.protocol.specs.Effects.{after, cell_at, no_cell}
use Rattle.protocol.specs.Runs.{opening, new_cell, IsRun, reached}
use Rattle.protocol.specs.OnBook as book
use Rattle.protocol.specs.OnCell as cell
use Rattle.protocol.specs.History.{History, Ran, Stands, Gone, long_staying, batches_in}
use Rattle.protocol_laws.specs.Turns.{Turns}
use Rattle.protocol_laws.specs.Places.{FitsCell}
use Rattle.protocol_laws.proofs.first.EpochsKept as epochs
use Rattle.protocol_laws.proofs.first.SettlingKept as settling
use Rattle.protocol_laws.proofs.first.SettlingKeys as keys
use Rattle.protocol_laws.proofs.machine.TracksKept.{beside_same, in_range, arrives}
use Rattle.protocol_laws.proofs.machine.TurnLists
use Rattle.protocol_laws.proofs.machine.TurnsKept.{Turned}
use Rattle.protocol_laws.proofs.machine.PlacesKept.{Placed, message}
use Rattle.protocol_laws.proofs.machine.ShowLists
use Rattle.protocol_laws.proofs.machine.ShowsKept as shows
use Rattle.protocol_laws.proofs.machine.Good.{Given}
use Rattle.protocol_laws.proofs.machine.AllGood as all
use Rattle.protocol_laws.proofs.machine.AllGood.{AllGood}
use Rattle.protocol_laws.proofs.machine.Higher as higher
use Rattle.protocol_laws.proofs.first.Lists.{all_join, all_map, weaker, all_found}
use Rattle.protocol_laws.proofs.first.OneWay.{bid_went}

-- ---- ACTs

abbrev pub AllLow : ℕ → List Act → Type 0
AllLow n acts = AllByRecursion (λ x. x.m < n) acts

low_map : (n : ℕ) (f : Act → Act) (xs : List Act) → ((x : Act) → x.m < n → (f x).m < n) → AllLow n xs → AllLow n (map f xs)
low_map n f xs k h = all_map (λ x. x.m < n) (λ x. x.m < n) f xs k h

low_if : (n : ℕ) (b : Bool) (f : Act → Act) (x : Act) → (x.m < n → (f x).m < n) → x.m < n → (book.change_if b f x).m < n
low_if n true f x k h = k h
low_if n false f x k h = h

low_changed : (n t : ℕ) (f : Act → Act) (xs : List Act) → ((x : Act) → x.m < n → (f x).m < n) → AllLow n xs → AllLow n (book.changed_act t f xs)
low_changed n t f xs k h = low_map n _ xs (λ x. low_if n (x.tid == t) f x (k x)) h

low_carried : (n : ℕ) (p : Act → Bool) (xs : List Act) → 0 < n → AllLow n xs → greatest (map (λ u. u.m) (filter p xs)) < n
low_carried n p [] z h = z
low_carried n p (x ∷ xs) z h = by (p x) (low_carried n p xs z h.1)
  where
    by : (b : Bool) → greatest (map (λ u. u.m) (filter p xs)) < n → greatest (map (λ u. u.m) (if b then x ∷ filter p xs else filter p xs)) < n
    by true r = omega (arith, r, h.0)
    by false r = r

low_raised : (n : ℕ) (ps : List Pair) (xs : List Act) → 0 < n → AllLow n xs → AllLow n (raised ps xs)
low_raised n ps [] z h = tt
low_raised n ps (x ∷ xs) z h = let r = low_raised n ps xs z h.1 in (omega (arith, h.0, low_carried n (carries_to ps x) (raised ps xs) z r), r)

low_asked : {C : Type 0} (n t a : ℕ) (o : Option ℕ) (group : List Lock) (c : Cell C) (b : Book) → 0 < n → c.last < n → floor_at t b.acts c < n → AllLow n b.acts → AllLow n (book.asked_acts o group t a (max c.last (floor_at t b.acts c)) b)
low_asked n t a (Some x) group c b z l f h = low_changed n t _ b.acts (λ x i. i) h
low_asked n t a None group c b z l f h = low_map n (crossed_out a) (raised (b.pairs ++ book.new_pairs t a group b.acts) (book.changed_act t (book.joins a (max c.last (floor_at t b.acts c))) b.acts)) (λ x i. i) (low_raised n _ (book.changed_act t (book.joins a (max c.last (floor_at t b.acts c))) b.acts) z (low_changed n t (book.joins a (max c.last (floor_at t b.acts c))) b.acts (λ x i. omega (arith, i, l, f)) h))

low_ended : {C : Type 0} (n t : ℕ) (b : Bool) (o : Option (Outcome C)) (xs : List Act) → AllLow n xs → AllLow n (if b then book.noted_from t o xs else xs)
low_ended n t false o xs h = h
low_ended n t true None xs h = h
low_ended {C} n t true (Some x) xs h = by x.next
  where
    by : (y : Next C) → AllLow n (book.noted_for t y xs)
    by (Go b c) = h
    by (Ended r) = low_changed n t (book.with_result r) xs (λ x i. i) h

-- the floor that counts for one
low_for : (n : ℕ) (v : Bool) (f : FloorPair) → f.write < n → f.read < n → floor_for v f < n
low_for n true f w r = w
low_for n false f w r = omega (arith, w, r)

low_floors : (n : ℕ) (f : FloorPair) (t : ℕ) (xs : List Act) → f.write < n → f.read < n → AllLow n xs → ((cell.floors_after f (act_of t xs)).write < n) × ((cell.floors_after f (act_of t xs)).read < n)
low_floors n f t xs w r h = by (act_of t xs) refl
  where
    by : (o : Option Act) → act_of t xs ≡ o → ((cell.floors_after f o).write < n) × ((cell.floors_after f o).read < n)
    by None e = (w, r)
    by (Some x) e = one (is_sealed x.status) x.reader (all_found (λ x. x.m < n) (λ x. x.tid == t) xs x h e).0
      where
        one : (b v : Bool) → x.m < n → ((if b then cell.raised_floors v x.m f else f).write < n) × ((if b then cell.raised_floors v x.m f else f).read < n)
        one true true i = (w, omega (arith, i, r))
        one true false i = (omega (arith, i, w), r)
        one false v i = (w, r)

-- ---- cells

pub record CellLow {C : Type 0} (n : ℕ) (c : Cell C) : Type 0 where
  pub last : c.last < n
  pub trimmed : c.last_trimmed < n
  pub write : c.floors.write < n
  pub read : c.floors.read < n

abbrev pub At : {C : Type 0} → ℕ → ℕ → Cell C → Unit {0} → Type 0
At n a c x = CellLow n c

on_entries : (P : ℕ → Type 0) (rs : List Ran) (es : List Entry) → Turns rs es → AllByRecursion P (batches_in rs) → AllByRecursion P (batches_on es)
on_entries P [] [] t h = tt
on_entries P [] (e ∷ es) t h = absurd t
on_entries P (Gone (OfBatch j) ss ∷ rs) es t h = on_entries P rs es t h.1
on_entries P (Gone (OfAct u) ss ∷ rs) es t h = on_entries P rs es t h
on_entries P (Stands y c ss ∷ rs) [] t h = absurd t
on_entries P (Stands (OfBatch j) c ss ∷ rs) (BatchEntry b ∷ es) t h = let i : b.bid ≡ j = cc t.0 in (subst P (sym i) h.0, on_entries P rs es t.2 h.1)
on_entries P (Stands (OfBatch j) c ss ∷ rs) (ActEntry x ∷ es) t h = absurd (cc t.0)
on_entries P (Stands (OfAct u) c ss ∷ rs) (BatchEntry b ∷ es) t h = absurd (cc t.0)
on_entries P (Stands (OfAct u) c ss ∷ rs) (ActEntry x ∷ es) t h = on_entries P rs es t.2 h

greatest_less : (n : ℕ) (ks : List ℕ) → 0 < n → AllByRecursion (λ k. k < n) ks → greatest ks < n
greatest_less n [] z h = z
greatest_less n (k ∷ ks) z h = omega (arith, h.0, greatest_less n ks z h.1)

roll_low : (n : ℕ) (cs : List Rattle.protocol.specs.Parts.Cascade) (ep tail : ℕ) (rs : List Ran) (es : List Entry) → 0 < n → Turns rs es → AllByRecursion (FitsCell n cs ep tail) (batches_in rs) → greatest (batches_on (cell.staying cs es)) < n
roll_low n cs ep tail rs es z t h = greatest_less n _ z (on_entries (λ k. k < n) (long_staying cs rs) (cell.staying cs es) (TurnLists.roll_back cs rs es t) (ShowLists.stay_all (λ k. k < n) cs rs (weaker (FitsCell n cs ep tail) (λ k. k < n) (batches_in rs) (λ k f. f.formed) h)))

pub record Lows {C : Type 0} (w : Fixed C) (s : Machine C) : Type 0 where
  pub some : 0 < s.ring.next_bid
  pub acts : AllLow s.ring.next_bid s.book.acts
  pub cells : (a : ℕ) → CellLow s.ring.next_bid (cell_at s a)

more : {C : Type 0} (n : ℕ) (c : Cell C) → CellLow n c → CellLow (n + 1) c
more n c h = record { last = omega (arith, h.last); trimmed = omega (arith, h.trimmed); write = omega (arith, h.write); read = omega (arith, h.read) }

trims_low : {C : Type 0} (w : Fixed C) (k a : ℕ) (s : Machine C) → IsAllowed w (Trim k a) s → settling.Settling w s → k < s.ring.next_bid
unfolding conditions settling.Settling
trims_low w k a s ok g = let f = settling.found k (λ b. is_settled b.stage && (not b.aborted && holds (λ p. not p.trimmed) (declared_of a b))) s.desk.batches ok.0 in omega (arith, f.bid, (keys.rises_within w.text.opening.next_bid s.ring.next_bid (settling.key_of f.batch) _ g.rises f.is_in).1)

acts_low : {C : Type 0} (w : Fixed C) (e : Event) (s : Machine C) → base w.text < s.ring.next_bid → Lows w s → AllLow (after w e s).ring.next_bid (after w e s).book.acts
unfolding after
acts_low w (Form k) s b g = weaker (λ x. x.m < s.ring.next_bid) (λ x. x.m < s.ring.next_bid + 1) s.book.acts (λ x i. omega (arith, i)) g.acts
acts_low w (Admit t) s b g = all_join (λ x. x.m < s.ring.next_bid) s.book.acts _ g.acts (b, tt)
acts_low w (Arrive k a) s b g = low_map s.ring.next_bid (crossed_out a) _ (λ x i. i) (low_map s.ring.next_bid (book.lowered k (book.tids_on (cell_at s a).entries)) s.book.acts (λ x i. i) g.acts)
acts_low w (Ask t a) s b g = low_asked s.ring.next_bid t a (book.in_the_way (lock_of t s.book.acts) (cell_at s a).entries) (book.met (lock_of t s.book.acts) (cell_at s a).entries) (cell_at s a) s.book g.some (g.cells a).last (low_for s.ring.next_bid (lock_of t s.book.acts).reader (cell_at s a).floors (g.cells a).write (g.cells a).read) g.acts
acts_low w (End t a) s b g = low_ended s.ring.next_bid t (has_act t (cell_at s a).entries) (outcome_of t (cell_at s a).outbox) s.book.acts g.acts
acts_low w (Abort k) s b g = low_map s.ring.next_bid _ s.book.acts (λ x i. i) g.acts
acts_low w (Prepare t a) s b g = low_changed s.ring.next_bid t _ s.book.acts (λ x i. i) g.acts
acts_low w (Vouch t a) s b g = low_changed s.ring.next_bid t _ s.book.acts (λ x i. i) g.acts
acts_low w (Decide t) s b g = low_changed s.ring.next_bid t _ s.book.acts (λ x i. i) g.acts
acts_low w (Seal t) s b g = low_changed s.ring.next_bid t _ s.book.acts (λ x i. i) g.acts
acts_low w (Finish t a) s b g = low_changed s.ring.next_bid t _ s.book.acts (λ x i. i) g.acts
acts_low w e s b g = g.acts

cells_low : {C : Type 0} (w : Fixed C) (e : Event) (s : Machine C) (h : History) → IsAllowed w e s → shows.Owed e s h → epochs.Agreeing s → settling.Settling w s → Placed w s h → Turned s h → Lows w s → (a : ℕ) → CellLow (after w e s).ring.next_bid (cell_at (after w e s) a)
unfolding shows.Owed Placed Turned conditions after
cells_low w (Form k) s h ok o ag st p t g = λ a. more s.ring.next_bid (cell_at s a) (g.cells a)
cells_low w (Arrive k a) s h ok o ag st p t g = beside_same (At s.ring.next_bid) s.cells a _ (λ b. tt) (arrives (epoch s.book) a (λ c. c.epoch == epoch s.book) s.cells (sub_of k a s.post.subs) ok.1.1.0) (λ x. record { last = (message w k a s ok ag).formed; trimmed = x.trimmed; write = x.write; read = x.read }) g.cells
cells_low w (Ask u a) s h ok o ag st p t g = beside_same (At s.ring.next_bid) s.cells a _ (λ b. tt) (in_range _ s.cells a ok.1.1.0) (λ x. record { last = x.last; trimmed = x.trimmed; write = x.write; read = x.read }) g.cells
cells_low w (Take u a) s h ok o ag st p t g = beside_same (At s.ring.next_bid) s.cells a _ (λ b. tt) (in_range _ s.cells a ok.1.0) (λ x. record { last = x.last; trimmed = x.trimmed; write = x.write; read = x.read }) g.cells
cells_low w (Run u a) s h ok o ag st p t g = beside_same (At s.ring.next_bid) s.cells a _ (λ b. tt) (in_range _ s.cells a ok.0) (λ x. record { last = x.last; trimmed = x.trimmed; write = x.write; read = x.read }) g.cells
cells_low w (Send u a) s h ok o ag st p t g = beside_same (At s.ring.next_bid) s.cells a _ (λ b. tt) (in_range _ s.cells a ok.0) (λ x. record { last = x.last; trimmed = x.trimmed; write = x.write; read = x.read }) g.cells
cells_low w (End u a) s h ok o ag st p t g = beside_same (At s.ring.next_bid) s.cells a _ (λ b. tt) (in_range _ s.cells a ok.0) (λ x. record { last = x.last; trimmed = x.trimmed; write = x.write; read = x.read }) g.cells
cells_low w (Close u a) s h ok o ag st p t g = beside_same (At s.ring.next_bid) s.cells a _ (λ b. tt) (in_range _ s.cells a ok.1.0) (λ x. record { last = x.last; trimmed = x.trimmed; write = x.write; read = x.read }) g.cells
cells_low w (Complete k a) s h ok o ag st p t g = beside_same (At s.ring.next_bid) s.cells a _ (λ b. tt) (in_range _ s.cells a ok.0) (λ x. record { last = x.last; trimmed = x.trimmed; write = x.write; read = x.read }) g.cells
cells_low w (Rollback a) s h ok o ag st p t g = beside_same (At s.ring.next_bid) s.cells a _ (λ b. tt) (in_range _ s.cells a ok.0) (λ x. record { last = omega (arith, x.trimmed, roll_low s.ring.next_bid s.book.cascades (cell_at s a).epoch (cell_at s a).tail (h.long a) (cell_at s a).entries g.some (t a) (p a).fit); trimmed = x.trimmed; write = x.write; read = x.read }) g.cells
cells_low w (Finish u a) s h ok o ag st p t g = beside_same (At s.ring.next_bid) s.cells a _ (λ b. tt) o (λ x. record { last = x.last; trimmed = x.trimmed; write = (low_floors s.ring.next_bid (cell_at s a).floors u s.book.acts x.write x.read g.acts).0; read = (low_floors s.ring.next_bid (cell_at s a).floors u s.book.acts x.write x.read g.acts).1 }) g.cells
cells_low w (Trim k a) s h ok o ag st p t g = beside_same (At s.ring.next_bid) s.cells a _ (λ b. tt) o (λ x. record { last = x.last; trimmed = omega (arith, x.trimmed, trims_low w k a s ok st); write = x.write; read = x.read }) g.cells
cells_low w e s h ok o ag st p t g = g.cells

above_base : {C : Type 0} (w : Fixed C) (s : Machine C) → settling.Settling w s → base w.text < s.ring.next_bid
unfolding settling.Settling
above_base w s g = omega (arith, g.some, keys.rises_top w.text.opening.next_bid s.ring.next_bid _ g.rises)

pub kept : {C : Type 0} (w : Fixed C) (Of : Tx → C → Type 0) (finish : C → List State → Alone) (e : Event) (s : Machine C) (h : History) → Given w Of finish → IsAllowed w e s → AllGood w Of finish s h → Lows w s → Lows w (after w e s)
kept w Of finish e s h v ok g i = record {
  some = omega (arith, i.some, bid_went w e s);
  acts = acts_low w e s (above_base w s g.good.settling) i;
  cells = cells_low w e s h ok (higher.owed w Of finish e s h v ok g) g.good.agreeing g.good.settling g.good.placed g.good.turned i;
}

opened : {C : Type 0} (w : Fixed C) → IsText w.text → Lows w (opening w)
opened {C} w text = record { some = omega (arith, text.bids); acts = tt; cells = λ a. at w.text.opening.states a }
  where
    at : (states : List State) (a : ℕ) → CellLow w.text.opening.next_bid (slice_index_or (map (new_cell {C = C} (base w.text)) states) a no_cell)
    at [] a = record { last = omega (arith, text.bids); trimmed = omega (arith, text.bids); write = omega (arith, text.bids); read = omega (arith, text.bids) }
    at (x ∷ xs) zero = record { last = omega (arith, text.bids); trimmed = omega (arith, text.bids); write = omega (arith, text.bids); read = omega (arith, text.bids) }
    at (x ∷ xs) (suc a) = at xs a

-- Over every run each before number is below the next batch, and so are last batches and floors
pub numbers_low : {C : Type 0} (w : Fixed C) (Of : Tx → C → Type 0) (finish : C → List State → Alone) (es : List Event) → Given w Of finish → IsRun w es → Lows w (reached w es)
numbers_low w Of finish es v run = all.along_good w Of finish (λ s h. Lows w s) v (λ e s h ok g i. kept w Of finish e s h v ok g i) (opened w v.text) es run
