-- What the events' changes leave of entries, ACTs and batches.
use Rattle.std.specs.Prelude.{◌≡◌, refl, if◌then◌else◌, ℕ, Bool, true, false, Option, Some, None, List, map}
use Rattle.snap_base.specs.declared.transactions.TxResult.{TxResult}
use Rattle.protocol.specs.Fixed.{Code, Next, Go, Ended}
use Rattle.protocol.specs.Rivals.{Lock}
use Rattle.protocol.specs.Parts.{Act, Book, Pact, Batch, Desk, Joined, Status, Entry, BatchEntry, ActEntry, Outcome, Cell}
use Rattle.protocol.specs.Words.{who_of, has_act, outcome_of, is_reader_entry}
use Rattle.protocol.specs.Spread.{crossed_out}
use Rattle.protocol.specs.Contents.{slot_tids, slot_marks, complete_mark}
use Rattle.protocol.specs.OnBook as book
use Rattle.protocol.specs.OnDesk as desk
use Rattle.protocol.specs.OnCell as cell
use Rattle.protocol_laws.proofs.first.Kept.{map_kept, changed_act_kept, raised_kept, done_in_kept}
use Rattle.std.proofs.Common.{◌∙◌}

-- ---- entries

pub owner_done : (t : ℕ) (e : Entry) → who_of (cell.done_in t e) ≡ who_of e
owner_done t (BatchEntry b) = refl
owner_done t (ActEntry x) = refl

pub slot_tid_done : (t : ℕ) (e : Entry) → slot_tids (cell.done_in t e) ≡ slot_tids e
slot_tid_done t (BatchEntry b) = map_kept (λ s. s.tid) (cell.done_if t) b.slots (λ s. refl)
slot_tid_done t (ActEntry x) = refl

pub complete_done : (t : ℕ) (e : Entry) → complete_mark (cell.done_in t e) ≡ complete_mark e
complete_done t (BatchEntry b) = refl
complete_done t (ActEntry x) = refl

pub owner_complete : (k : ℕ) (e : Entry) → who_of (cell.complete_in k e) ≡ who_of e
owner_complete k (BatchEntry b) = refl
owner_complete k (ActEntry x) = refl

pub reader_done : (t : ℕ) (e : Entry) → is_reader_entry (cell.done_in t e) ≡ is_reader_entry e
reader_done t (BatchEntry b) = refl
reader_done t (ActEntry x) = refl

pub reader_complete : (k : ℕ) (e : Entry) → is_reader_entry (cell.complete_in k e) ≡ is_reader_entry e
reader_complete k (BatchEntry b) = refl
reader_complete k (ActEntry x) = refl

pub slot_tid_complete : (k : ℕ) (e : Entry) → slot_tids (cell.complete_in k e) ≡ slot_tids e
slot_tid_complete k (BatchEntry b) = refl
slot_tid_complete k (ActEntry x) = refl

pub mark_complete : (k : ℕ) (e : Entry) → slot_marks (cell.complete_in k e) ≡ slot_marks e
mark_complete k (BatchEntry b) = refl
mark_complete k (ActEntry x) = refl

-- ---- ACTs

-- what looks neither at the status, nor at the before number, nor at the places
pub asked_kept : {X : Type 0} (g : Act → X) (o : Option ℕ) (group : List Lock) (t a m : ℕ) (b : Book)
    → ((x : Act) (st : Status) → g (record x { status = st }) ≡ g x)
    → ((x : Act) (m : ℕ) → g (record x { m = m }) ≡ g x)
    → ((x : Act) (m : ℕ) (ps : List Joined) → g (record x { m = m; places = ps }) ≡ g x)
    → map g (book.asked_acts o group t a m b) ≡ map g b.acts
asked_kept g (Some older) group t a m b hs hm hj = changed_act_kept g t _ b.acts (λ x. hs x _)
asked_kept g None group t a m b hs hm hj =
    map_kept g (crossed_out a) _ (λ x. hs x _) ∙ (raised_kept g _ _ hm ∙ changed_act_kept g t _ b.acts (λ x. hj x _ _))

pub noted_act_kept : {C X : Type 0} (g : Act → X) (t : ℕ) (n : Next C) (xs : List Act) → ((x : Act) (r : TxResult) → g (record x { result = Some r }) ≡ g x)
    → map g (book.noted_for t n xs) ≡ map g xs
noted_act_kept g t (Go b control) xs h = refl
noted_act_kept g t (Ended r) xs h = changed_act_kept g t _ xs (λ x. h x r)

pub noted_acts_kept : {C X : Type 0} (g : Act → X) (t : ℕ) (o : Option (Outcome C)) (xs : List Act) → ((x : Act) (r : TxResult) → g (record x { result = Some r }) ≡ g x)
    → map g (book.noted_from t o xs) ≡ map g xs
noted_acts_kept g t None xs h = refl
noted_acts_kept g t (Some x) xs h = noted_act_kept g t x.next xs h

-- ---- batches

pub either : {X Y : Type 0} (c : Bool) (g : X → Y) (x y : X) (z : Y) → g x ≡ z → g y ≡ z → g (if c then x else y) ≡ z
either true g x y z hx hy = hx
either false g x y z hx hy = hy

pub noted_batch_kept : {C X : Type 0} (g : Batch → X) (t : ℕ) (n : Next C) (bs : List Batch) → ((b : Batch) (r : TxResult) → g (desk.with_results t r b) ≡ g b)
    → map g (desk.noted_for t n bs) ≡ map g bs
noted_batch_kept g t (Go b control) bs h = refl
noted_batch_kept g t (Ended r) bs h = map_kept g _ bs (λ b. h b r)

pub noted_batches_kept : {C X : Type 0} (g : Batch → X) (t : ℕ) (o : Option (Outcome C)) (bs : List Batch) → ((b : Batch) (r : TxResult) → g (desk.with_results t r b) ≡ g b)
    → map g (desk.noted_from t o bs) ≡ map g bs
noted_batches_kept g t None bs h = refl
noted_batches_kept g t (Some x) bs h = noted_batch_kept g t x.next bs h

pub with_results_kept : {X : Type 0} (g : Pact → X) (t : ℕ) (r : TxResult) (b : Batch) → ((p : Pact) → g (desk.with_result t r p) ≡ g p)
    → map g (desk.with_results t r b).pacts ≡ map g b.pacts
with_results_kept g t r b h = either b.aborted (map g) b.pacts (map (desk.with_result t r) b.pacts) (map g b.pacts) refl (map_kept g _ b.pacts h)

pub ended_act_kept : {C X : Type 0} (g : Act → X) (t : ℕ) (c : Cell C) (b : Book) → ((x : Act) (r : TxResult) → g (record x { result = Some r }) ≡ g x)
    → map g (book.act_ended t (has_act t c.entries) (outcome_of t c.outbox) b).acts ≡ map g b.acts
ended_act_kept g t c b h = either (has_act t c.entries) (map g) (book.noted_from t (outcome_of t c.outbox) b.acts) b.acts (map g b.acts) (noted_acts_kept g t (outcome_of t c.outbox) b.acts h) refl

pub ended_batch_kept : {C X : Type 0} (g : Batch → X) (t : ℕ) (c : Cell C) (d : Desk) → ((b : Batch) (r : TxResult) → g (desk.with_results t r b) ≡ g b)
    → map g (desk.pact_ended t (has_act t c.entries) (outcome_of t c.outbox) d).batches ≡ map g d.batches
ended_batch_kept g t c d h = either (has_act t c.entries) (map g) d.batches (desk.noted_from t (outcome_of t c.outbox) d.batches) (map g d.batches) refl (noted_batches_kept g t (outcome_of t c.outbox) d.batches h)

pub run_entries_kept : {C X : Type 0} (g : Entry → X) (code : Code C) (t a : ℕ) (c : Cell C) → ((e : Entry) → g (cell.done_in t e) ≡ g e)
    → map g (cell.slice_run code t a c).entries ≡ map g c.entries
run_entries_kept g code t a c h = either (cell.is_done_after code a (cell.slice_of code t c)) (map g) (map (cell.done_in t) c.entries) c.entries (map g c.entries) (done_in_kept g t c.entries h) refl
