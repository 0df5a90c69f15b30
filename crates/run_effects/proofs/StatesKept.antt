-- Where slices leave states, all states of a run are states: those of the cells, and the images.
use Rattle.std.specs.Prelude.{refl, ℕ, ◌==◌, Bool, true, false, is_some, if◌then◌else◌, Option, Some, None, List, [], ◌∷◌, ◌++◌, map, filter, slice_set}
use Rattle.std.specs.List.{AllByRecursion}
use Rattle.snap_base.specs.declared.transactions.State.{State}
use Rattle.snap_base.specs.declared.transactions.TxResult.{TxResult}
use Rattle.snap_base.specs.declared.transactions.TxResult.TheVariants.{Value, Fail}
use Rattle.snap_base.proofs.Lists.{all_filter, all_get}
use Rattle.record_log.specs.txn_records.Records.{IsState}
use Rattle.protocol.specs.Effects.{after, cell_at, no_cell}
use Rattle.protocol.specs.Events.{Event, Form, Admit, Arrive, Ask, Take, Run, Send, End, Close, Complete, Rollback, DropControl, Finish, Trim}
use Rattle.protocol.specs.Fixed.{Fixed, Next, Go, Ended, base, tx_at}
use Rattle.protocol.specs.OnCell as cell
use Rattle.protocol.specs.OnPost as post
use Rattle.protocol.specs.OnRing as ring
use Rattle.protocol.specs.Parts.{Act, Cell, ControlMessage, Image, Machine, OfAct, OfBatch, Outcome, Pact, Waiting, Who}
use Rattle.protocol.specs.Runs.{new_cell, opening}
use Rattle.protocol.specs.Words.{act_of, control_of, image_of, outcome_of, waiting_of}
use Rattle.run_effects.proofs.Elements.{If, all_found, all_join, all_set}
use Rattle.run_effects.proofs.ValuesFit.{Fits, noughts_fit}

-- ---- what is kept

-- a result whose value has 64 bits
abbrev pub ResultFits : TxResult → Type 0
ResultFits (Value v) = Fits v
ResultFits (Fail code) = Unit {0}

-- what goes on is a control that may be met, and what ended has a result within 64 bits
abbrev pub MetNext : {C : Type 0} → (C → Type 0) → Next C → Type 0
MetNext Met (Go a c) = Met c
MetNext Met (Ended r) = ResultFits r

-- Code that leaves states where it finds some, by which controls may be met.
pub record LeavesStates {C : Type 0} (w : Fixed C) (Met : C → Type 0) : Type 0 where
  pub opens : AllByRecursion IsState w.text.opening.states
  pub starts : (t n : ℕ) → Met (w.code.start t (tx_at w.text n))
  pub leaves : (c : C) (s : State) → Met c → IsState s → IsState (w.code.slice c s).state
  pub goes_on : (c : C) (s : State) → Met c → IsState s → MetNext Met (w.code.slice c s).next

pub record CellKeeps {C : Type 0} (Met : C → Type 0) (c : Cell C) : Type 0 where
  pub state : IsState c.state
  pub images : AllByRecursion (λ i. IsState i.state) c.images
  pub inbox : AllByRecursion (λ x. Met x.control) c.inbox
  pub outbox : AllByRecursion (λ x. MetNext Met x.next) c.outbox

pub record Keeps {C : Type 0} (Met : C → Type 0) (s : Machine C) : Type 0 where
  pub posted : AllByRecursion (λ m. Met m.control) s.post.controls
  pub cells : AllByRecursion (CellKeeps Met) s.cells

-- ---- the post

firsts : {C : Type 0} (w : Fixed C) (Met : C → Type 0) (k : ℕ) (ps : List Pact) → LeavesStates w Met → AllByRecursion (λ m. Met m.control) (map (λ q. post.first_control w (OfBatch k) q.tid q.tx) ps)
firsts w Met k [] l = tt
firsts w Met k (p ∷ ps) l = (l.starts p.tid p.tx, firsts w Met k ps l)

goes : {C : Type 0} (Met : C → Type 0) (who : Who) (x : Option (Outcome C)) → If (λ x. MetNext Met x.next) x → AllByRecursion (λ m. Met m.control) (post.handed_on who x)
goes Met who None h = tt
goes {C} Met who (Some x) h = by x.next h
  where
    by : (n : Next C) → MetNext Met n → AllByRecursion (λ m. Met m.control) (post.going_on who x.tid n)
    by (Go b c) k = (k, tt)
    by (Ended r) k = tt

-- ---- a cell

pub none_keeps : {C : Type 0} (Met : C → Type 0) → CellKeeps Met no_cell
none_keeps Met = record { state = record { len = refl; fields = noughts_fit 16 }; images = tt; inbox = tt; outbox = tt }

came : {C : Type 0} (Met : C → Type 0) (m : Option (ControlMessage C)) → If (λ m. Met m.control) m → AllByRecursion (λ x. Met x.control) (cell.arrived m)
came Met None h = tt
came Met (Some m) h = (h, tt)

came_placed : {C : Type 0} (Met : C → Type 0) (older : Option ℕ) (m : Option (ControlMessage C)) → If (λ m. Met m.control) m → AllByRecursion (λ x. Met x.control) (cell.where_placed older m)
came_placed Met None m h = came Met m h
came_placed Met (Some t) m h = tt

imaged : (who : Who) (s : State) (images : List Image) → IsState s → AllByRecursion (λ i. IsState i.state) images → AllByRecursion (λ i. IsState i.state) (cell.with_image who s images)
imaged who s images is h = by (is_some (image_of who images))
  where
    by : (b : Bool) → AllByRecursion (λ i. IsState i.state) (if b then images else images ++ record { who = who; state = s } ∷ [])
    by true = h
    by false = all_join (λ i. IsState i.state) images (record { who = who; state = s } ∷ []) h (is, tt)

-- one that only reads takes no image
images_left : (reads : Bool) (who : Who) (s : State) (images : List Image) → IsState s → AllByRecursion (λ i. IsState i.state) images → AllByRecursion (λ i. IsState i.state) (cell.images_after reads who s images)
images_left true who s images is h = h
images_left false who s images is h = imaged who s images is h

state_sliced : {C : Type 0} (w : Fixed C) (Met : C → Type 0) (s : State) (o : Option (Waiting C)) → LeavesStates w Met → IsState s → If (λ x. Met x.control) o → IsState (cell.state_after s (cell.sliced w.code s o))
state_sliced w Met s None l is h = is
state_sliced w Met s (Some x) l is h = l.leaves x.control s h is

next_sliced : {C : Type 0} (w : Fixed C) (Met : C → Type 0) (t : ℕ) (s : State) (o : Option (Waiting C)) → LeavesStates w Met → IsState s → If (λ x. Met x.control) o → AllByRecursion (λ x. MetNext Met x.next) (cell.outcomes t (cell.sliced w.code s o))
next_sliced w Met t s None l is h = tt
next_sliced w Met t s (Some x) l is h = (l.goes_on x.control s h is, tt)

run_keeps : {C : Type 0} (w : Fixed C) (Met : C → Type 0) (t a : ℕ) (c : Cell C) → LeavesStates w Met → CellKeeps Met c → CellKeeps Met (cell.slice_run w.code t a c)
run_keeps w Met t a c l h =
    let waits = all_found (λ x. Met x.control) (λ x. x.tid == t) c.inbox h.inbox in
    record {
      state = state_sliced w Met c.state (waiting_of t c.inbox) l h.state waits;
      images = images_left (cell.reads_on t c.entries) _ c.state c.images h.state h.images;
      inbox = all_filter (λ x. Met x.control) _ c.inbox h.inbox;
      outbox = all_join (λ x. MetNext Met x.next) c.outbox _ h.outbox (next_sliced w Met t c.state (waiting_of t c.inbox) l h.state waits);
    }

from_image : (s : State) (o : Option Image) → IsState s → If (λ i. IsState i.state) o → IsState (cell.state_from s o)
from_image s None is h = is
from_image s (Some i) is h = h

back_keeps : {C : Type 0} (Met : C → Type 0) (s : Machine C) (c : Cell C) → CellKeeps Met c → CellKeeps Met (cell.rolled_back s.book.cascades c)
back_keeps Met s c h = record {
  state = from_image c.state _ h.state (all_found (λ i. IsState i.state) _ c.images h.images);
  images = all_filter (λ i. IsState i.state) _ c.images h.images;
  inbox = all_filter (λ x. Met x.control) _ c.inbox h.inbox;
  outbox = all_filter (λ x. MetNext Met x.next) _ c.outbox h.outbox;
}

left_keeps : {C : Type 0} (Met : C → Type 0) (t : ℕ) (x : Option Act) (c : Cell C) → CellKeeps Met c → CellKeeps Met (cell.act_left t x c)
left_keeps Met t x c h = record {
  state = by (cell.is_undone_act x);
  images = all_filter (λ i. IsState i.state) _ c.images h.images;
  inbox = all_filter (λ x. Met x.control) _ c.inbox h.inbox;
  outbox = all_filter (λ x. MetNext Met x.next) _ c.outbox h.outbox;
}
  where
    by : (b : Bool) → IsState (if b then cell.state_from c.state (image_of (OfAct t) c.images) else c.state)
    by true = from_image c.state (image_of (OfAct t) c.images) h.state (all_found (λ i. IsState i.state) _ c.images h.images)
    by false = h.state

-- ---- an event

pub here : {C : Type 0} (Met : C → Type 0) (s : Machine C) (a : ℕ) → Keeps Met s → CellKeeps Met (cell_at s a)
here Met s a h = all_get (CellKeeps Met) s.cells a no_cell (none_keeps Met) h.cells

-- one cell becomes another one
one : {C : Type 0} (Met : C → Type 0) (s : Machine C) (a : ℕ) (c : Cell C) → CellKeeps Met c → Keeps Met s → AllByRecursion (CellKeeps Met) (slice_set s.cells a c)
one Met s a c k h = all_set (CellKeeps Met) s.cells a c k h.cells

fewer : {C : Type 0} (Met : C → Type 0) (s : Machine C) (p : ControlMessage C → Bool) → Keeps Met s → AllByRecursion (λ m. Met m.control) (filter p s.post.controls)
fewer Met s p h = all_filter (λ m. Met m.control) p s.post.controls h.posted

taken : {C : Type 0} (Met : C → Type 0) (s : Machine C) (t : ℕ) → Keeps Met s → If (λ m. Met m.control) (control_of t s.post.controls)
taken Met s t h = all_found (λ m. Met m.control) (λ m. m.tid == t) s.post.controls h.posted

pub event_keeps : {C : Type 0} (w : Fixed C) (Met : C → Type 0) (e : Event) (s : Machine C) → LeavesStates w Met → Keeps Met s → Keeps Met (after w e s)
unfolding after
event_keeps w Met (Form k) s l h = record { posted = all_join (λ m. Met m.control) s.post.controls _ h.posted (firsts w Met _ (ring.planned w.text k s.ring).pacts l); cells = h.cells }
event_keeps w Met (Admit t) s l h = record { posted = all_join (λ m. Met m.control) s.post.controls _ h.posted (l.starts t (post.next_act s.ring), tt); cells = h.cells }
event_keeps w Met (Arrive k a) s l h = let c = here Met s a h in record { posted = h.posted; cells = one Met s a _ (record { state = c.state; images = c.images; inbox = c.inbox; outbox = c.outbox }) h }
event_keeps w Met (Ask t a) s l h =
    let c = here Met s a h in
    record { posted = fewer Met s _ h; cells = one Met s a _ (record { state = c.state; images = c.images; inbox = all_join (λ x. Met x.control) (cell_at s a).inbox _ c.inbox (came_placed Met _ (control_of t s.post.controls) (taken Met s t h)); outbox = c.outbox }) h }
event_keeps w Met (Take t a) s l h =
    let c = here Met s a h in
    record { posted = fewer Met s _ h; cells = one Met s a _ (record { state = c.state; images = c.images; inbox = all_join (λ x. Met x.control) (cell_at s a).inbox _ c.inbox (came Met (control_of t s.post.controls) (taken Met s t h)); outbox = c.outbox }) h }
event_keeps w Met (Run t a) s l h = record { posted = h.posted; cells = one Met s a _ (run_keeps w Met t a (cell_at s a) l (here Met s a h)) h }
event_keeps w Met (Send t a) s l h =
    let c = here Met s a h in
    record {
      posted = all_join (λ m. Met m.control) s.post.controls _ h.posted (goes Met _ (outcome_of t (cell_at s a).outbox) (all_found (λ x. MetNext Met x.next) (λ x. x.tid == t) (cell_at s a).outbox c.outbox));
      cells = one Met s a _ (record { state = c.state; images = c.images; inbox = c.inbox; outbox = all_filter (λ x. MetNext Met x.next) _ (cell_at s a).outbox c.outbox }) h;
    }
event_keeps w Met (End t a) s l h = let c = here Met s a h in record { posted = h.posted; cells = one Met s a _ (record { state = c.state; images = c.images; inbox = c.inbox; outbox = all_filter (λ x. MetNext Met x.next) _ (cell_at s a).outbox c.outbox }) h }
event_keeps w Met (Close t a) s l h = let c = here Met s a h in record { posted = h.posted; cells = one Met s a _ (record { state = c.state; images = c.images; inbox = c.inbox; outbox = c.outbox }) h }
event_keeps w Met (Complete k a) s l h = let c = here Met s a h in record { posted = h.posted; cells = one Met s a _ (record { state = c.state; images = c.images; inbox = c.inbox; outbox = c.outbox }) h }
event_keeps w Met (Rollback a) s l h = record { posted = h.posted; cells = one Met s a _ (back_keeps Met s (cell_at s a) (here Met s a h)) h }
event_keeps w Met (DropControl t) s l h = record { posted = fewer Met s _ h; cells = h.cells }
event_keeps w Met (Finish t a) s l h = record { posted = h.posted; cells = one Met s a _ (left_keeps Met t (act_of t s.book.acts) (cell_at s a) (here Met s a h)) h }
event_keeps w Met (Trim k a) s l h = let c = here Met s a h in record { posted = h.posted; cells = one Met s a _ (record { state = c.state; images = all_filter (λ i. IsState i.state) _ (cell_at s a).images c.images; inbox = c.inbox; outbox = c.outbox }) h }
event_keeps w Met _ s l h = record { posted = h.posted; cells = h.cells }

pub opening_keeps : {C : Type 0} (w : Fixed C) (Met : C → Type 0) → LeavesStates w Met → Keeps Met (opening w)
opening_keeps {C} w Met l = record { posted = tt; cells = new w.text.opening.states l.opens }
  where
    new : (states : List State) → AllByRecursion IsState states → AllByRecursion (CellKeeps Met) (map (new_cell {C = C} (base w.text)) states)
    new [] h = tt
    new (s ∷ states) h = (record { state = h.0; images = tt; inbox = tt; outbox = tt }, new states h.1)
