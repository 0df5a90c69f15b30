-- A cell is a store, a hybrid schedule and boxes, held by three values that do not know each other: what each event does to
-- each of them.
use Rattle.std.specs.Prelude.{ℕ, max, Bool, not, if◌then◌else◌, Option, List, ◌++◌, length, map, filter}
use Rattle.snap_base.specs.declared.transactions.State.{State}
use Rattle.protocol.specs.Fixed.{Sliced}
use Rattle.protocol.specs.Rivals.{Lock}
use Rattle.protocol.specs.Parts.{FloorPair, Act, Cascade, Who, OfAct, SubBatch, ControlMessage, Entry, Image, Waiting, Outcome, Cell}
use Rattle.protocol.specs.Words.{is_batch_entry, is_act_entry, is_who, without_waiting, without_outcome, image_of, batches_on, greatest}
use Rattle.protocol.specs.OnCell.{batch_entries, act_entries, arrived, where_placed, done_in, complete_in, state_after, outcomes, images_after, state_from, state_before, images_without, inbox_without, outbox_without, staying, is_undone_act, floors_after}

-- the actor's state, what it was when entries first ran, and the floor for who comes
pub record Store : Type 0 where
  pub state : State
  pub images : List Image
  pub floors : FloorPair

-- batches and ACTs in the order in which they stand, and how far batches are
pub record HybridSchedule : Type 0 where
  pub entries : List Entry
  pub epoch : ℕ
  pub last : ℕ
  pub last_trimmed : ℕ
  pub tail : ℕ

-- controls that have arrived, and what slices ended with
pub record Boxes (C : Type 0) : Type 0 where
  pub inbox : List (Waiting C)
  pub outbox : List (Outcome C)

abbrev pub cell_of : {C : Type 0} → Store → HybridSchedule → Boxes C → Cell C
cell_of s h b = record {
  state = s.state;
  images = s.images;
  epoch = h.epoch;
  last = h.last;
  last_trimmed = h.last_trimmed;
  tail = h.tail;
  floors = s.floors;
  entries = h.entries;
  inbox = b.inbox;
  outbox = b.outbox;
}

-- ---- the store

-- a slice of this one ran, which only reads or not, and left this
abbrev pub ran : {C : Type 0} → Bool → Who → Option (Sliced C) → Store → Store
ran reads who x s = record s { state = state_after s.state x; images = images_after reads who s.state s.images }

-- what these entries did is undone
abbrev pub with_undone : List Entry → Store → Store
with_undone gone s = record s { state = state_before gone s.state s.images; images = images_without gone s.images }

-- an ACT leaves, of which the book knows this
abbrev pub parted : ℕ → Option Act → Store → Store
parted t x s = record {
  state = if is_undone_act x then state_from s.state (image_of (OfAct t) s.images) else s.state;
  images = filter (λ i. not (is_who (OfAct t) i.who)) s.images;
  floors = floors_after s.floors x;
}

-- one that leaves takes its image away
abbrev pub without_image : Who → Store → Store
without_image who s = record s { images = filter (λ i. not (is_who who i.who)) s.images }

-- ---- the hybrid schedule

abbrev pub with_batch : ℕ → Option SubBatch → HybridSchedule → HybridSchedule
with_batch k m h = record h { entries = h.entries ++ batch_entries k m; tail = k; last = k }

abbrev pub with_act : Lock → Option ℕ → HybridSchedule → HybridSchedule
with_act x older h = record h { entries = h.entries ++ act_entries x older }

abbrev pub with_done : ℕ → HybridSchedule → HybridSchedule
with_done t h = record h { entries = map (done_in t) h.entries }

abbrev pub with_complete : ℕ → HybridSchedule → HybridSchedule
with_complete k h = record h { entries = map (complete_in k) h.entries }

-- a PACT's slice ran, and it is through on this actor or not
abbrev pub with_slice : Bool → ℕ → HybridSchedule → HybridSchedule
with_slice through t h = record h { entries = if through then map (done_in t) h.entries else h.entries }

abbrev pub cut_at : List Cascade → HybridSchedule → HybridSchedule
cut_at cascades h = record h {
  epoch = length cascades;
  last = max h.last_trimmed (greatest (batches_on (staying cascades h.entries)));
  tail = 0;
  entries = staying cascades h.entries;
}

abbrev pub without_act : ℕ → HybridSchedule → HybridSchedule
without_act t h = record h { entries = filter (λ e. not (is_act_entry t e)) h.entries }

abbrev pub without_batch : ℕ → HybridSchedule → HybridSchedule
without_batch k h = record h { last_trimmed = max h.last_trimmed k; entries = filter (λ e. not (is_batch_entry k e)) h.entries }

-- ---- the boxes

abbrev pub with_control : {C : Type 0} → Option (ControlMessage C) → Boxes C → Boxes C
with_control m b = record b { inbox = b.inbox ++ arrived m }

-- where an older ACT is in the way, the control does not stay
abbrev pub with_asking : {C : Type 0} → Option ℕ → Option (ControlMessage C) → Boxes C → Boxes C
with_asking older m b = record b { inbox = b.inbox ++ where_placed older m }

abbrev pub with_outcome : {C : Type 0} → ℕ → Option (Sliced C) → Boxes C → Boxes C
with_outcome t x b = record { inbox = without_waiting t b.inbox; outbox = b.outbox ++ outcomes t x }

abbrev pub taken_from : {C : Type 0} → ℕ → Boxes C → Boxes C
taken_from t b = record b { outbox = without_outcome t b.outbox }

-- what belongs to these entries goes
abbrev pub cleared : {C : Type 0} → List Entry → Boxes C → Boxes C
cleared gone b = record { inbox = inbox_without gone b.inbox; outbox = outbox_without gone b.outbox }
