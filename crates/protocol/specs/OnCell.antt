-- What the events do to a cell.
use Rattle.std.specs.Prelude.{ℕ, ◌==◌, max, Bool, true, false, not, ◌||◌, if◌then◌else◌, Option, Some, None, is_some, List, [], ◌∷◌, ◌++◌, length, map, filter, find}
use Rattle.std.specs.List.{list_any}
use Rattle.snap_base.specs.declared.transactions.State.{State}
use Rattle.protocol.specs.Fixed.{Next, Go, Ended, Sliced, Code}
use Rattle.protocol.specs.Rivals.{Lock}
use Rattle.protocol.specs.Parts.{Act, Cascade, FloorPair, Who, OfBatch, OfAct, SubBatch, ControlMessage, Slot, Entry, BatchEntry, ActEntry, Image, Waiting, Outcome, Cell}
use Rattle.protocol.specs.Words.{is_aborted, is_doomed, is_sealed, is_failure, is_batch_entry, is_act_entry, holds, is_reader_entry, is_entry_of, who_of, who_on, is_who, waiting_of, without_waiting, without_outcome, image_of, batches_on, greatest}

-- ---- what is placed at the end of the schedule

abbrev pub not_done : ℕ → Slot
not_done t = record { tid = t; done = false }

abbrev pub batch_entries : ℕ → Option SubBatch → List Entry
batch_entries k None = []
batch_entries k (Some m) = BatchEntry (record { bid = k; slots = map not_done m.tids; complete = false }) ∷ []

abbrev pub batch_placed : {C : Type 0} → ℕ → Option SubBatch → Cell C → Cell C
batch_placed k m c = record c { entries = c.entries ++ batch_entries k m; tail = k; last = k }

abbrev pub arrived : {C : Type 0} → Option (ControlMessage C) → List (Waiting C)
arrived None = []
arrived (Some m) = record { tid = m.tid; control = m.control } ∷ []

abbrev pub act_entries : Lock → Option ℕ → List Entry
act_entries x None = ActEntry x ∷ []
act_entries x (Some older) = []

abbrev pub where_placed : {C : Type 0} → Option ℕ → Option (ControlMessage C) → List (Waiting C)
where_placed None m = arrived m
where_placed (Some older) m = []

-- where an older one is in its way, nothing is placed
abbrev pub act_placed : {C : Type 0} → Lock → Option ℕ → Option (ControlMessage C) → Cell C → Cell C
act_placed x older m c = record c { entries = c.entries ++ act_entries x older; inbox = c.inbox ++ where_placed older m }

abbrev pub control_came : {C : Type 0} → Option (ControlMessage C) → Cell C → Cell C
control_came m c = record c { inbox = c.inbox ++ arrived m }

-- ---- marks on the entries

abbrev pub done_if : ℕ → Slot → Slot
done_if t s = record s { done = s.done || (s.tid == t) }

-- the PACT is done on this actor
abbrev pub done_in : ℕ → Entry → Entry
done_in t (BatchEntry b) = BatchEntry (record b { slots = map (done_if t) b.slots })
done_in t (ActEntry x) = ActEntry x

abbrev pub complete_in : ℕ → Entry → Entry
complete_in k (BatchEntry b) = BatchEntry (record b { complete = b.complete || (b.bid == k) })
complete_in k (ActEntry x) = ActEntry x

abbrev pub pact_closed : {C : Type 0} → ℕ → Cell C → Cell C
pact_closed t c = record c { entries = map (done_in t) c.entries }

abbrev pub batch_completed : {C : Type 0} → ℕ → Cell C → Cell C
batch_completed k c = record c { entries = map (complete_in k) c.entries }

-- ---- a slice runs

abbrev pub sliced : {C : Type 0} → Code C → State → Option (Waiting C) → Option (Sliced C)
sliced code s None = None
sliced code s (Some x) = Some (code.slice x.control s)

abbrev pub state_after : {C : Type 0} → State → Option (Sliced C) → State
state_after s None = s
state_after s (Some r) = r.state

abbrev pub outcomes : {C : Type 0} → ℕ → Option (Sliced C) → List (Outcome C)
outcomes t None = []
outcomes t (Some r) = record { tid = t; next = r.next } ∷ []

-- it ended, or nothing of it rests on the actor any more
abbrev pub is_through : {C : Type 0} → Code C → ℕ → Next C → Bool
is_through code a (Go b control) = not (code.rests_on control a)
is_through code a (Ended r) = true

abbrev pub is_done_after : {C : Type 0} → Code C → ℕ → Option (Sliced C) → Bool
is_done_after code a None = false
is_done_after code a (Some r) = is_through code a r.next

-- the first run of an entry keeps an image of the state
abbrev pub with_image : Who → State → List Image → List Image
with_image who s images = if is_some (image_of who images) then images else images ++ record { who = who; state = s } ∷ []

-- the transaction's entry is that of a reader: it changes nothing, and no image is kept
abbrev pub reads_on : ℕ → List Entry → Bool
reads_on t entries = holds is_reader_entry (find (is_entry_of t) entries)

abbrev pub images_after : Bool → Who → State → List Image → List Image
images_after true who s images = images
images_after false who s images = with_image who s images

abbrev pub slice_of : {C : Type 0} → Code C → ℕ → Cell C → Option (Sliced C)
slice_of code t c = sliced code c.state (waiting_of t c.inbox)

abbrev pub slice_run : {C : Type 0} → Code C → ℕ → ℕ → Cell C → Cell C
slice_run code t a c = record c {
  state = state_after c.state (slice_of code t c);
  images = images_after (reads_on t c.entries) (who_on t c.entries) c.state c.images;
  entries = if is_done_after code a (slice_of code t c) then map (done_in t) c.entries else c.entries;
  inbox = without_waiting t c.inbox;
  outbox = c.outbox ++ outcomes t (slice_of code t c);
}

abbrev pub outcome_taken : {C : Type 0} → ℕ → Cell C → Cell C
outcome_taken t c = record c { outbox = without_outcome t c.outbox }

-- ---- entries go, with what belongs to them

abbrev pub is_entry_among : Who → List Entry → Bool
is_entry_among who entries = list_any (λ e. is_who (who_of e) who) entries

abbrev pub is_tid_among : ℕ → List Entry → Bool
is_tid_among t entries = list_any (is_entry_of t) entries

abbrev pub state_from : State → Option Image → State
state_from s None = s
state_from s (Some i) = i.state

-- The state as it was before the first of these entries ran. Images are kept in the order of first runs.
abbrev pub state_before : List Entry → State → List Image → State
state_before gone s images = state_from s (find (λ i. is_entry_among i.who gone) images)

abbrev pub images_without : List Entry → List Image → List Image
images_without gone images = filter (λ i. not (is_entry_among i.who gone)) images

abbrev pub inbox_without : {C : Type 0} → List Entry → List (Waiting C) → List (Waiting C)
inbox_without gone inbox = filter (λ x. not (is_tid_among x.tid gone)) inbox

abbrev pub outbox_without : {C : Type 0} → List Entry → List (Outcome C) → List (Outcome C)
outbox_without gone outbox = filter (λ x. not (is_tid_among x.tid gone)) outbox

-- ---- rollback: the schedule is cut at the first aborted batch

-- it is an aborted batch
abbrev pub is_cut : List Cascade → Who → Bool
is_cut cascades (OfBatch k) = is_aborted k cascades
is_cut cascades (OfAct t) = false

-- what stays of a schedule
abbrev pub staying : List Cascade → List Entry → List Entry
staying cascades [] = []
staying cascades (e ∷ es) = if is_cut cascades (who_of e) then [] else e ∷ staying cascades es

-- what goes
abbrev pub going : List Cascade → List Entry → List Entry
going cascades [] = []
going cascades (e ∷ es) = if is_cut cascades (who_of e) then e ∷ es else going cascades es

abbrev pub rolled_back : {C : Type 0} → List Cascade → Cell C → Cell C
rolled_back cascades c = record c {
  state = state_before (going cascades c.entries) c.state c.images;
  images = images_without (going cascades c.entries) c.images;
  epoch = length cascades;
  last = max c.last_trimmed (greatest (batches_on (staying cascades c.entries)));
  tail = 0;
  entries = staying cascades c.entries;
  inbox = inbox_without (going cascades c.entries) c.inbox;
  outbox = outbox_without (going cascades c.entries) c.outbox;
}

-- ---- an ACT leaves

-- what it did on the actor is undone
abbrev pub is_undone_act : Option Act → Bool
is_undone_act None = false
is_undone_act (Some x) = is_doomed x.status || is_failure x.result

-- the floors that an ACT's before number raises
abbrev pub raised_floors : Bool → ℕ → FloorPair → FloorPair
raised_floors true m f = record f { read = max f.read m }
raised_floors false m f = record f { write = max f.write m }

-- the floors that it leaves
abbrev pub floors_after : FloorPair → Option Act → FloorPair
floors_after floors None = floors
floors_after floors (Some x) = if is_sealed x.status then raised_floors x.reader x.m floors else floors

abbrev pub own_entries : ℕ → List Entry → List Entry
own_entries t entries = filter (is_act_entry t) entries

-- what the book knows of ACT t
abbrev pub act_left : {C : Type 0} → ℕ → Option Act → Cell C → Cell C
act_left t x c = record c {
  state = if is_undone_act x then state_from c.state (image_of (OfAct t) c.images) else c.state;
  images = filter (λ i. not (is_who (OfAct t) i.who)) c.images;
  floors = floors_after c.floors x;
  entries = filter (λ e. not (is_act_entry t e)) c.entries;
  inbox = inbox_without (own_entries t c.entries) c.inbox;
  outbox = outbox_without (own_entries t c.entries) c.outbox;
}

-- ---- a settled batch leaves

abbrev pub batch_left : {C : Type 0} → ℕ → Cell C → Cell C
batch_left k c = record c {
  images = filter (λ i. not (is_who (OfBatch k) i.who)) c.images;
  last_trimmed = max c.last_trimmed k;
  entries = filter (λ e. not (is_batch_entry k e)) c.entries;
}
