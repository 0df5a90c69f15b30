-- The next numbers that recovery gives, above those of all that it finds.
use Rattle.std.specs.Prelude.{◌≡◌, ℕ, ◌+◌, ◌<◌, ◌≤◌, true, Some, max, List}
use Rattle.std.specs.List.{AllByRecursion, flat_map}
use Rattle.snap_base.specs.declared.transactions.State.{State}
use Rattle.snap_base.specs.declared.verdicts.Place.{Place}
use Rattle.protocol.specs.Fixed.{Fixed, base}
use Rattle.protocol.specs.Facts.{Alone}
use Rattle.protocol.specs.Records.{LogRecord}
use Rattle.protocol.specs.Parts.{Act, Who, OfBatch, OfAct, Machine}
use Rattle.protocol.specs.Events.{Event}
use Rattle.protocol.specs.Words.{act_of, greatest, below}
use Rattle.protocol.specs.History.{Done, History}
use Rattle.protocol_records.specs.Crash.{tids_in, bids_in, cs_in, members}
use Rattle.protocol_laws.specs.Ranges.{IsWithin}
use Rattle.protocol_laws.specs.Told.{has_number}

-- the numbers of a kind that the records of so many logs name
abbrev pub numbers_in : (LogRecord → List ℕ) → ℕ → (ℕ → List LogRecord) → List ℕ
numbers_in numbers many logs = flat_map (λ l. flat_map numbers (logs l)) (below many)

-- The next number of a kind: one above the greatest that a record of this run names, and at least the one with which
-- the run began.
abbrev pub next_number : (LogRecord → List ℕ) → ℕ → ℕ → (ℕ → List LogRecord) → ℕ
next_number numbers first many logs = max first (greatest (numbers_in numbers many logs) + 1)

abbrev pub next_tid_of : {C : Type 0} → Fixed C → (ℕ → List LogRecord) → ℕ
next_tid_of w logs = next_number tids_in w.text.opening.next_tid w.text.logs logs

abbrev pub next_bid_of : {C : Type 0} → Fixed C → (ℕ → List LogRecord) → ℕ
next_bid_of w logs = next_number bids_in w.text.opening.next_bid w.text.logs logs

abbrev pub next_c_of : {C : Type 0} → Fixed C → (ℕ → List LogRecord) → ℕ
next_c_of w logs = next_number cs_in w.text.opening.next_c w.text.logs logs

-- A PACT is at its batch, which is not below the opening's next one; an ACT at a batch that is not below the last of earlier
-- runs, and at a number that is not below the opening's next one. And all of them are below these next ones.
abbrev pub IsPlaceWithin : {C : Type 0} → Fixed C → ℕ → ℕ → Who → Place → Type 0
IsPlaceWithin w next_bid next_c (OfBatch k) p = (p.side ≡ 0) × (p.batch.0 ≡ k) × IsWithin w.text.opening.next_bid next_bid k
IsPlaceWithin w next_bid next_c (OfAct t) p = (p.side ≡ 1) × IsWithin (base w.text) next_bid p.batch.0 × IsWithin w.text.opening.next_c next_c p.order

pub record IsNumberedWithin {C : Type 0} (w : Fixed C) (next_tid next_bid next_c : ℕ) (d : Done) : Type 0 where
  pub tid : IsWithin w.text.opening.next_tid next_tid d.tid
  pub place : IsPlaceWithin w next_bid next_c d.who d.place

-- What holds of the next numbers, whatever the logs are left with.
pub record NextNumbersStand {C : Type 0} (w : Fixed C) (finish : C → List State → Alone) (es : List Event) (s : Machine C) (h : History) (logs : ℕ → List LogRecord) : Type 0 where
  -- they are above the numbers of all members, which are not below the opening's
  pub above_members : AllByRecursion (IsNumberedWithin w (next_tid_of w logs) (next_bid_of w logs) (next_c_of w logs)) (members w.text.logs logs h)
  -- no record names one that the run had not drawn
  pub drawn_tid : next_tid_of w logs ≤ s.ring.next_tid
  pub drawn_bid : next_bid_of w logs ≤ s.ring.next_bid
  pub drawn_c : next_c_of w logs ≤ s.book.next_c

-- ---- the numbers of places

-- its commit number is of this run, and the batch before it was drawn
pub record IsPlacedInRun (low high bid : ℕ) (x : Act) (c : ℕ) : Type 0 where
  pub reached : low ≤ c
  pub below : c < high
  pub behind : x.m < bid

abbrev pub ActsDrawn : {C : Type 0} → Fixed C → Machine C → Type 0
ActsDrawn w s = (t : ℕ) (x : Act) → act_of t s.book.acts ≡ Some x → (c : ℕ) → has_number c x.status ≡ true → IsPlacedInRun w.text.opening.next_c s.book.next_c s.ring.next_bid x c
