-- Each tid and each batch number that lies anywhere was drawn in this run, and each actor that is named exists.
use Rattle.std.specs.Prelude.{◌≡◌, ℕ, ◌<◌, ◌≤◌, length}
use Rattle.std.specs.List.{AllByRecursion}
use Rattle.protocol.specs.Fixed.{Fixed}
use Rattle.protocol.specs.Parts.{SubBatch, Batch, Act, Cell, Machine}
use Rattle.protocol.specs.Words.{batches_on}

-- not below the first number, and below the second one
pub record IsWithin (low high n : ℕ) : Type 0 where
  pub reached : low ≤ n
  pub below : n < high

abbrev pub IsDrawnTid : {C : Type 0} → Fixed C → Machine C → ℕ → Type 0
IsDrawnTid w s t = IsWithin w.text.opening.next_tid s.ring.next_tid t

abbrev pub IsDrawnBid : {C : Type 0} → Fixed C → Machine C → ℕ → Type 0
IsDrawnBid w s k = IsWithin w.text.opening.next_bid s.ring.next_bid k

abbrev pub IsActor : {C : Type 0} → Fixed C → ℕ → Type 0
IsActor w a = a < length w.text.opening.states

pub record SubInRange {C : Type 0} (w : Fixed C) (s : Machine C) (m : SubBatch) : Type 0 where
  pub bid : IsDrawnBid w s m.bid
  pub actor : IsActor w m.actor

pub record CellInRange {C : Type 0} (w : Fixed C) (s : Machine C) (c : Cell C) : Type 0 where
  pub inbox : AllByRecursion (λ x. IsDrawnTid w s x.tid) c.inbox
  pub outbox : AllByRecursion (λ x. IsDrawnTid w s x.tid) c.outbox
  pub batches : AllByRecursion (IsDrawnBid w s) (batches_on c.entries)

pub record BatchInRange {C : Type 0} (w : Fixed C) (s : Machine C) (b : Batch) : Type 0 where
  pub bid : IsDrawnBid w s b.bid
  pub actors : AllByRecursion (λ p. IsActor w p.actor) b.places
  pub tids : AllByRecursion (λ p. IsDrawnTid w s p.tid) b.pacts

pub record ActInRange {C : Type 0} (w : Fixed C) (s : Machine C) (x : Act) : Type 0 where
  pub tid : IsDrawnTid w s x.tid
  pub actors : AllByRecursion (λ p. IsActor w p.actor) x.places

pub record NumbersInRange {C : Type 0} (w : Fixed C) (s : Machine C) : Type 0 where
  -- as many cells as actors, and a mark for each transaction whether it was replied to
  pub actors : length s.cells ≡ length w.text.opening.states
  pub replied : length s.desk.replied ≡ length w.text.txs
  pub subs : AllByRecursion (SubInRange w s) s.post.subs
  pub controls : AllByRecursion (λ m. IsDrawnTid w s m.tid) s.post.controls
  pub cells : AllByRecursion (CellInRange w s) s.cells
  pub batches : AllByRecursion (BatchInRange w s) s.desk.batches
  pub acts : AllByRecursion (ActInRange w s) s.book.acts
