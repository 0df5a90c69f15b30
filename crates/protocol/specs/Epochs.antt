-- The batches of an epoch on an actor, and what a sub-batch's message says of them.
use Rattle.std.specs.Prelude.{◌≡◌, ℕ, ◌<◌, ◌≤◌, ◌==◌, nat_lt, Bool, true, false, ◌&&◌, List, length, map, filter, slice_index_or}
use Rattle.std.specs.List.{AllByRecursion}
use Rattle.protocol.specs.Fixed.{Fixed}
use Rattle.protocol.specs.Parts.{Cascade, SubBatch, Batch, Cell, Machine}
use Rattle.protocol.specs.Words.{is_among, greatest, is_aborted, epoch_of, batches_on}

-- the batch is below a number, of this epoch, and has the actor
abbrev pub is_of : ℕ → ℕ → ℕ → List Cascade → Batch → Bool
is_of k e a cascades b = nat_lt b.bid k && ((epoch_of b.bid cascades == e) && is_among a (map (λ p. p.actor) b.places))

-- the last batch below a number, of an epoch, that has the actor, or 0
abbrev pub last_below : {C : Type 0} → ℕ → ℕ → ℕ → Machine C → ℕ
last_below k e a s = greatest (map (λ b. b.bid) (filter (is_of k e a s.book.cascades) s.desk.batches))

-- a message tells the epoch of its batch, and the batch before it in this epoch on its actor
pub record NamesItsPlace {C : Type 0} (s : Machine C) (m : SubBatch) : Type 0 where
  pub formed : m.bid < s.ring.next_bid
  pub epoch : m.epoch ≡ epoch_of m.bid s.book.cascades
  pub prev : m.prev ≡ last_below m.bid m.epoch m.actor s

pub record EpochsAgree {C : Type 0} (w : Fixed C) (s : Machine C) : Type 0 where
  -- the ring has counted the cascades
  pub counted : s.ring.epoch ≡ length s.book.cascades
  -- each ends with a batch that was formed
  pub ended : AllByRecursion (λ c. c.upto < s.ring.next_bid) s.book.cascades
  -- the ring knows the last batch of this epoch on each actor
  pub lasts : (a : ℕ) → a < length s.ring.lasts → slice_index_or s.ring.lasts a 0 ≡ last_below s.ring.next_bid s.ring.epoch a s
  pub subs : AllByRecursion (NamesItsPlace s) s.post.subs

-- A cell may be behind the cascades. No batch on it is of a later epoch than the cell, an aborted one is of just
-- that epoch, and a cell of the present epoch has no aborted one.
pub record CellAgrees {C : Type 0} (s : Machine C) (c : Cell C) : Type 0 where
  pub behind : c.epoch ≤ length s.book.cascades
  pub placed : AllByRecursion (λ k. epoch_of k s.book.cascades ≤ c.epoch) (batches_on c.entries)
  pub aborted : AllByRecursion (λ k. is_aborted k s.book.cascades ≡ true → epoch_of k s.book.cascades ≡ c.epoch) (batches_on c.entries)
  pub present : c.epoch ≡ length s.book.cascades → AllByRecursion (λ k. is_aborted k s.book.cascades ≡ false) (batches_on c.entries)

abbrev pub CellsAgree : {C : Type 0} → Fixed C → Machine C → Type 0
CellsAgree w s = AllByRecursion (CellAgrees s) s.cells
