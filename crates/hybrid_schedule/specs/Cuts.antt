-- A schedule that is cut at its first batch that is not below a number.
use Rattle.std.specs.Prelude.{ℕ, nat_le, max, Bool, false, if◌then◌else◌, List, [], ◌∷◌}
use Rattle.protocol.specs.Parts.{Entry, BatchEntry, ActEntry}
use Rattle.protocol.specs.Words.{batches_on, greatest, has_entry}
use Rattle.protocol.specs.CellParts.{HybridSchedule}

-- it is a batch from k on
abbrev pub is_batch_from : ℕ → Entry → Bool
is_batch_from k (BatchEntry b) = nat_le k b.bid
is_batch_from k (ActEntry x) = false

-- what stays of a schedule
abbrev pub staying_below : ℕ → List Entry → List Entry
staying_below k [] = []
staying_below k (e ∷ es) = if is_batch_from k e then [] else e ∷ staying_below k es

-- what goes
abbrev pub going_from : ℕ → List Entry → List Entry
going_from k [] = []
going_from k (e ∷ es) = if is_batch_from k e then e ∷ es else going_from k es

-- by what the cut takes, the transaction runs
abbrev pub is_cut_off : ℕ → ℕ → List Entry → Bool
is_cut_off t k entries = has_entry t (going_from k entries)

abbrev pub cut_from : ℕ → ℕ → HybridSchedule → HybridSchedule
cut_from k epoch h = record {
  epoch = epoch;
  last = max h.last_trimmed (greatest (batches_on (staying_below k h.entries)));
  last_trimmed = h.last_trimmed;
  tail = 0;
  entries = staying_below k h.entries;
}
