-- A schedule as contracts see it: the machine's, and for how much more it has room.
use Rattle.std.specs.Prelude.{ℕ, ◌≤◌}
use Rattle.protocol.specs.CellParts.{HybridSchedule}

pub record RoomedSchedule : Type 0 where
  pub schedule : HybridSchedule
  -- how many more entries, and how many tids of the next sub-batch, take no more memory
  pub spare_entries : ℕ
  pub spare_tids : ℕ

-- there is no less room than there was
pub record KeepsRoom (old new : RoomedSchedule) : Type 0 where
  pub entries : old.spare_entries ≤ new.spare_entries
  pub tids : old.spare_tids ≤ new.spare_tids
