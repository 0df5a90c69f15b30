-- What contracts see of the cascades.
use Rattle.std.specs.Prelude.{ℕ, nat_le, if◌then◌else◌, Option, Some, None, List}
use Rattle.protocol.specs.Parts.{Cascade}

pub record KeptCascades : Type 0 where
  -- in the order in which they came
  pub list : List Cascade
  -- for how many there is room
  pub most : ℕ

-- the cascade, if it begins at the batch or below
abbrev pub begun_by : ℕ → Option Cascade → Option Cascade
begun_by k None = None
begun_by k (Some c) = if nat_le c.first k then Some c else None
