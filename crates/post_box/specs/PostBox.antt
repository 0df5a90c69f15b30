-- The post as contracts see it.
use Rattle.std.specs.Prelude.{ℕ}
use Rattle.protocol.specs.Parts.{Post}

-- the machine's post, and for how many more sub-batches and controls there is room
pub record PostBox (C : Type 0) : Type 0 where
  pub messages : Post C
  pub spare_subs : ℕ
  pub spare_controls : ℕ
