-- The messages of one kind as contracts see them.
use Rattle.std.specs.Prelude.{ℕ, List}

-- messages with their keys, in the order of posting, and for how many more there is room
pub record Messages (K M : Type 0) : Type 0 where
  pub entries : List (K × M)
  pub spare : ℕ
