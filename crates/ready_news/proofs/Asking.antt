-- What an ACT finds where it asks.
use Rattle.std.specs.Prelude.{ℕ, max, Option, List}
use Rattle.protocol.specs.Effects.{cell_at}
use Rattle.protocol.specs.OnBook.{in_the_way, met}
use Rattle.protocol.specs.Parts.{Machine}
use Rattle.protocol.specs.Rivals.{Lock}
use Rattle.protocol.specs.Words.{floor_at, lock_of}

-- of the rivals that it meets there the oldest that is older, and all of them
abbrev pub older_at : {C : Type 0} → ℕ → ℕ → Machine C → Option ℕ
older_at t a s = in_the_way (lock_of t s.book.acts) (cell_at s a).entries

abbrev pub group_at : {C : Type 0} → ℕ → ℕ → Machine C → List Lock
group_at t a s = met (lock_of t s.book.acts) (cell_at s a).entries

-- the batch that it stands behind at least
abbrev pub behind_at : {C : Type 0} → ℕ → ℕ → Machine C → ℕ
behind_at t a s = max (cell_at s a).last (floor_at t s.book.acts (cell_at s a))
