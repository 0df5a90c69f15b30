-- What a pool keeps, as its callers see it.
use Rattle.std.specs.Prelude.{◌≡◌, ◌≢◌, ℕ, List, [], Option, None, IsSome, slice_index_or}
use Rattle.snap_base.specs.declared.transactions.State.{State}

-- the state in each live slot, and how many slots are spare
pub record Region : Type 0 where
  pub states : List (Option State)
  pub spare : ℕ

-- nothing is kept
abbrev pub no_states : ℕ → Region
no_states slots = record { states = []; spare = slots }

-- the state in a slot, where it is live
abbrev pub state_in_slot : ℕ → Region → Option State
state_in_slot slot r = slice_index_or r.states slot None

-- an image of the pool is in the slot
abbrev pub IsLive : ℕ → Region → Type 0
IsLive slot r = IsSome (state_in_slot slot r)

-- the new region has this in the slot, and every other slot has what it had
pub record Changes (old new : Region) (slot : ℕ) (state : Option State) : Type 0 where
  pub changed : state_in_slot slot new ≡ state
  pub others : (other : ℕ) → other ≢ slot → state_in_slot other new ≡ state_in_slot other old
