-- The slots of a sub-batch, and between which tids they lie.
use Rattle.std.specs.Prelude.{ℕ, ◌==◌, nat_le, Bool, not, ◌&&◌, ◌||◌, List}
use Rattle.std.specs.List.{list_all}
use Rattle.protocol.specs.Parts.{Slot}

-- the slot of this PACT
abbrev pub is_slot_of : ℕ → Slot → Bool
is_slot_of t s = s.tid == t

-- a slot that this PACT need not wait for
abbrev pub lets_run : ℕ → Slot → Bool
lets_run t s = nat_le t s.tid || s.done

abbrev pub is_undone_of : ℕ → Slot → Bool
is_undone_of t s = (s.tid == t) && not s.done

abbrev pub is_within : ℕ → ℕ → ℕ → Bool
is_within least greatest t = nat_le least t && nat_le t greatest

-- each tid is within these
abbrev pub are_within : ℕ → ℕ → List Slot → Bool
are_within least greatest slots = list_all (λ s. is_within least greatest s.tid) slots
