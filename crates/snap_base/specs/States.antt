-- Which states there are, and actors and transactions as their numbers.
use Rattle.std.specs.Prelude.{◌≡◌, ℕ, List, length, map, FitsSigned}
use Rattle.std.specs.List.{AllByRecursion}
use Rattle.std.specs.Int.{w64}
use Rattle.snap_base.specs.declared.ids.ActorId.{ActorId}
use Rattle.snap_base.specs.declared.ids.Tid.{Tid}
use Rattle.snap_base.specs.declared.transactions.TheConstants.{FIELDS}
use Rattle.snap_base.specs.declared.transactions.State.{State}

-- sixteen numbers of 64 bits with a sign
pub record IsState (s : State) : Type 0 where
  pub len : length s.0 ≡ FIELDS
  pub fields : AllByRecursion (FitsSigned w64) s.0

-- the numbers of the actors, in order
abbrev pub actor_numbers : List ActorId → List ℕ
actor_numbers actors = map (λ (a : ActorId). a.0) actors

-- the numbers of the transactions, in order
abbrev pub tid_numbers : List Tid → List ℕ
tid_numbers tids = map (λ (t : Tid). t.0) tids

-- the transaction with this number
abbrev pub tid_of : ℕ → Tid
tid_of n = record { 0 = n }
