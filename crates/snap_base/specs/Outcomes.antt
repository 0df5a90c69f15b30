-- What becomes of a transaction that runs alone, and of a list of them, one after the other.
use Rattle.std.specs.Prelude.{List}
use Rattle.snap_base.specs.declared.transactions.State.{State}
use Rattle.snap_base.specs.declared.transactions.TxResult.{TxResult}

-- its result, and the world that it leaves: the states of all actors
pub record Alone : Type 0 where
  pub result : TxResult
  pub world : List State

-- their results, and the world that they leave
pub record Serial : Type 0 where
  pub results : List TxResult
  pub world : List State
