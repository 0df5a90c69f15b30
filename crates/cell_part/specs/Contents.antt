-- What lies in the boxes, in the machine's words.
use Rattle.std.specs.Prelude.{Option, Some, None}
use Rattle.snap_base.specs.declared.transactions.TxResult.{TxResult}
use Rattle.protocol.specs.Fixed.{Next, Go, Ended}
use Rattle.protocol.specs.Parts.{Waiting, Outcome}

module _ {C : Type 0} where
  abbrev pub waiting_control : Waiting C → C
  waiting_control w = w.control

  abbrev pub outcome_next : Outcome C → Next C
  outcome_next x = x.next

  -- the result that it ended with, where it is at its end
  abbrev pub next_result : Next C → Option TxResult
  next_result (Go actor control) = None
  next_result (Ended result) = Some result

  abbrev pub outcome_result : Outcome C → Option TxResult
  outcome_result x = next_result x.next
