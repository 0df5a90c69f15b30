use Rattle.std.proofs.Common.{◌≡◌, ◌++◌, take}
use Rattle.txn_records.specs.Records.{states_bytes}
use Rattle.txn_records.proofs.encoding.put_states.Given as goal

abbrev pub invariant-loop-state : goal.invariant-loop-state
invariant-loop-state l = l.out.items ≡ l.fn.out.items ++ states_bytes (take l.state-index l.states)
