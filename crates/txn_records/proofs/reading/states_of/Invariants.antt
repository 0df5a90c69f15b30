use Rattle.std.proofs.Common.{◌-◌}
use Rattle.txn_records.specs.Records.{IsState, state_bytes}
use Rattle.txn_records.proofs.Lists.{Lists}
use Rattle.txn_records.proofs.SoFar.{ListSoFar}
use Rattle.txn_records.proofs.reading.states_of.Given as goal

abbrev pub invariant-loop-i : goal.invariant-loop-i
invariant-loop-i l = ListSoFar IsState state_bytes (Lists IsState state_bytes l.count) l.bytes l.rest l.states l.i (l.count - l.i)
