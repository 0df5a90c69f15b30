use Rattle.std.proofs.Common.{◌≡◌, length}
use Rattle.crew_rows.proofs.rows.serial_states.Given as goal

abbrev pub invariant-loop : goal.invariant-loop
invariant-loop l = length l.serial.items ≡ length l.fn.tables.opening.states
