use Rattle.std.proofs.Common.{◌≡◌}
use Rattle.turn_table.specs.Places.{IsIdle}
use Rattle.turn_rows.proofs.workers.count.Given as goal

abbrev pub invariant-loop : goal.invariant-loop
invariant-loop g l = (l.pass.seat.table_id ≡ l.turns.table.shared.table_id) × IsIdle l.pass.seat.me.0.held × (l.pass.seat.me.0.splits ≡ l.initial.pass.seat.me.0.splits)
