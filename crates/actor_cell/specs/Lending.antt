-- What a cell ends as, where its state is lent.
use Rattle.std.specs.Borrow.{Lends, MutBor, Fml}
use Rattle.snap_base.specs.declared.transactions.State.{State}
use Rattle.snap_base.specs.contracts.transactions.State.{the_row as state_row}
use Rattle.protocol.specs.CellParts.{Store}
use Rattle.actor_cell.specs.contracts.cell.Cell.{the_row}

abbrev pub with_state : Store → State → Store
with_state s state = record s { state = state }

-- once the borrow r ends, the state is the last one written through r
abbrev pub LendsState : MutBor Store → MutBor State → Fml
LendsState s r = Lends the_row state_row s r (with_state s.now)
