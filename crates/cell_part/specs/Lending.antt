-- What a cell ends as, where its state is lent.
use Rattle.snap_base.specs.declared.transactions.State.{State}
use Rattle.cell_part.specs.Room.{Roomed}
use Rattle.cell_part.specs.Running.{written}

abbrev pub cell_with_state : {C : Type 0} → Roomed C → State → Roomed C
cell_with_state v s = record v { cell = written s v.cell }
