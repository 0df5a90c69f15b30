use Rattle.part_rows.proofs.Filters.{filter_few}
use Rattle.part_rows.proofs.cells.Cells.make.Goals as goal

pub invariant_of-self : goal.invariant_of-self
invariant_of-self c = rw c.finish_entry.ensures (filter_few _ _ _ c.self.invariant)

pub invariant_of-self-in-Undo : goal.invariant_of-self-in-Undo
invariant_of-self-in-Undo c = rw c.undo_from.ensures (filter_few _ _ _ c.self-in-Undo.invariant)

pub invariant_of-self-in-Trim : goal.invariant_of-self-in-Trim
invariant_of-self-in-Trim c = rw c.trim.ensures (filter_few _ _ _ c.self-in-Trim.invariant)
