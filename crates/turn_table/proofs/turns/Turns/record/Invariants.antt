use Rattle.turn_table.specs.Runs.{Fits}
use Rattle.turn_table.specs.Views.{noted}
use Rattle.turn_table.proofs.turns.Turns.record.Given as goal

abbrev pub ghosts-record_told : goal.ghosts-record_told
ghosts-record_told g a = let t = a.self.now.table.shared.key.tables.value in record {
  facts = λ w. Fits (g.P.Piece.footprint t) (g.P.Piece.happens t) a.self.now.table.shared.key.parts.value.items w.held w.entries;
  after = λ v n. noted (g.P.Piece.footprint t) v n a.event.now (g.M.Makes.made a.values.now a.event.now);
}
