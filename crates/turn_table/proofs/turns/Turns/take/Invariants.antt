use Rattle.turn_table.specs.Runs.{Fits}
use Rattle.turn_table.proofs.turns.Turns.take.Given as goal

abbrev pub ghosts-take_told : goal.ghosts-take_told
ghosts-take_told g a = let t = a.self.now.table.shared.key.tables.value in record {
  facts = λ w. Fits (g.P.Piece.footprint t) (g.P.Piece.happens t) a.self.now.table.shared.key.parts.value.items w.held w.entries;
  after = λ v n. v;
}
