use Rattle.std.proofs.Common.{Option, Some, List, option_map, slice_set, map, ap, ◌∙◌}
use Rattle.std.proofs.lemmas.List.{map-set}
use Rattle.aml_slice.specs.Controls.{Rest}
use Rattle.protocol.specs.Parts.{Cell}
use Rattle.snap_hand.specs.Hands.{Parts}
use Rattle.snap_hand.proofs.hand.Hand.put_cell.Goals as goal

pub returns : goal.returns
returns c =
    let with_cells : List (Option (Cell Rest)) → Parts = λ xs. record { ring = option_map (λ x. x.value) c.self.inside.ring; book = option_map (λ x. x.value) c.self.inside.book; post = option_map (λ p. p.value.messages) c.self.inside.post; desk = option_map (λ x. x.value) c.self.inside.desk; logs = map (option_map (λ l. l.value.log)) c.self.inside.logs.items; cells = xs } in
    ap with_cells (map-set (option_map (λ x. x.value.cell)) c.self.inside.cells.items c.args.a.0 (Some c.args.cell))
    ∙ ap (λ (h : Parts). record h { cells = slice_set h.cells c.args.a.0 (Some c.args.cell.value.cell) }) c.self.view_is
