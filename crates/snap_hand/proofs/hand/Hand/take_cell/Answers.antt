use Rattle.std.proofs.Common.{Option, Some, None, List, option_map, slice_get, slice_set, map, sym, ap, ◌∙◌}
use Rattle.std.proofs.lemmas.List.{map-set}
use Rattle.aml_slice.specs.Controls.{Rest}
use Rattle.protocol.specs.Parts.{Cell}
use Rattle.std.proofs.lemmas.Option.{slice_get-map}
use Rattle.snap_hand.specs.Hands.{Parts}
use Rattle.snap_hand.proofs.InLists.{there_is}
use Rattle.snap_hand.proofs.hand.Hand.take_cell.Goals as goal

pub returns-clause-there : goal.returns-clause-there
returns-clause-there c =
    ap (λ h. slice_get h.cells c.args.a.0) (sym c.self.view_is)
    ∙ (slice_get-map (option_map (λ x. x.value.cell)) c.self.inside.cells.items c.args.a.0
    ∙ ap (option_map (option_map (λ x. x.value.cell))) (there_is (option_map (λ x. x.value.cell)) c.self.inside.cells.items c.args.a.0 c.index_mut.result.now _ c.index_mut.ensures.value (ap (λ h. slice_get h.cells c.args.a.0) c.self.view_is ∙ c.requires.1) ∙ ap Some (sym c.take.ensures.value ∙ c.unwrap.ensures)))

pub returns-clause-taken : goal.returns-clause-taken
returns-clause-taken c =
    let with_cells : List (Option (Cell Rest)) → Parts = λ xs. record { ring = option_map (λ x. x.value) c.self.inside.ring; book = option_map (λ x. x.value) c.self.inside.book; post = option_map (λ p. p.value.messages) c.self.inside.post; desk = option_map (λ x. x.value) c.self.inside.desk; logs = map (option_map (λ l. l.value.log)) c.self.inside.logs.items; cells = xs } in
    ap with_cells (map-set (option_map (λ x. x.value.cell)) c.self.inside.cells.items c.args.a.0 c.take.new.self ∙ ap (λ o. slice_set (map (option_map (λ x. x.value.cell)) c.self.inside.cells.items) c.args.a.0 (option_map (λ x. x.value.cell) o)) c.take.ensures.after)
    ∙ ap (λ (h : Parts). record h { cells = slice_set h.cells c.args.a.0 None }) c.self.view_is
