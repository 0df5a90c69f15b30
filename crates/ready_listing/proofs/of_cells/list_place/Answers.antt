use Rattle.std.proofs.Common.{sym, ap, ◌++◌, ◌∙◌, map}
use Rattle.core_events.specs.Meant.{event_meant}
use Rattle.ready_listing.specs.Listed.{of_place}
use Rattle.ready_listing.proofs.Adding.{adds_none}
use Rattle.ready_listing.proofs.Parts.{cell_lacks, cell_there}
use Rattle.ready_listing.proofs.of_cells.list_place.Goals as goal

pub returns-then-not-has_cell : goal.returns-then-not-has_cell
returns-then-not-has_cell c =
    let lacks = cell_lacks c.args.hand.now c.args.a.0 c.requires (sym c.has_cell.ensures ∙ c.if-not-has_cell.true) in
    adds_none c.args.events.now.items ∙ ap (λ o. map event_meant c.args.events.now.items ++ of_place c.args.a.0 o) (sym lacks)

pub cell-requires : goal.cell-requires
cell-requires c = cell_there c.args.hand.now c.args.a.0 c.requires (sym c.has_cell.ensures ∙ c.if-not-has_cell.false)
