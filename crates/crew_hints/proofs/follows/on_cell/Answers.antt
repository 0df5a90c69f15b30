use Rattle.std.proofs.Common.{length, sym, ◌∙◌}
use Rattle.std.proofs.lemmas.Bool.{ltb-true}
use Rattle.ready_listing.proofs.Parts.{cell_there}
use Rattle.crew_hints.proofs.follows.on_cell.Goals as goal

pub cell-requires : goal.cell-requires
cell-requires c =
    cell_there c.args.hand.now c.args.a.0 (ltb-true c.args.a.0 (length c.args.hand.now.cells) (sym c.has_actor.ensures ∙ c.if-not-has_actor.false)) (sym c.has_cell.ensures ∙ c.if-not-has_cell.false)
