use Rattle.std.proofs.Common.{length, refl, sym, ap, ◌∙◌}
use Rattle.std.proofs.lemmas.Option.{get_or_from_slice_get}
use Rattle.protocol.specs.Effects.{no_cell}
use Rattle.snap_hand.proofs.Held.{cell_there}
use Rattle.snap_hand.proofs.hand.Hand.state.Goals as goal

pub cell-requires : goal.cell-requires
cell-requires c = cell_there c.args.self.now (length c.args.self.now.logs) c.args.a.0 refl c.requires.cell c.requires.actor

pub returns : goal.returns
returns c s fits =
    c.state.ensures ∙ sym (ap (λ x. x.state) (get_or_from_slice_get s.cells c.args.a.0 c.cell.result.now.cell no_cell (fits.cells c.args.a.0 _ c.cell.ensures)))
