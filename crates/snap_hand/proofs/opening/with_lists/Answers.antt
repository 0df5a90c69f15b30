use Rattle.std.proofs.Common.{map, option_map}
use Rattle.snap_hand.specs.Tables.{fixed_of}
use Rattle.snap_hand.proofs.Opens.{cells_are, lists_are}
use Rattle.snap_hand.proofs.opening.with_lists.Goals as goal

pub returns : goal.returns
returns c =
    let w = fixed_of c.args.tables.now in
    lists_are w (map (option_map (λ l. l.value.log)) c.in_ok-logs.logs.items) (map (option_map (λ x. x.value.cell)) c.in_ok-cells.cells.items)
    c.in_ok-logs.ensures (cells_are w c.base.result.0 c.as_slice.result.now _ c.in_ok-cells.ensures c.base.ensures c.as_slice.ensures)
