use Rattle.ready_news.proofs.InCells.{all_cells_told}
use Rattle.ready_news.proofs.laws.cells_are_told.Goals as goal

pub returns : goal.returns
returns c w e s h es places whole behind more a cell at =
    all_cells_told w e s h es places whole behind
    c.allowed_or_refused.ensures c.runs_go_on.ensures c.undone_have_declared.ensures c.numbers_are_in_range.ensures c.sizes_hold.ensures c.parts_list_all.ensures.cell
    more a cell at
