use Rattle.std.proofs.Common.{◌≡◌, List, length, subst, ◌∙◌}
use Rattle.actor_cell.specs.Cut.{IsCutFrom}
use Rattle.protocol.specs.CellParts.{cell_of}
use Rattle.protocol.specs.OnCell.{rolled_back, staying}
use Rattle.protocol.specs.Parts.{Cascade}
use Rattle.protocol.specs.Words.{acts_on, is_empty}
use Rattle.cell_part.specs.Cutting.{cut_back}
use Rattle.cell_part.specs.Room.{Roomed}
use Rattle.cell_part.proofs.Parts.{cell_cut, cut_is_rollback}
use Rattle.cell_part.proofs.cell_part.CellPart.rollback.Goals as goal

pub returns-clause-cut : goal.returns-clause-cut
returns-clause-cut g c =
    let k = c.args.first.0 in
    let Cut : Roomed g.row.C.Denot → Type 0 = λ v. cell_of c.undo_from.new.self c.drop_aborted.new.self.schedule c.drop_cut.new.self.boxes ≡ cut_back k c.args.epoch v.cell in
    subst Cut c.self.view_is
    (cell_cut k c.args.epoch c.clear_ahead-acts.result c.self.inside.store c.undo_from.new.self c.self.inside.schedule.schedule c.drop_aborted.new.self.schedule c.self.inside.boxes.boxes c.drop_cut.new.self.boxes
    c.drop_cut.ensures.gone c.drop_aborted.ensures.cut c.clear_ahead-acts.ensures c.undo_from.ensures)

pub returns-clause-back : goal.returns-clause-back
returns-clause-back g c =
    let k = c.args.first.0 in
    let store = c.self.inside.store in
    let schedule = c.self.inside.schedule.schedule in
    let Back : Roomed g.row.C.Denot → Type 0 = λ v. (cascades : List Cascade) → c.args.epoch ≡ length cascades
    → IsCutFrom k (is_empty (acts_on (staying cascades v.cell.entries))) cascades v.cell.entries v.cell.images
    → cut_back k c.args.epoch v.cell ≡ rolled_back cascades v.cell in
    let law = subst Back c.self.view_is
    (λ cascades seen cut. cut_is_rollback cascades k c.args.epoch store schedule c.self.inside.boxes.boxes
    seen (c.cut_is_at_first_aborted.ensures cascades k schedule cut.aborted) (c.gone_is_from_first_aborted.ensures cascades k schedule.entries cut.aborted)
    (c.undoing_is_rollback.ensures k (is_empty (acts_on (staying cascades schedule.entries))) cascades schedule.entries store cut)) in
    λ cascades seen cut. returns-clause-cut g c ∙ law cascades seen cut
