use Rattle.std.proofs.Common.{◌≡◌, true, false, sym, ◌∙◌}
use Rattle.protocol.specs.Words.{has_act}
use Rattle.cell_part.proofs.Owning.{boxes_left, boxes_stay}
use Rattle.cell_part.proofs.leaving.leave_boxes.Goals as goal

pub returns-then-has_act-clause-gone : goal.returns-then-has_act-clause-gone
returns-then-has_act-clause-gone g c =
    let here : has_act c.args.t.0 c.args.schedule.now.schedule.entries ≡ true = sym c.has_act.ensures ∙ c.if-has_act.true in
    c.drop_of.ensures.gone ∙ boxes_left c.args.t.0 c.args.schedule.now.schedule.entries c.args.boxes.now.boxes here

pub returns-else-has_act-clause-gone : goal.returns-else-has_act-clause-gone
returns-else-has_act-clause-gone g c =
    let away : has_act c.args.t.0 c.args.schedule.now.schedule.entries ≡ false = sym c.has_act.ensures ∙ c.if-has_act.false in
    boxes_stay c.args.t.0 c.args.schedule.now.schedule.entries c.args.boxes.now.boxes away
