use Rattle.std.proofs.Common.{Bool, not, rules, ap, ◌∙◌}
use Rattle.std.specs.Prelude.{filter}
use Rattle.std.proofs.lemmas.Fn.{filter_same}
use Rattle.hybrid_schedule.specs.Cuts.{is_cut_off}
use Rattle.protocol.specs.Parts.{Waiting, Outcome}
use Rattle.cell_part.proofs.Parts.{boxes_of}
use Rattle.cell_part.proofs.boxes.Boxes.drop_cut.Goals as goal

pub returns-clause-gone : goal.returns-clause-gone
returns-clause-gone g c =
    let entries = c.args.schedule.now.schedule.entries in
    let waits : Waiting g.row.C.Denot → Bool = λ x. not (is_cut_off x.tid c.args.bid.0 entries) in
    let stays : Outcome g.row.C.Denot → Bool = λ x. not (is_cut_off x.tid c.args.bid.0 entries) in
    let inbox = filter_same _ waits _ (λ x b f k. search rules) _ _ c.retain.ensures.filtered ∙ ap (λ v. filter waits v.boxes.inbox) c.self.view_is in
    let outbox = filter_same _ stays _ (λ x b f k. search rules) _ _ c.retain-2.ensures.filtered ∙ ap (λ v. filter stays v.boxes.outbox) c.self.view_is in
    boxes_of inbox outbox
