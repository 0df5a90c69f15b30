use Rattle.std.proofs.Common.{ap, sym, ◌∙◌}
use Rattle.std.specs.Prelude.{slice_set}
use Rattle.protocol.specs.Parts.{Batch}
use Rattle.protocol.specs.OnDesk as desk
use Rattle.batch_table.proofs.table.note.Goals as goal

pub returns-in-Some : goal.returns-in-Some
returns-in-Some c =
    ap (λ (x : Batch). slice_set c.args.batches.now c.in-Some.place x) c.note.ensures
    ∙ sym (c.in-Some.ensures.0.changed (desk.marked c.args.actor.0 desk.is_noted) c.index-batches-place.result)
