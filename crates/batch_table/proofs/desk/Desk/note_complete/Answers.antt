use Rattle.std.proofs.Common.{List, length, arith, ap, ◌∙◌}
use Rattle.protocol.specs.Parts.{Batch}
use Rattle.protocol.specs.OnDesk.{changed_batch, marked, is_noted}
use Rattle.batch_table.proofs.Keeping.{sound_in, noted_sound}
use Rattle.batch_table.proofs.desk.Desk.note_complete.Goals as goal

pub invariant_of-self : goal.invariant_of-self
invariant_of-self c =
    let i = c.self.inside in
    let same = c.as_mut_slice.ensures.value in
    sound_in i.batches c.note.new.batches i.base i.settled i.replied i.spots.items i.live i.front (omega (arith, c.note.auto.batches, ap length same))
    (noted_sound c.args.bid.0 c.args.actor.0 i.base i.batches.items c.note.new.batches i.settled i.replied i.spots.items i.live i.front c.self.invariant
    (c.note.ensures ∙ ap (λ (bs : List Batch). changed_batch c.args.bid.0 (marked c.args.actor.0 is_noted) bs) same))
