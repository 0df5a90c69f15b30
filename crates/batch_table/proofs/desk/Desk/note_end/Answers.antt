use Rattle.std.proofs.Common.{List, length, map, arith, ap, ◌∙◌}
use Rattle.protocol.specs.Parts.{Batch}
use Rattle.protocol.specs.OnDesk.{with_results}
use Rattle.batch_table.proofs.Keeping.{sound_in, ended_sound}
use Rattle.batch_table.proofs.desk.Desk.note_end.Goals as goal

pub invariant_of-self : goal.invariant_of-self
invariant_of-self c =
    let i = c.self.inside in
    let same = c.as_mut_slice.ensures.value in
    sound_in i.batches c.note_end.new.batches i.base i.settled i.replied i.spots.items i.live i.front (omega (arith, c.note_end.auto.batches, ap length same))
    (ended_sound c.args.tid.0 c.args.r i.base i.batches.items c.note_end.new.batches i.settled i.replied i.spots.items i.live i.front c.self.invariant
    (c.note_end.ensures ∙ ap (λ (bs : List Batch). map (with_results c.args.tid.0 c.args.r) bs) same))
