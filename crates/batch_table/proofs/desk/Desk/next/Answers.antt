use Rattle.std.specs.Prelude.{slice_get}
use Rattle.std.proofs.Common.{◌==◌, ◌&&◌, List, ap, sym, ◌∙◌}
use Rattle.protocol.specs.Parts.{Batch, Desk}
use Rattle.protocol.specs.Words.{holds, is_open}
use Rattle.batch_table.specs.Askings.{is_next_open}
use Rattle.batch_table.proofs.NextBatch.{next_at_front}
use Rattle.batch_table.proofs.desk.Desk.next.Goals as goal

pub returns : goal.returns
returns c k =
    let i = c.self.inside in
    sym (ap (λ (d : Desk). is_next_open k d.batches) c.self.view_is)
    ∙ (next_at_front k i.base i.front i.batches.items c.self.invariant.numbered c.self.invariant.parted
    ∙ (sym (ap (λ (bs : List Batch). holds (λ b. is_open b && (b.bid == k)) (slice_get bs i.front)) c.as_slice.ensures.value) ∙ c.open_at.ensures k))
