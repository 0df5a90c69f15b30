use Rattle.std.proofs.Common.{ap, ◌∙◌, sym, min, length, take}
use Rattle.snap_outside.proofs.Moves.{moved_front}
use Rattle.snap_outside.proofs.sources.MemSourceSource.read.Goals as goal

pub returns-clause-moved : goal.returns-clause-moved
returns-clause-moved c =
    moved_front c.args.self.now.bytes.items c.copied-count.new.to c.args.self.now.at c.copied-count.result
    (c.copied-count.ensures.count ∙ ap (λ n. min n (length c.left.result.now)) (sym c.copied-count.auto.to) ∙ ap (λ l. min (length c.copied-count.new.to) (length l)) c.left.ensures)
    (c.copied-count.ensures.bytes ∙ ap (take c.copied-count.result) c.left.ensures)
