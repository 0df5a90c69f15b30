use Rattle.std.proofs.Common.{sym, ◌∙◌}
use Rattle.std.proofs.lemmas.List.Sums.{length-filter}
use Rattle.protocol.specs.Words.{is_settled}
use Rattle.batch_table.proofs.counts.settled_among.Goals as goal

pub returns : goal.returns
returns c = c.passing.ensures ∙ sym (length-filter (λ b. is_settled b.stage) c.args.batches.now)
