use Rattle.std.proofs.Common.{not, ap, ◌∙◌}
use Rattle.protocol.specs.Numbers.{one_if}
use Rattle.protocol.specs.Report.{is_committed}
use Rattle.protocol.specs.Words.{holds}
use Rattle.run_printing.proofs.counts.added_by.Goals as goal

pub returns-in-Reply-clause-added : goal.returns-in-Reply-clause-added
returns-in-Reply-clause-added c = λ es at. rw c.in-Reply.is (record {
  committed = c.answer_of.ensures.committed ∙ ap (λ v. one_if (holds is_committed v)) (c.verdict.ensures es at);
  aborted = c.answer_of.ensures.aborted ∙ ap (λ v. one_if (not (holds is_committed v))) (c.verdict.ensures es at);
  batches = c.answer_of.ensures.batches;
})
