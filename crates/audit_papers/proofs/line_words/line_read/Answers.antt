use Rattle.std.proofs.Common.{ap, ◌∙◌}
use Rattle.std.proofs.lemmas.Result.{IfOk-weaker}
use Rattle.audit_papers.specs.LineWords.{texts}
use Rattle.audit_papers.proofs.LineKinds.{by_words}
use Rattle.audit_papers.proofs.line_words.line_read.Goals as goal

pub returns : goal.returns
returns c = IfOk-weaker c.line_with.result _ _ (λ o h. by_words o c.args.line.now _ (ap texts c.as_slice.ensures.value ∙ c.in_ok-words.ensures) h) c.line_with.ensures
