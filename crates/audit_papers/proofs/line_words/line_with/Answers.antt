use Rattle.std.proofs.lemmas.Result.{IfOk-weaker}
use Rattle.audit_papers.specs.LineWords.{texts}
use Rattle.audit_papers.proofs.LineKinds.{last_line}
use Rattle.audit_papers.proofs.line_words.line_with.Goals as goal

pub returns : goal.returns
returns c = IfOk-weaker c.actor.result _ _ (λ o h. last_line o (texts c.args.words.now) c.in_default.ensures h) c.actor.ensures
