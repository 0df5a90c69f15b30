use Rattle.audit_papers.specs.LineWords.{texts}
use Rattle.audit_papers.proofs.LineKinds.{last_verdict}
use Rattle.audit_papers.proofs.verdict_words.verdict_of.Goals as goal

pub returns : goal.returns
returns c = last_verdict c.unsure.result (texts c.args.words.now) c.in_default.ensures c.in_default-code.ensures c.in_default-batch_code.ensures c.in_default-cascade.ensures c.in_default-died.ensures c.in_default-order.ensures c.unsure.ensures
