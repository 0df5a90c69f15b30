use Rattle.audit_papers.specs.LineWords.{texts}
use Rattle.audit_papers.proofs.LineKinds.{last_other}
use Rattle.audit_papers.proofs.line_words.no_actor.Goals as goal

pub returns : goal.returns
returns c = last_other c.recovered.result (texts c.args.words.now) c.in_default.ensures c.in_default-end.ensures c.in_default-kept.ensures c.recovered.ensures
