use Rattle.audit_laws.proofs.OneAnswer as lemmas
use Rattle.audit_laws.proofs.papers.one_answer.Goals as goal

pub returns-clause-once : goal.returns-clause-once
returns-clause-once c = lemmas.one_answer

pub returns-clause-apart : goal.returns-clause-apart
returns-clause-apart c = lemmas.never_both
