use Rattle.audit_laws.proofs.Language.{leaves_nothing, same_serial}
use Rattle.audit_laws.proofs.papers.language_is_a_meaning.Goals as goal

pub returns-clause-nothing : goal.returns-clause-nothing
returns-clause-nothing c = leaves_nothing

pub returns-clause-serial : goal.returns-clause-serial
returns-clause-serial c = same_serial
