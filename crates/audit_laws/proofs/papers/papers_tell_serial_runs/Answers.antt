use Rattle.audit_laws.proofs.MeantPapers.{papers_as_meant}
use Rattle.audit_laws.proofs.papers.papers_tell_serial_runs.Goals as goal

pub returns : goal.returns
returns c = papers_as_meant
