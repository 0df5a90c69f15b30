use Rattle.audit_laws.proofs.ReadBack.{read_back}
use Rattle.audit_laws.proofs.printed.printed_forms_are_reports.Goals as goal

pub returns : goal.returns
returns c = read_back
