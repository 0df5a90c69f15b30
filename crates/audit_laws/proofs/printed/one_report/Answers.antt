use Rattle.audit_laws.proofs.OneReport.{report_one}
use Rattle.audit_laws.proofs.printed.one_report.Goals as goal

pub returns : goal.returns
returns c = report_one
