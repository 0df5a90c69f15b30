use Rattle.audit_laws.proofs.ReportTexts.{all_same}
use Rattle.audit_laws.proofs.printed.reports_are_lines.Goals as goal

pub returns : goal.returns
returns g c = all_same
