use Rattle.audit_laws.proofs.PlacesApart.{told_places_rise}
use Rattle.audit_laws.proofs.RunsAsSaid.{papers_are_serial}
use Rattle.audit_laws.proofs.papers.audited_papers_are_serial.Goals as goal

pub returns-clause-rise : goal.returns-clause-rise
returns-clause-rise c = told_places_rise

pub returns-clause-serial : goal.returns-clause-serial
returns-clause-serial c = papers_are_serial
