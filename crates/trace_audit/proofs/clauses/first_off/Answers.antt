use Rattle.audit_words.specs.Inputs.{first_text, language}
use Rattle.audit_tale.specs.Settings.{meant}
use Rattle.snap_work.specs.Works.{work_of}
use Rattle.trace_audit.proofs.InText.{told_in_text}
use Rattle.trace_audit.proofs.clauses.first_off.Goals as goal

pub off_form-requires-clause-pacts : goal.off_form-requires-clause-pacts
off_form-requires-clause-pacts c =
    let w = work_of c.args.work.now in
    told_in_text (language w).reads (first_text w) (meant c.args.events.now) c.in-Ok.told.tale c.in-Ok.ensures.meets c.in-Ok.ensures.known.names
