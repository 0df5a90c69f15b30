use Rattle.std.proofs.Common.{ap, map, sym, ◌∙◌}
use Rattle.audit_words.specs.Inputs.{language}
use Rattle.audit_tale.specs.Settings.{meant}
use Rattle.snap_work.specs.Works.{work_of}
use Rattle.audit_tale.specs.Tellings.{IsTaleNo, IsTold}
use Rattle.trace_audit.proofs.WorkRun.{told_of_work}
use Rattle.trace_audit.proofs.clauses.tell.Goals as goal

pub returns : goal.returns
returns c =
    let w = work_of c.args.work.now in
    let es = meant c.args.events.now in
    told_of_work w (language w).reads c.deref.result.now c.len.result c.as_slice.result.now c.told_by.result (λ f t told. IsTold f t es told) (λ t why. IsTaleNo t es why) c.len.ensures c.as_slice.ensures
    (c.deref.ensures.value ∙ (c.in_ok-reads.ensures ∙ ap (map (language w).reads) (sym c.as_slice.ensures))) c.told_by.ensures
