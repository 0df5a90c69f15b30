use Rattle.std.proofs.Common.{[], inl, refl}
use Rattle.audit_words.specs.Audited.{EachLine, IsFirstOff}
use Rattle.audit_words.specs.Clauses.{TellsOrder}
use Rattle.audit_words.specs.Inputs.{first_text, language}
use Rattle.snap_work.specs.Works.{work_of}
use Rattle.audit_papers.specs.ReportLines.{lines_of}
use Rattle.trace_audit.specs.Behind.{HasEvidence, IsEvidenceOff}
use Rattle.trace_audit.proofs.OneByOne.{go_behind, none_off, some_off, told_chains}
use Rattle.trace_audit.proofs.clauses.off_order.Goals as goal

pub returns-in-Some : goal.returns-in-Some
returns-in-Some c s sound known =
    let ls = lines_of c.args.lines.now in
    inl (refl, some_off (EachLine (TellsOrder s) [] ls) (IsFirstOff (TellsOrder s) ls) c.in_ok-at.field-0 c.in-Some.at c.in-Some.is (c.in_ok-at.ensures s (told_chains (first_text (work_of c.args.work.now)) c.args.told.now s c.deref.result.now c.deref-2.result.now c.deref.ensures.value c.deref-2.ensures.value known)))

pub returns-in-None : goal.returns-in-None
returns-in-None c =
    let w = first_text (work_of c.args.work.now) in
    let p = language (work_of c.args.work.now) in
    let ls = lines_of c.args.lines.now in
    go_behind w c.args.told.now 5 (λ s. EachLine (TellsOrder s) [] ls) (λ s. IsFirstOff (TellsOrder s) ls) (λ s. HasEvidence p w s ls) (λ s. IsEvidenceOff p w s ls) c.off_evidence.result
    (λ s known. none_off (EachLine (TellsOrder s) [] ls) (IsFirstOff (TellsOrder s) ls) c.in_ok-at.field-0 c.in-None.is (c.in_ok-at.ensures s (told_chains w c.args.told.now s c.deref.result.now c.deref-2.result.now c.deref.ensures.value c.deref-2.ensures.value known))) c.off_evidence.ensures
