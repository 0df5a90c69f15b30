use Rattle.std.proofs.Common.{subst}
use Rattle.std.specs.Prelude.{MatchOption}
use Rattle.snap_work.specs.Works.{work_of}
use Rattle.audit_words.specs.Audited.{Audited, IsOff}
use Rattle.audit_words.specs.Inputs.{first_text, language}
use Rattle.audit_papers.specs.ReportLines.{lines_of}
use Rattle.audit_tale.specs.Settings.{meant}
use Rattle.trace_audit.proofs.FirstFaults.{papers_of}
use Rattle.trace_audit.proofs.audits.audit_papers.Goals as goal

pub returns-in-Some : goal.returns-in-Some
returns-in-Some c input text trace report parts is_work is_trace is_report =
    let w = work_of c.args.work.now in
    let es = meant c.args.events.now in
    let ls = lines_of c.args.lines.now in (
      w,
      (
        es,
        (
          ls,
          (
            papers_of input text trace report w c.args.events.now ls parts is_work is_trace is_report,
            subst (λ off. MatchOption off (Audited (language w) (first_text w) es ls) (λ x. IsOff (language w) (first_text w) es ls x.0 x.1)) c.in-Some.is c.in_ok-clause.ensures,
          ),
        ),
      ),
    )
