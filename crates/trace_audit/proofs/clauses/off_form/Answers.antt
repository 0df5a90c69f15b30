use Rattle.std.proofs.Common.{subst}
use Rattle.audit_words.specs.Audited.{HasShape, IsShapeOff}
use Rattle.audit_papers.specs.ReportLines.{lines_of}
use Rattle.trace_audit.specs.ByTransaction.{AreAnswers}
use Rattle.trace_audit.specs.Meanings.{NameTransactions}
use Rattle.trace_audit.proofs.OneByOne.{none_off}
use Rattle.trace_audit.proofs.Finding.{shaped_answers}
use Rattle.trace_audit.proofs.Meant.{shape_names}
use Rattle.trace_audit.proofs.clauses.off_form.Goals as goal

pub off_place-requires-clause-answers : goal.off_place-requires-clause-answers
off_place-requires-clause-answers c =
    let ls = lines_of c.args.lines.now in
    let settled = c.args.told.now.tale.settled in
    subst (λ n. AreAnswers n ls) c.len.ensures (shaped_answers c.len.result c.len-2.result settled ls
    (none_off (HasShape c.len.result c.len-2.result settled ls) (IsShapeOff c.len.result c.len-2.result settled ls) c.in_ok-at.field-0 c.in-None.is c.in_ok-at.ensures))

pub off_place-requires-clause-named : goal.off_place-requires-clause-named
off_place-requires-clause-named c =
    let ls = lines_of c.args.lines.now in
    let settled = c.args.told.now.tale.settled in
    subst (λ n. NameTransactions n ls) c.len.ensures (shape_names c.len.result c.len-2.result settled ls
    (none_off (HasShape c.len.result c.len-2.result settled ls) (IsShapeOff c.len.result c.len-2.result settled ls) c.in_ok-at.field-0 c.in-None.is c.in_ok-at.ensures))
