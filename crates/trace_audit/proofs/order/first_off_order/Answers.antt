use Rattle.std.proofs.Common.{◌≡◌, Bool, false, true, List, ap, subst, sym, take, ◌∙◌}
use Rattle.std.proofs.lemmas.Bool.{MatchBool-at_false, MatchBool-at_true}
use Rattle.audit_words.specs.Clauses.{TellsOrder}
use Rattle.audit_papers.specs.ReportLines.{line_of, lines_of}
use Rattle.trace_audit.specs.Risen.{line_rises}
use Rattle.trace_audit.proofs.ChainsTold.{order_decides}
use Rattle.trace_audit.proofs.EachLines.{off_at_line, one_more_line}
use Rattle.trace_audit.proofs.order.first_off_order.Goals as goal

pub returns-then-not-line_rises : goal.returns-then-not-line_rises
returns-then-not-line_rises c s k =
    let front = lines_of (take c.loop-at.at c.args.lines.now) in
    let marks = c.in_ok-rises.rises.items in
    let off : line_rises marks (line_of c.index-lines-at.result) ≡ false = ap (λ (z : List Bool). line_rises z (line_of c.index-lines-at.result)) (sym c.deref.ensures.value) ∙ (sym c.line_rises.ensures ∙ c.if-not-line_rises.true) in
    off_at_line (TellsOrder s) c.args.lines.now c.loop-at.at c.index-lines-at.result c.loop-at-test.true (c.loop-at.invariant s k)
    (subst (λ z. ¬ TellsOrder s front (line_of z)) c.index-lines-at.is (MatchBool-at_false _ _ off (order_decides s c.args.members.now c.args.actors.now marks k c.in_ok-rises.ensures.many c.in_ok-rises.ensures.rises front (line_of c.index-lines-at.result))))

pub loop-at-preserved : goal.loop-at-preserved
loop-at-preserved c s k =
    let front = lines_of (take c.loop-at.at c.args.lines.now) in
    let marks = c.in_ok-rises.rises.items in
    let on : line_rises marks (line_of c.index-lines-at.result) ≡ true = ap (λ (z : List Bool). line_rises z (line_of c.index-lines-at.result)) (sym c.deref.ensures.value) ∙ (sym c.line_rises.ensures ∙ c.if-not-line_rises.false) in
    one_more_line (TellsOrder s) c.args.lines.now c.loop-at.at c.index-lines-at.result c.loop-at-test.true (c.loop-at.invariant s k)
    (subst (λ z. TellsOrder s front (line_of z)) c.index-lines-at.is (MatchBool-at_true _ _ on (order_decides s c.args.members.now c.args.actors.now marks k c.in_ok-rises.ensures.many c.in_ok-rises.ensures.rises front (line_of c.index-lines-at.result))))
