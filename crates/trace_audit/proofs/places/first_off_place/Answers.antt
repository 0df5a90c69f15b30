use Rattle.std.proofs.Common.{◌≡◌, false, true, subst, sym, take, ◌∙◌}
use Rattle.std.proofs.lemmas.Bool.{MatchBool-at_false, MatchBool-at_true}
use Rattle.audit_words.specs.Clauses.{TellsPlace}
use Rattle.audit_papers.specs.ReportLines.{line_of, lines_of}
use Rattle.trace_audit.specs.Placed.{line_placed}
use Rattle.trace_audit.proofs.EachLines.{off_at_line, one_more_line}
use Rattle.trace_audit.proofs.Placing.{line_decides}
use Rattle.trace_audit.proofs.places.first_off_place.Goals as goal

pub returns-then-not-line_placed : goal.returns-then-not-line_placed
returns-then-not-line_placed c s e =
    let front = lines_of (take c.loop-at.at c.args.lines.now) in
    let off : line_placed c.args.members.now (line_of c.index-lines-at.result) ≡ false = sym (c.line_placed.ensures c.args.members.now c.in_ok-groups.ensures) ∙ c.if-not-line_placed.true in
    off_at_line (TellsPlace s) c.args.lines.now c.loop-at.at c.index-lines-at.result c.loop-at-test.true (c.loop-at.invariant s e)
    (subst (λ z. ¬ TellsPlace s front (line_of z)) c.index-lines-at.is (MatchBool-at_false _ _ off (line_decides s c.args.members.now e front (line_of c.index-lines-at.result))))

pub loop-at-preserved : goal.loop-at-preserved
loop-at-preserved c s e =
    let front = lines_of (take c.loop-at.at c.args.lines.now) in
    let on : line_placed c.args.members.now (line_of c.index-lines-at.result) ≡ true = sym (c.line_placed.ensures c.args.members.now c.in_ok-groups.ensures) ∙ c.if-not-line_placed.false in
    one_more_line (TellsPlace s) c.args.lines.now c.loop-at.at c.index-lines-at.result c.loop-at-test.true (c.loop-at.invariant s e)
    (subst (λ z. TellsPlace s front (line_of z)) c.index-lines-at.is (MatchBool-at_true _ _ on (line_decides s c.args.members.now e front (line_of c.index-lines-at.result))))
