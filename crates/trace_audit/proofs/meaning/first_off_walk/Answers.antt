use Rattle.std.proofs.Common.{subst, length}
use Rattle.std.proofs.lemmas.Bool.{MatchBool-at_false, MatchBool-at_true}
use Rattle.snap_base.proofs.Lists.{each_here}
use Rattle.audit_papers.specs.ReportLines.{line_of}
use Rattle.trace_audit.specs.Meanings.{NamesTransaction, ShowsWalk, TellsWalk}
use Rattle.trace_audit.proofs.EachLines.{off_at_line, one_more_line}
use Rattle.trace_audit.proofs.Locating.{all_unmapped}
use Rattle.trace_audit.proofs.meaning.first_off_walk.Goals as goal

pub tells_walk-requires : goal.tells_walk-requires
tells_walk-requires c =
    each_here (λ l. NamesTransaction (length c.args.walk.now.results.items) (line_of l)) c.args.lines.now c.loop-at.at c.index-lines-at.result c.loop-at-test.true c.index-lines-at.is
    (all_unmapped line_of (NamesTransaction (length c.args.walk.now.results.items)) c.args.lines.now c.requires.named)

pub returns-then-not-tells_walk : goal.returns-then-not-tells_walk
returns-then-not-tells_walk c =
    let results = c.args.walk.now.results.items in
    let world = c.args.walk.now.world.items in
    off_at_line (TellsWalk results world) c.args.lines.now c.loop-at.at c.index-lines-at.result c.loop-at-test.true c.loop-at.invariant
    (subst (λ z. ¬ ShowsWalk results world (line_of z)) c.index-lines-at.is (MatchBool-at_false _ _ c.if-not-tells_walk.true c.tells_walk.ensures))

pub loop-at-preserved : goal.loop-at-preserved
loop-at-preserved c =
    let results = c.args.walk.now.results.items in
    let world = c.args.walk.now.world.items in
    one_more_line (TellsWalk results world) c.args.lines.now c.loop-at.at c.index-lines-at.result c.loop-at-test.true c.loop-at.invariant
    (subst (λ z. ShowsWalk results world (line_of z)) c.index-lines-at.is (MatchBool-at_true _ _ c.if-not-tells_walk.false c.tells_walk.ensures))
