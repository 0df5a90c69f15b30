use Rattle.std.proofs.Common.{[], ◌∷◌, ◌++◌, arith, inl, subst, take}
use Rattle.std.proofs.lemmas.Bool.{MatchBool-at_false, MatchBool-at_true}
use Rattle.audit_words.specs.Clauses.{MayFollow}
use Rattle.trace_audit.specs.Counted.{Counted}
use Rattle.audit_papers.specs.ReportLines.{line_of, lines_of}
use Rattle.trace_audit.proofs.EachLines.{lines_long, off_at_line, one_more_line}
use Rattle.trace_audit.proofs.Shapes.{counted_next, few_counted, has_shape}
use Rattle.trace_audit.proofs.shape.first_off_shape.Goals as goal

pub may_stand-requires-clause-committed : goal.may_stand-requires-clause-committed
may_stand-requires-clause-committed c =
    let few = few_counted c.args.sizes.txs (lines_of (take c.loop-at.at c.args.lines.now)) c.loop-at.counts.answered.items c.loop-at.counts.committed c.loop-at.counts.aborted c.loop-at.invariant.counted in
    omega (arith, few.0, lines_long c.args.lines.now c.loop-at.at (omega arith))

pub may_stand-requires-clause-aborted : goal.may_stand-requires-clause-aborted
may_stand-requires-clause-aborted c =
    let few = few_counted c.args.sizes.txs (lines_of (take c.loop-at.at c.args.lines.now)) c.loop-at.counts.answered.items c.loop-at.counts.committed c.loop-at.counts.aborted c.loop-at.invariant.counted in
    omega (arith, few.1, lines_long c.args.lines.now c.loop-at.at (omega arith))

pub returns-then-not-may_stand : goal.returns-then-not-may_stand
returns-then-not-may_stand c =
    let front = lines_of (take c.loop-at.at c.args.lines.now) in
    let no = MatchBool-at_false _ _ c.if-not-may_stand.true (c.may_stand.ensures front (lines_long c.args.lines.now c.loop-at.at (omega arith)) c.loop-at.invariant.counted) in
    inl (off_at_line (MayFollow c.args.sizes.txs c.args.sizes.actors c.args.sizes.settled) c.args.lines.now c.loop-at.at c.index-lines-at.result c.loop-at-test.true c.loop-at.invariant.each
    (subst (λ z. ¬ MayFollow c.args.sizes.txs c.args.sizes.actors c.args.sizes.settled front (line_of z)) c.index-lines-at.is no))

pub loop-at-preserved : goal.loop-at-preserved
loop-at-preserved c =
    let front = lines_of (take c.loop-at.at c.args.lines.now) in
    let yes = MatchBool-at_true _ _ c.if-not-may_stand.false (c.may_stand.ensures front (lines_long c.args.lines.now c.loop-at.at (omega arith)) c.loop-at.invariant.counted) in
    record {
      each = one_more_line (MayFollow c.args.sizes.txs c.args.sizes.actors c.args.sizes.settled) c.args.lines.now c.loop-at.at c.index-lines-at.result c.loop-at-test.true c.loop-at.invariant.each
          (subst (λ z. MayFollow c.args.sizes.txs c.args.sizes.actors c.args.sizes.settled front (line_of z)) c.index-lines-at.is yes.0);
      counted = counted_next c.args.sizes.txs c.args.lines.now c.loop-at.at c.index-lines-at.result c.may_stand.new.counts.answered.items c.may_stand.new.counts.committed c.may_stand.new.counts.aborted c.loop-at-test.true
          (subst (λ z. Counted c.args.sizes.txs (front ++ line_of z ∷ []) c.may_stand.new.counts.answered.items c.may_stand.new.counts.committed c.may_stand.new.counts.aborted) c.index-lines-at.is yes.1);
    }

pub returns : goal.returns
returns c = has_shape c.args.sizes.txs c.args.sizes.actors c.args.sizes.settled c.loop-at.at c.args.lines.now (omega arith) (omega arith) c.loop-at.invariant.each
