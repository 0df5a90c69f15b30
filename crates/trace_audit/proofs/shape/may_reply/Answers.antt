use Rattle.std.proofs.Common.{Some, false, arith, ap, sym, ◌∙◌}
use Rattle.std.proofs.lemmas.Option.{slice_get-get_or}
use Rattle.trace_audit.proofs.Shapes.{commit_more, not_answered, other_more}
use Rattle.trace_audit.proofs.shape.may_reply.Goals as goal

pub returns-then-is_committed : goal.returns-then-is_committed
returns-then-is_committed c front e k = (
  (
    omega arith,
    omega arith,
    sym c.if-is_unsure.ensures,
    not_answered c.args.sizes.txs c.args.tx.0 front c.args.counts.now.answered.items c.args.counts.now.committed c.args.counts.now.aborted false k (omega arith)
        (slice_get-get_or c.args.counts.now.answered.items c.args.tx.0 c.index.result.now (omega arith) ∙ ap (λ b. Some b) (sym c.index.ensures ∙ c.if-index.false)),
  ),
  commit_more c.args.sizes.txs c.args.tx.0 c.args.verdict.now front c.args.counts.now.answered.items c.args.counts.now.committed c.args.counts.now.aborted (sym c.if-is_committed.ensures) k,
)

pub returns-else-is_committed : goal.returns-else-is_committed
returns-else-is_committed c front e k = (
  (
    omega arith,
    omega arith,
    sym c.if-is_unsure.ensures,
    not_answered c.args.sizes.txs c.args.tx.0 front c.args.counts.now.answered.items c.args.counts.now.committed c.args.counts.now.aborted false k (omega arith)
        (slice_get-get_or c.args.counts.now.answered.items c.args.tx.0 c.index.result.now (omega arith) ∙ ap (λ b. Some b) (sym c.index.ensures ∙ c.if-index.false)),
  ),
  other_more c.args.sizes.txs c.args.tx.0 c.args.verdict.now front c.args.counts.now.answered.items c.args.counts.now.committed c.args.counts.now.aborted (sym c.if-is_committed.ensures) k,
)
