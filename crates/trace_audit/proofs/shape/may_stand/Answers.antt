use Rattle.std.proofs.Common.{MatchBool, [], ◌∷◌, ◌++◌, sym, subst}
use Rattle.audit_words.specs.Clauses.{MayFollow}
use Rattle.trace_audit.specs.Counted.{Counted}
use Rattle.audit_papers.specs.ReportLines.{line_of}
use Rattle.trace_audit.proofs.Shapes.{actor_stands, end_stands}
use Rattle.trace_audit.proofs.shape.may_stand.Goals as goal

pub returns-in-Actor : goal.returns-in-Actor
returns-in-Actor c front e k =
    subst (λ z. MatchBool c.may_tell_actor.result (MayFollow c.args.sizes.txs c.args.sizes.actors c.args.sizes.settled front (line_of z) × Counted c.args.sizes.txs (front ++ line_of z ∷ []) c.args.counts.now.answered.items c.args.counts.now.committed c.args.counts.now.aborted) (¬ MayFollow c.args.sizes.txs c.args.sizes.actors c.args.sizes.settled front (line_of z)))
    (sym c.in-Actor.is)
    (actor_stands c.args.sizes.txs c.args.sizes.actors c.args.sizes.settled c.args.at c.in-Actor.actor.0 c.in-Actor.fields front c.args.counts.now.answered.items c.args.counts.now.committed c.args.counts.now.aborted c.may_tell_actor.result e k c.may_tell_actor.ensures)

pub returns-in-End : goal.returns-in-End
returns-in-End c front e k =
    subst (λ z. MatchBool c.may_end.result (MayFollow c.args.sizes.txs c.args.sizes.actors c.args.sizes.settled front (line_of z) × Counted c.args.sizes.txs (front ++ line_of z ∷ []) c.args.counts.now.answered.items c.args.counts.now.committed c.args.counts.now.aborted) (¬ MayFollow c.args.sizes.txs c.args.sizes.actors c.args.sizes.settled front (line_of z)))
    (sym c.in-End.is)
    (end_stands c.args.sizes.txs c.args.sizes.actors c.args.sizes.settled c.args.at c.in-End.committed c.in-End.aborted c.in-End.batches front c.args.counts.now.answered.items c.args.counts.now.committed c.args.counts.now.aborted c.may_end.result e k c.may_end.ensures)
