use Rattle.std.proofs.Common.{arith}
use Rattle.audit_papers.proofs.WordLists.{behind_one, behind_two}
use Rattle.audit_papers.proofs.verdict_words.order.Goals as goal

pub returns-in_err-first : goal.returns-in_err-first
returns-in_err-first c = rw c.from_residual.ensures (λ m n a h e. c.in_err-first.ensures _ e)

pub returns-in_err-before : goal.returns-in_err-before
returns-in_err-before c = rw c.from_residual-in_err-before.ensures (λ m n a h e. c.in_err-before.ensures m.0 _ (omega (arith, h.0)) (behind_one c.in_ok-first.ensures e))

pub returns-in_err-after : goal.returns-in_err-after
returns-in_err-after c = rw c.from_residual-in_err-after.ensures (λ m n a h e. c.in_err-after.ensures n.0 _ (omega (arith, h.1)) (behind_two c.in_ok-before.ensures.1 (behind_one c.in_ok-first.ensures e)))

pub returns-in_err-actor : goal.returns-in_err-actor
returns-in_err-actor c = rw c.from_residual-in_err-actor.ensures (λ m n a h e. c.in_err-actor.ensures a.0 (omega (arith, h.2)) (behind_two c.in_ok-after.ensures.1 (behind_two c.in_ok-before.ensures.1 (behind_one c.in_ok-first.ensures e))))
