use Rattle.std.proofs.Common.{arith}
use Rattle.audit_papers.proofs.WordLists.{behind_one, behind_two}
use Rattle.audit_papers.proofs.verdict_words.died.Goals as goal

pub returns-in_err-first : goal.returns-in_err-first
returns-in_err-first c = rw c.from_residual.ensures (λ a older own h e. c.in_err-first.ensures _ e)

pub returns-in_err-actor : goal.returns-in_err-actor
returns-in_err-actor c = rw c.from_residual-in_err-actor.ensures (λ a older own h e. c.in_err-actor.ensures a.0 _ (omega (arith, h.0)) (behind_one c.in_ok-first.ensures e))

pub returns-in_err-older : goal.returns-in_err-older
returns-in_err-older c = rw c.from_residual-in_err-older.ensures (λ a older own h e. c.in_err-older.ensures older.0 _ (omega (arith, h.1)) (behind_two c.in_ok-actor.ensures.1 (behind_one c.in_ok-first.ensures e)))

pub returns-in_err-own : goal.returns-in_err-own
returns-in_err-own c = rw c.from_residual-in_err-own.ensures (λ a older own h e. c.in_err-own.ensures own.0 (omega (arith, h.2)) (behind_two c.in_ok-older.ensures.1 (behind_two c.in_ok-actor.ensures.1 (behind_one c.in_ok-first.ensures e))))
