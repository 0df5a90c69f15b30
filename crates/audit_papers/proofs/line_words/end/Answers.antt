use Rattle.std.proofs.Common.{arith}
use Rattle.audit_papers.proofs.WordLists.{behind_one, behind_two}
use Rattle.audit_papers.proofs.line_words.end.Goals as goal

pub returns-in_err-first : goal.returns-in_err-first
returns-in_err-first c = rw c.from_residual.ensures (λ x y z h e. c.in_err-first.ensures _ e)

pub returns-in_err-committed : goal.returns-in_err-committed
returns-in_err-committed c = rw c.from_residual-in_err-committed.ensures (λ x y z h e. c.in_err-committed.ensures x _ (omega (arith, h.0)) (behind_one c.in_ok-first.ensures e))

pub returns-in_err-aborted : goal.returns-in_err-aborted
returns-in_err-aborted c = rw c.from_residual-in_err-aborted.ensures (λ x y z h e. c.in_err-aborted.ensures y _ (omega (arith, h.1)) (behind_two c.in_ok-committed.ensures.1 (behind_one c.in_ok-first.ensures e)))

pub returns-in_err-batches : goal.returns-in_err-batches
returns-in_err-batches c = rw c.from_residual-in_err-batches.ensures (λ x y z h e. c.in_err-batches.ensures z (omega (arith, h.2)) (behind_two c.in_ok-aborted.ensures.1 (behind_two c.in_ok-committed.ensures.1 (behind_one c.in_ok-first.ensures e))))
