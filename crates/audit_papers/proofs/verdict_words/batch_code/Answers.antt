use Rattle.std.proofs.Common.{arith}
use Rattle.audit_papers.proofs.WordLists.{behind_one, behind_two}
use Rattle.audit_papers.proofs.verdict_words.batch_code.Goals as goal

pub returns-in_err-batch : goal.returns-in_err-batch
returns-in_err-batch c = rw c.from_residual.ensures (λ k at code h e. c.in_err-batch.ensures k.0 _ (omega (arith, h.0)) e)

pub returns-in_err-at : goal.returns-in_err-at
returns-in_err-at c = rw c.from_residual-in_err-at.ensures (λ k at code h e. c.in_err-at.ensures at _ (omega (arith, h.1)) (behind_two c.in_ok-batch.ensures.1 e))

pub returns-in_err-code : goal.returns-in_err-code
returns-in_err-code c = rw c.from_residual-in_err-code.ensures (λ k at code h e. c.in_err-code.ensures code (omega (arith, h.2)) (behind_one c.in_ok-at.ensures.1 (behind_two c.in_ok-batch.ensures.1 e)))
