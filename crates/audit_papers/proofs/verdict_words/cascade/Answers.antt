use Rattle.std.proofs.Common.{arith}
use Rattle.audit_papers.proofs.WordLists.{behind_two}
use Rattle.audit_papers.proofs.verdict_words.cascade.Goals as goal

pub returns-in_err-batch : goal.returns-in_err-batch
returns-in_err-batch c = rw c.from_residual.ensures (λ k by h e. c.in_err-batch.ensures k.0 _ (omega (arith, h.0)) e)

pub returns-in_err-by : goal.returns-in_err-by
returns-in_err-by c = rw c.from_residual-in_err-by.ensures (λ k by h e. c.in_err-by.ensures by.0 (omega (arith, h.1)) (behind_two c.in_ok-batch.ensures.1 e))
