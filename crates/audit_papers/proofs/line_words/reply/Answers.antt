use Rattle.std.proofs.Common.{arith}
use Rattle.audit_papers.proofs.WordLists.{behind_two}
use Rattle.audit_papers.proofs.line_words.reply.Goals as goal

pub returns-in_err-tx : goal.returns-in_err-tx
returns-in_err-tx c = rw c.from_residual.ensures (λ n v h e. c.in_err-tx.ensures n _ (omega (arith, h.0)) e)

pub returns-in_err-verdict : goal.returns-in_err-verdict
returns-in_err-verdict c = rw c.from_residual-in_err-verdict.ensures (λ n v h e. c.in_err-verdict.ensures v h.1 (behind_two c.in_ok-tx.ensures.1 e))
