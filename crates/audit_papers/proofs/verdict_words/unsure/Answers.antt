use Rattle.std.proofs.Common.{arith}
use Rattle.audit_papers.proofs.verdict_words.unsure.Goals as goal

pub returns-in_err-log : goal.returns-in_err-log
returns-in_err-log c = rw c.from_residual.ensures (λ l h e. c.in_err-log.ensures l (omega (arith, h)) e)
