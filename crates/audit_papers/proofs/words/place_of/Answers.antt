use Rattle.std.proofs.Common.{arith}
use Rattle.audit_papers.proofs.WordCuts.{number_one}
use Rattle.audit_papers.proofs.words.place_of.Goals as goal

pub returns-in_err-batch : goal.returns-in_err-batch
returns-in_err-batch c = rw c.from_residual.ensures (λ p h e. c.in_err-batch.ensures p.batch.0 _ (omega (arith, h.0)) e)

pub returns-in_err-side : goal.returns-in_err-side
returns-in_err-side c = rw c.from_residual-in_err-side.ensures (λ p h e. c.in_err-side.ensures p.side _ (omega (arith, h.1)) (number_one _ c.in_ok-batch.batch p.batch.0 _ _ (omega (arith, c.in_ok-batch.ensures.0)) h.0 c.in_ok-batch.ensures.1 e))

pub returns-in_err-order : goal.returns-in_err-order
returns-in_err-order c = rw c.from_residual-in_err-order.ensures (λ p h e. cc (c.in_err-order.ensures.only p.order h.2 (number_one _ c.in_ok-side.side p.side _ _ (omega (arith, c.in_ok-side.ensures.0)) (omega (arith, h.1)) c.in_ok-side.ensures.1 (number_one _ c.in_ok-batch.batch p.batch.0 _ _ (omega (arith, c.in_ok-batch.ensures.0)) h.0 c.in_ok-batch.ensures.1 e))))
