use Rattle.std.proofs.Common.{arith}
use Rattle.audit_papers.proofs.WordLists.{behind_one}
use Rattle.audit_papers.proofs.verdict_words.code.Goals as goal

pub returns-in_err-rest : goal.returns-in_err-rest
returns-in_err-rest c = rw c.from_residual.ensures (λ p code h e. c.in_err-rest.ensures _ e)

pub returns-in_err-place : goal.returns-in_err-place
returns-in_err-place c = rw c.from_residual-in_err-place.ensures (λ p code h e. c.in_err-place.ensures p _ h.0 (behind_one c.in_ok-rest.ensures e))

pub returns-in_err-code : goal.returns-in_err-code
returns-in_err-code c = rw c.from_residual-in_err-code.ensures (λ p code h e. c.in_err-code.ensures code (omega (arith, h.1)) (behind_one c.in_ok-place.ensures.1 (behind_one c.in_ok-rest.ensures e)))
