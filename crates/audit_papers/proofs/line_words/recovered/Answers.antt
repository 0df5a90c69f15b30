use Rattle.std.proofs.Common.{arith}
use Rattle.audit_papers.proofs.WordLists.{behind_one, behind_two}
use Rattle.audit_papers.proofs.line_words.recovered.Goals as goal

pub returns-in_err-first : goal.returns-in_err-first
returns-in_err-first c = rw c.from_residual.ensures (λ x y t k d h e. c.in_err-first.ensures _ e)

pub returns-in_err-batches : goal.returns-in_err-batches
returns-in_err-batches c = rw c.from_residual-in_err-batches.ensures (λ x y t k d h e. c.in_err-batches.ensures x _ (omega (arith, h.0)) (behind_one c.in_ok-first.ensures e))

pub returns-in_err-acts : goal.returns-in_err-acts
returns-in_err-acts c = rw c.from_residual-in_err-acts.ensures (λ x y t k d h e. c.in_err-acts.ensures y _ (omega (arith, h.1)) (behind_two c.in_ok-batches.ensures.1 (behind_one c.in_ok-first.ensures e)))

pub returns-in_err-next_tid : goal.returns-in_err-next_tid
returns-in_err-next_tid c = rw c.from_residual-in_err-next_tid.ensures (λ x y t k d h e. c.in_err-next_tid.ensures t _ (omega (arith, h.2)) (behind_two c.in_ok-acts.ensures.1 (behind_two c.in_ok-batches.ensures.1 (behind_one c.in_ok-first.ensures e))))

pub returns-in_err-next_bid : goal.returns-in_err-next_bid
returns-in_err-next_bid c = rw c.from_residual-in_err-next_bid.ensures (λ x y t k d h e. c.in_err-next_bid.ensures k _ (omega (arith, h.3)) (behind_two c.in_ok-next_tid.ensures.1 (behind_two c.in_ok-acts.ensures.1 (behind_two c.in_ok-batches.ensures.1 (behind_one c.in_ok-first.ensures e)))))

pub returns-in_err-next_c : goal.returns-in_err-next_c
returns-in_err-next_c c = rw c.from_residual-in_err-next_c.ensures (λ x y t k d h e. c.in_err-next_c.ensures d (omega (arith, h.4)) (behind_one c.in_ok-next_bid.ensures.1 (behind_two c.in_ok-next_tid.ensures.1 (behind_two c.in_ok-acts.ensures.1 (behind_two c.in_ok-batches.ensures.1 (behind_one c.in_ok-first.ensures e))))))
