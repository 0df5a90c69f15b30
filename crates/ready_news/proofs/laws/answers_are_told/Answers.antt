use Rattle.std.proofs.Common.{◌++◌, ap, subst, inl, inr}
use Rattle.protocol.specs.Effects.{after}
use Rattle.ready_news.specs.InAnswers.{of_batches}
use Rattle.ready_news.proofs.AfterRuns.{holding}
use Rattle.ready_news.proofs.Behind.{run_after}
use Rattle.ready_news.proofs.Common.{Among}
use Rattle.ready_news.proofs.InAnswers.{answers_told}
use Rattle.ready_news.proofs.NoneFell.{acts_are, idle_answers}
use Rattle.ready_news.proofs.laws.answers_are_told.Goals as goal

pub returns : goal.returns
returns c w e s h es behind more =
    let z = after w e s in
    let before = holding w s behind.run in
    elim (acts_are e h.cells z.book) [
      | inl same ↦ answers_told w s before es e behind.allowed (holding w z (run_after c.runs_go_on.ensures w e s h behind)) (subst (λ xs. Among xs es) (ap (λ xs. of_batches z.ring.next_bid z.desk e ++ xs) same) more)
      | inr idle ↦ idle_answers w s h before e behind idle es
    ]
