use Rattle.std.proofs.Common.{subst, inl, inr}
use Rattle.protocol.specs.Effects.{after}
use Rattle.ready_news.proofs.AfterAsk.{Unbegun, besides}
use Rattle.ready_news.proofs.AfterRuns.{holding}
use Rattle.ready_news.proofs.Behind.{book_enough}
use Rattle.ready_news.proofs.BookBefore.{synced_within}
use Rattle.ready_news.proofs.Common.{Among}
use Rattle.ready_news.proofs.InBook.{book_told}
use Rattle.ready_news.proofs.NoneFell.{book_is, idle_book}
use Rattle.ready_news.proofs.NotDurable.{once_after}
use Rattle.ready_news.proofs.laws.book_is_told.Goals as goal

pub returns : goal.returns
returns c w e s h x es other behind shows more =
    let b = (after w e s).book in
    let none = c.unbegun_acts_wait_for_nothing.ensures in
    let u : Unbegun b = record { decided = λ t n. none.decided x b t shows n; sealed = λ t n. none.sealed x b t shows n; vouched = λ t n a. none.vouched x b t shows n a } in
    let before = holding w s behind.run in
    elim (book_is e h.cells b) [
      | inl same ↦
          book_told w e s es behind.allowed c.allowed_or_refused.ensures (synced_within w s behind.run) (once_after w (after w e s) (c.runs_go_on.ensures w e s behind.run behind.allowed))
          (book_enough c.runs_go_on.ensures w e s h behind c.run_parts_list_all.ensures)
          (besides w e s before (holding w (after w e s) (c.runs_go_on.ensures w e s behind.run behind.allowed)).known.once behind.allowed c.allowed_or_refused.ensures u)
          other (subst (λ xs. Among xs es) same more)
      | inr idle ↦ idle_book w s h before e behind idle es
    ]
