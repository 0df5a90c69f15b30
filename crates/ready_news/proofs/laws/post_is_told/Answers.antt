use Rattle.std.proofs.lemmas.List.Elements.{Contains-append_left, Contains-append_right}
use Rattle.std.proofs.Common.{◌++◌, subst, inl, inr}
use Rattle.protocol.specs.Effects.{after}
use Rattle.protocol.specs.Events.{DropControl}
use Rattle.ready_news.specs.GivenUp.{given_up_by}
use Rattle.ready_news.specs.InPost.{of_drops_with, of_post, of_sent}
use Rattle.ready_news.specs.New.{is_new}
use Rattle.ready_news.proofs.AfterRuns.{holding}
use Rattle.ready_news.proofs.Behind.{run_after}
use Rattle.ready_news.proofs.Common.{Among}
use Rattle.ready_news.proofs.NoneFell.{drops_are, idle_drops}
use Rattle.ready_news.proofs.PostTold.{around_of, asks_of, post_told}
use Rattle.ready_news.proofs.laws.post_is_told.Goals as goal

pub returns : goal.returns
returns c w e s h es behind more =
    let z = after w e s in
    let before = holding w s behind.run in
    let p = of_post e h.cells z.desk z.post in
    let m = of_sent e h.cells z.book z.post in
    let b = of_drops_with e (given_up_by e h.cells z.book) in
    let drops : Among b es = λ f i. more f (Contains-append_right p (m ++ b) f (Contains-append_right m b f i)) in
    post_told (is_new w e s) w s before h.cells es e
    (holding w z (run_after c.runs_go_on.ensures w e s h behind))
    (asks_of w e s c.allowed_or_refused.ensures)
    (around_of w e s h behind)
    (λ f i. more f (Contains-append_left p (m ++ b) f i))
    (λ f i. more f (Contains-append_right p (m ++ b) f (Contains-append_left m b f i)))
    (λ t q g. elim (drops_are e h.cells z.book) [
      | inl same ↦ subst (λ xs. Among xs es) same drops (DropControl t) g
      | inr idle ↦ absurd (idle_drops w s h before e behind idle t q)
    ])
