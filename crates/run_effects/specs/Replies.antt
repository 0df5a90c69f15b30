-- How what was answered grows with one more event, and what the report counts of it. Each is a law of `src/replies.rt`.
use Rattle.std.specs.Prelude.{◌≡◌, ℕ, ◌+◌, not, List, [], ◌∷◌, ◌++◌}
use Rattle.protocol.specs.Conditions.{IsAllowed}
use Rattle.protocol.specs.Events.{Event, Reply}
use Rattle.protocol.specs.Fixed.{Fixed}
use Rattle.protocol.specs.Numbers.{one_if}
use Rattle.protocol.specs.Parts.{Machine}
use Rattle.protocol.specs.Report.{Answer, answer, answers, is_committed, report}
use Rattle.protocol.specs.Runs.{reached}
use Rattle.protocol.specs.Verdicts.{verdict}
use Rattle.protocol.specs.Words.{holds}

-- what an event answers
abbrev pub answer_by : {C : Type 0} → Machine C → Event → List Answer
answer_by s (Reply n) = answer s n ∷ []
answer_by s _ = []

-- One more event answers behind those that were answered, and no answer becomes another one.
abbrev pub AnswersGrow : {C : Type 0} → Fixed C → List Event → Type 0
AnswersGrow w es =
    (e : Event) → IsAllowed w e (reached w es)
    → answers (es ++ e ∷ []) (reached w (es ++ e ∷ [])) ≡ answers es (reached w es) ++ answer_by (reached w es) e

-- whether the event answers that a transaction committed, and whether it answers anything else
abbrev pub commits_of : {C : Type 0} → Machine C → Event → ℕ
commits_of s (Reply n) = one_if (holds is_committed (verdict n s.book s.desk))
commits_of s _ = 0

abbrev pub aborts_of : {C : Type 0} → Machine C → Event → ℕ
aborts_of s (Reply n) = one_if (not (holds is_committed (verdict n s.book s.desk)))
aborts_of s _ = 0

-- The counts grow by the verdict of the reply.
pub record CountsGrow {C : Type 0} (w : Fixed C) (es : List Event) (e : Event) : Type 0 where
  pub committed : (report (es ++ e ∷ []) (reached w (es ++ e ∷ []))).committed ≡ (report es (reached w es)).committed + commits_of (reached w es) e
  pub aborted : (report (es ++ e ∷ []) (reached w (es ++ e ∷ []))).aborted ≡ (report es (reached w es)).aborted + aborts_of (reached w es) e

abbrev pub AllCountsGrow : {C : Type 0} → Fixed C → List Event → Type 0
AllCountsGrow w es = (e : Event) → IsAllowed w e (reached w es) → CountsGrow w es e
