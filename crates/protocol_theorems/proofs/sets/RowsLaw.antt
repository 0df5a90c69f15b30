-- The table's own words and the agreed ones allow the same and give the same: the laws over every run, with no actor too.
use Rattle.std.specs.Prelude.{◌≡◌, refl, ℕ, zero, suc, List, [], ◌∷◌, length}
use Rattle.std.proofs.Common.{arith}
use Rattle.protocol.specs.Rests.{IsRest, IsTxIn}
use Rattle.protocol.specs.Laws.{AfterEveryRunWithHistory}
use Rattle.protocol.specs.Events.{Event}
use Rattle.protocol.specs.Rows.{RowsAgree, ConditionsAgree, RisesAgree, VerdictsAgree}
use Rattle.protocol.specs.Runs.{IsRun, reached}
use Rattle.protocol.specs.History.{history}
use Rattle.protocol_laws.proofs.first.Drawn.{numbers_drawn_once}
use Rattle.protocol_laws.proofs.machine.AllGood.{none_allowed, all_good}
use Rattle.protocol_laws.proofs.machine.CommittedTold.{committed_told}
use Rattle.protocol_theorems.proofs.sets.HasEnded.{told_where_ended, same_conditions}
use Rattle.protocol_theorems.proofs.sets.RisesAgree.{rises_agree}
use Rattle.protocol_theorems.proofs.sets.RowsAgree.{rows_agree}

pub rows_law : {C : Type 0} → AfterEveryRunWithHistory (RowsAgree {C = C})
rows_law {C} w finish es f t run = by es run (length w.text.opening.states) refl
  where
    by : (es : List Event) → IsRun w es → (n : ℕ) → length w.text.opening.states ≡ n → RowsAgree w finish (reached w es) (history w es)
    by es run (suc n) l = rows_agree w (IsRest w.code (IsTxIn w.text)) finish es (record { text = t; actors = omega (arith, l); facts = f }) run
    by [] run zero l = λ e ok. absurd (none_allowed w e t l ok)
    by (e ∷ es) run zero l = absurd (none_allowed w e t l run.0)

pub rises_law : {C : Type 0} → AfterEveryRunWithHistory (RisesAgree {C = C})
rises_law {C} w finish es f t run = by es run (length w.text.opening.states) refl
  where
    by : (es : List Event) → IsRun w es → (n : ℕ) → length w.text.opening.states ≡ n → RisesAgree w finish (reached w es) (history w es)
    by es run (suc n) l = rises_agree w (IsRest w.code (IsTxIn w.text)) finish es (record { text = t; actors = omega (arith, l); facts = f }) run
    by [] run zero l = λ u a ok. absurd (none_allowed w _ t l ok)
    by (e ∷ es) run zero l = absurd (none_allowed w e t l run.0)

pub verdicts_law : {C : Type 0} → AfterEveryRunWithHistory (VerdictsAgree {C = C})
verdicts_law {C} w finish es f t run = by es run (length w.text.opening.states) refl
  where
    by : (es : List Event) → IsRun w es → (n : ℕ) → length w.text.opening.states ≡ n → VerdictsAgree w finish (reached w es) (history w es)
    by es run (suc n) l = told_where_ended w (IsRest w.code (IsTxIn w.text)) finish (reached w es) (history w es) (all_good w (IsRest w.code (IsTxIn w.text)) finish es (record { text = t; actors = omega (arith, l); facts = f }) run) (numbers_drawn_once w es t run)
    by [] run zero l = λ n. refl
    by (e ∷ es) run zero l = absurd (none_allowed w e t l run.0)

pub conditions_law : {C : Type 0} → AfterEveryRunWithHistory (ConditionsAgree {C = C})
conditions_law w finish es f t run = same_conditions w (reached w es) (committed_told w finish es f t run).numbered (verdicts_law w finish es f t run)
