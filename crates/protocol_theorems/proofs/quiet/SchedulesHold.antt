-- Schedules are in order, over every run.
use Rattle.std.specs.Prelude.{◌≡◌, refl, ℕ, zero, suc, List, [], ◌∷◌, length}
use Rattle.std.proofs.Common.{arith, sym, subst}
use Rattle.snap_base.specs.declared.transactions.Tx.{Tx}
use Rattle.protocol.specs.Fixed.{base}
use Rattle.protocol.specs.Rests.{IsRest, IsTxIn}
use Rattle.protocol.specs.Laws.{AfterEveryRunWithHistory}
use Rattle.protocol.specs.Events.{Event}
use Rattle.protocol.specs.Runs.{IsRun, reached}
use Rattle.protocol.specs.History.{history}
use Rattle.protocol_theorems.specs.OrderCases.{SchedulesInOrder}
use Rattle.protocol_theorems.specs.Quiet.{BeforeBatches, BehindBatches, ActsInOrder}
use Rattle.protocol_laws.proofs.machine.Good.{Given, no_entries}
use Rattle.protocol_laws.proofs.machine.AllGood.{none_allowed}
use Rattle.protocol_theorems.proofs.quiet.HomeKept.{pacts_at_home}
use Rattle.protocol_theorems.proofs.quiet.QuietOwed.{still_owed}

pub schedules_hold : {C : Type 0} → AfterEveryRunWithHistory (SchedulesInOrder {C = C})
schedules_hold {C} w finish es f t run = by es run (length w.text.opening.states) refl
  where
    by : (es : List Event) → IsRun w es → (n : ℕ) → length w.text.opening.states ≡ n → SchedulesInOrder w finish (reached w es) (history w es)
    by es run (suc n) l =
        let Of : Tx → C → Type 0 = IsRest w.code (IsTxIn w.text) in
        let v : Given w Of finish = record { text = t; actors = omega (arith, l); facts = f } in
        let o = still_owed w Of finish es v run (pacts_at_home w Of finish es v run) in
        record { batch_behind_act = o.before; act_behind_batch = o.behind; act_behind_act = o.in_order }
    by [] run zero l =
        let none = λ (a : ℕ). sym (no_entries C (base w.text) w.text.opening.states a) in
        record { batch_behind_act = λ a k. subst (BeforeBatches []) (none a) tt; act_behind_batch = λ a k. subst (BehindBatches []) (none a) tt; act_behind_act = λ a k. subst (ActsInOrder []) (none a) tt }
    by (e ∷ es) run zero l = absurd (none_allowed w e t l run.0)
