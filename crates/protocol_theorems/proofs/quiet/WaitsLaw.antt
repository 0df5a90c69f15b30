-- Each waits for one that is lower, and who waits for nobody goes on: the law over every run, with no actor too.
use Rattle.std.specs.Prelude.{◌≡◌, refl, ℕ, zero, suc, List, [], ◌∷◌, ◌++◌, length}
use Rattle.std.proofs.Common.{arith, sym}
use Rattle.std.proofs.lemmas.Bool.{true≢false}
use Rattle.protocol.specs.Fixed.{Fixed}
use Rattle.protocol.specs.Parts.{Who, OfBatch, OfAct, Machine}
use Rattle.protocol.specs.Rests.{IsRest, IsTxIn}
use Rattle.protocol.specs.Laws.{AfterEveryRunWithHistory}
use Rattle.protocol.specs.Events.{Event}
use Rattle.protocol.specs.Runs.{opening, IsRun, IsQuiet, reached}
use Rattle.protocol.specs.History.{history}
use Rattle.protocol_theorems.specs.Quiet.{Orderly}
use Rattle.protocol_theorems.specs.Waits.{IsPending, WaitsFor, WaitsAlong, WaitsEnd}
use Rattle.protocol_laws.proofs.machine.Good.{Given}
use Rattle.protocol_laws.proofs.machine.AllGood.{none_allowed}
use Rattle.protocol_theorems.proofs.quiet.HomeKept.{pacts_at_home}
use Rattle.protocol_theorems.proofs.quiet.QuietAct.{no_act}
use Rattle.protocol_theorems.proofs.quiet.QuietBatch.{no_batch}
use Rattle.protocol_theorems.proofs.quiet.QuietOwed.{still_owed}
use Rattle.protocol_theorems.proofs.quiet.QuietRuns.{orderly}
use Rattle.protocol_theorems.proofs.quiet.WaitsFall.{falls, no_circle, pending}

goes_on : {C : Type 0} (w : Fixed C) (s : Machine C) → Orderly w s → (x : Who) → IsPending s x → ((y : Who) → WaitsFor s x y → ⊥) → IsQuiet w s → ⊥
goes_on w s o (OfBatch k) h n q = no_batch w s k q o n h
goes_on w s o (OfAct t) h n q = let y = pending s t h in no_act w s t y.act q o n y.found y.waiting

-- where there are no actors nobody has something to do
nobody : {C : Type 0} (w : Fixed C) (x : Who) → IsPending (opening w) x → ⊥
nobody w (OfBatch k) h = true≢false (sym h)
nobody w (OfAct t) h = true≢false (sym h)

none_along : {C : Type 0} (w : Fixed C) (x z : Who) (ys : List Who) → WaitsAlong (opening w) x (ys ++ z ∷ []) → ⊥
none_along w x z [] h = nobody w x h.0.waiter
none_along w x z (y ∷ ys) h = nobody w x h.0.waiter

pub waits_law : {C : Type 0} → AfterEveryRunWithHistory (WaitsEnd {C = C})
waits_law {C} w finish es f t run = by es run (length w.text.opening.states) refl
  where
    by : (es : List Event) → IsRun w es → (n : ℕ) → length w.text.opening.states ≡ n → WaitsEnd w finish (reached w es) (history w es)
    by es run (suc n) l =
        let v : Given w (IsRest w.code (IsTxIn w.text)) finish = record { text = t; actors = omega (arith, l); facts = f } in
        let o = orderly w es t v.actors run (still_owed w (IsRest w.code (IsTxIn w.text)) finish es v run (pacts_at_home w (IsRest w.code (IsTxIn w.text)) finish es v run)) in
        record { falls = falls w (reached w es) o; no_circle = no_circle w (reached w es) o; goes_on = goes_on w (reached w es) o }
    by [] run zero l = record { falls = λ x y h. absurd (nobody w x h.waiter); no_circle = λ x ys h. none_along w x x ys h; goes_on = λ x h n q. nobody w x h }
    by (e ∷ es) run zero l = absurd (none_allowed w e t l run.0)
