-- Runs are short: a number that is at most so many times the transactions falls at every event.
use Rattle.std.specs.Prelude.{◌≡◌, refl, ℕ, zero, suc, ◌≤◌, List, [], ◌∷◌, length}
use Rattle.std.specs.List.{AllByRecursion}
use Rattle.std.proofs.Common.{arith}
use Rattle.snap_base.specs.declared.transactions.Tx.{Tx}
use Rattle.protocol.specs.Fixed.{Fixed, IsText, HasFewUses, declared}
use Rattle.protocol.specs.Rests.{IsRest, IsTxIn}
use Rattle.protocol.specs.Laws.{OfEveryRun}
use Rattle.protocol.specs.Events.{Event}
use Rattle.protocol.specs.Runs.{IsRun}
use Rattle.protocol_theorems.specs.Left.{IsSmall, RunsEnd}
use Rattle.protocol_laws.proofs.first.Times as Times
use Rattle.protocol_laws.proofs.machine.Good.{Given}
use Rattle.protocol_laws.proofs.machine.AllGood.{none_allowed}
use Rattle.protocol_theorems.proofs.quiet.LeftAlong.{opening_left, every_event_lowers, runs_are_short}

few_declared : (txs : List Tx) → AllByRecursion HasFewUses txs → AllByRecursion (λ tx. length (declared tx) ≤ 16) txs
few_declared [] h = tt
few_declared (tx ∷ txs) h = (omega (arith, Times.length_map (λ u. u.0.0) tx.uses, h.0.few), few_declared txs h.1)

pub small : {C : Type 0} (w : Fixed C) → IsText w.text → IsSmall w
small w t = record { actors = t.few_actors; coordinators = t.few_coordinators; uses = few_declared w.text.txs t.uses }

pub runs_end : {C : Type 0} → OfEveryRun (RunsEnd {C = C})
runs_end {C} w finish es f t run = by es run (length w.text.opening.states) refl
  where
    by : (es : List Event) → IsRun w es → (n : ℕ) → length w.text.opening.states ≡ n → RunsEnd w finish es
    by es run (suc n) l =
        let v : Given w (IsRest w.code (IsTxIn w.text)) finish = record { text = t; actors = omega (arith, l); facts = f } in
        record {
          opens = opening_left w;
          falls = λ e ok. every_event_lowers w (IsRest w.code (IsTxIn w.text)) finish es e v (small w t) run ok;
          short = runs_are_short w (IsRest w.code (IsTxIn w.text)) finish es v (small w t) run;
        }
    by [] run zero l = record { opens = opening_left w; falls = λ e ok. absurd (none_allowed w e t l ok); short = omega arith }
    by (e ∷ es) run zero l = absurd (none_allowed w e t l run.0)
