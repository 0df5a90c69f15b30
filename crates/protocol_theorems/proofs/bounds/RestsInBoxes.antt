-- Each control under way is a rest of a transaction of the text, and stands where it goes or lies.
use Rattle.std.specs.Prelude.{◌≡◌, refl, ℕ, zero, suc, List, [], ◌∷◌, length}
use Rattle.std.proofs.Common.{arith}
use Rattle.snap_base.specs.declared.transactions.State.{State}
use Rattle.snap_base.specs.declared.transactions.Tx.{Tx}
use Rattle.protocol.specs.Facts.{Alone}
use Rattle.protocol.specs.Fixed.{Fixed, Next, Go, Ended, tx_at}
use Rattle.protocol.specs.Parts.{Machine}
use Rattle.protocol.specs.Events.{Event}
use Rattle.protocol.specs.Effects.{cell_at}
use Rattle.protocol.specs.Rests.{IsRest, IsTxIn}
use Rattle.protocol.specs.Runs.{IsRun, reached}
use Rattle.protocol.specs.History.{History, history}
use Rattle.protocol.specs.Laws.{AfterEveryRunWithHistory}
use Rattle.protocol_theorems.specs.Controls.{GoesOnAsRest, ControlsAreRests}
use Rattle.protocol_laws.specs.Trails.{IsOf}
use Rattle.protocol_laws.proofs.first.Lists.{weaker}
use Rattle.protocol_laws.proofs.machine.ControlWalk.{AllControls, nowhere}
use Rattle.protocol_laws.proofs.machine.TrailsKept.{Told}
use Rattle.protocol_laws.proofs.machine.AllGood.{all_good, none_allowed}

goes_on : {C : Type 0} (w : Fixed C) (tx : Tx) (n : Next C) → IsOf w (IsRest w.code (IsTxIn w.text)) tx n → GoesOnAsRest w n
goes_on w tx (Go a c) is = record { tx = tx; of_it = is.0; at = is.1; actor = is.2 }
goes_on w tx (Ended r) is = tt

from_walk : {C : Type 0} (w : Fixed C) (finish : C → List State → Alone) (s : Machine C) (h : History) → AllControls (λ t n. GoesOnAsRest w n) s → ControlsAreRests w finish s h
from_walk w finish s h all = record { posted = all.posted; inboxes = all.inboxes; outboxes = all.outboxes }

told : {C : Type 0} (w : Fixed C) (finish : C → List State → Alone) (s : Machine C) (h : History) → AllControls (Told w (IsRest w.code (IsTxIn w.text)) finish h) s → AllControls (λ t n. GoesOnAsRest w n) s
told w finish s h all = record {
  posted = weaker _ _ s.post.controls (λ m e. goes_on w (tx_at w.text (h.trails m.tid).tx) (Go m.to m.control) e.of_it) all.posted;
  inboxes = λ a. weaker _ _ (cell_at s a).inbox (λ x e. goes_on w (tx_at w.text (h.trails x.tid).tx) (Go a x.control) e.of_it) (all.inboxes a);
  outboxes = λ a. weaker _ _ (cell_at s a).outbox (λ x e. goes_on w (tx_at w.text (h.trails x.tid).tx) x.next e.of_it) (all.outboxes a);
}

pub controls_are_rests : {C : Type 0} → AfterEveryRunWithHistory (ControlsAreRests {C = C})
controls_are_rests {C} w finish es f t run = by es run (length w.text.opening.states) refl
  where
    by : (es : List Event) → IsRun w es → (n : ℕ) → length w.text.opening.states ≡ n → ControlsAreRests w finish (reached w es) (history w es)
    by es run (suc n) l =
        let good = all_good w (IsRest w.code (IsTxIn w.text)) finish es (record { text = t; actors = omega (arith, l); facts = f }) run in
        from_walk w finish (reached w es) (history w es) (told w finish (reached w es) (history w es) good.good.told)
    by [] run zero l = from_walk w finish (reached w []) (history w []) (nowhere w (λ t n. GoesOnAsRest w n))
    by (e ∷ es) run zero l = absurd (none_allowed w e t l run.0)
