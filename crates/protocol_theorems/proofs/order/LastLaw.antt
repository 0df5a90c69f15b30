-- The order of committed transactions, of every run, with nothing owed.
use Rattle.std.specs.Prelude.{◌≡◌, refl, ℕ, zero, suc, List, [], ◌∷◌, length}
use Rattle.std.proofs.Common.{arith}
use Rattle.snap_base.specs.declared.transactions.State.{State}
use Rattle.snap_base.specs.declared.transactions.Tx.{Tx}
use Rattle.snap_base.specs.declared.verdicts.Verdict.TheVariants as verdicts
use Rattle.protocol.specs.Fixed.{Fixed, IsText}
use Rattle.protocol.specs.Facts.{Alone, Facts}
use Rattle.protocol.specs.Parts.{Machine}
use Rattle.protocol.specs.Events.{Event}
use Rattle.protocol.specs.Conditions.{IsAllowed}
use Rattle.protocol.specs.Effects.{after}
use Rattle.protocol.specs.Runs.{opening, new_cell, IsRun, reached}
use Rattle.protocol.specs.History.{History, no_history, history, grown}
use Rattle.protocol_theorems.specs.Order.{Nobody, OrderFacts, QuietFacts, OrderStands, OrderHolds}
use Rattle.protocol_laws.proofs.machine.Good.{Given}
use Rattle.protocol_laws.proofs.machine.AllGood.{AllGood, all_good, along_good, none_allowed, verdicts_say}
use Rattle.protocol_laws.proofs.machine.Higher.{places_rise, places_differ}
use Rattle.protocol_theorems.proofs.order.ArrivesOnce.{AllPlaced}
use Rattle.protocol_theorems.proofs.order.ArrivesOnce as once
use Rattle.protocol_theorems.proofs.order.OwedHolds.{owed}
use Rattle.protocol_theorems.proofs.order.OrderLaw.{Ordered, Told, WhenQuiet, facts, quiet_state}
use Rattle.protocol_theorems.proofs.order.OrderLaw as order
use Rattle.protocol_theorems.proofs.order.OrderImplied.{order_stands, order_holds}
use Rattle.protocol.specs.Rests.{IsRest, IsTxIn, HasFacts}
use Rattle.protocol.specs.Laws.{AfterEveryRunWithHistory}
use Rattle.protocol_laws.proofs.first.Times.{length_map}

-- ---- all of it, along a run

pub record Whole {C : Type 0} (w : Fixed C) (Of : Tx → C → Type 0) (finish : C → List State → Alone) (s : Machine C) (h : History) : Type 0 where
  pub once : AllPlaced s h
  pub ordered : Ordered w Of finish s h

pub kept : {C : Type 0} (w : Fixed C) (Of : Tx → C → Type 0) (finish : C → List State → Alone) (e : Event) (s : Machine C) (h : History) → Given w Of finish → IsAllowed w e s → AllGood w Of finish s h → Whole w Of finish s h → Whole w Of finish (after w e s) (grown w e s h)
kept w Of finish e s h v ok g i = record {
  once = once.kept w e s h ok g.good.agreeing g.good.placed i.once;
  ordered = order.kept w Of finish e s h v ok (owed w Of finish e s h v ok i.once g) g.good i.ordered;
}

pub opened : {C : Type 0} (w : Fixed C) (Of : Tx → C → Type 0) (finish : C → List State → Alone) → Given w Of finish → Whole w Of finish (opening w) no_history
unfolding AllPlaced
opened w Of finish v = record { once = λ a. tt; ordered = order.opened w Of finish v }

pub whole : {C : Type 0} (w : Fixed C) (Of : Tx → C → Type 0) (finish : C → List State → Alone) (es : List Event) → Given w Of finish → IsRun w es → Whole w Of finish (reached w es) (history w es)
whole w Of finish es v run = along_good w Of finish (Whole w Of finish) v (λ e s h ok g i. kept w Of finish e s h v ok g i) (opened w Of finish v) es run

-- ---- verdicts

told : {C : Type 0} (w : Fixed C) (Of : Tx → C → Type 0) (finish : C → List State → Alone) (es : List Event) → Given w Of finish → IsRun w es → Told (reached w es) (history w es)
told w Of finish es v run = record {
  told_value = λ n p x e. verdicts_say w Of finish es v run n (verdicts.Committed p x) e;
  told_code = λ n p c e. verdicts_say w Of finish es v run n (verdicts.Code p c) e;
}

-- ---- the facts over every run

pub facts_hold : {C : Type 0} (w : Fixed C) (Of : Tx → C → Type 0) (finish : C → List State → Alone) (es : List Event) → Given w Of finish → IsRun w es → OrderFacts w finish (reached w es) (history w es)
facts_hold w Of finish es v run =
    let i = whole w Of finish es v run in
    facts w Of finish (reached w es) (history w es) (all_good w Of finish es v run).good i.ordered (record { rise = λ a k. places_rise w Of finish es v run a; differ = places_differ w Of finish es v run }) (told w Of finish es v run)

-- where there is no actor there is no event
at_opening : {C : Type 0} (w : Fixed C) (finish : C → List State → Alone) → OrderFacts w finish (opening w) no_history
at_opening w finish = record {
  explained = tt;
  linked = λ a k. tt;
  rise = λ a k. tt;
  readers = tt;
  still = λ a. tt;
  differ = tt;
  chains = λ a k. Nobody [] [] refl refl;
  told_value = λ n p v e. absurd (cc e);
  told_code = λ n p c e. absurd (cc e);
}

pub all_facts : {C : Type 0} (w : Fixed C) (Of : Tx → C → Type 0) (finish : C → List State → Alone) (es : List Event) → Facts (length w.text.opening.states) w.code (IsTxIn w.text) Of finish → IsText w.text → IsRun w es → OrderFacts w finish (reached w es) (history w es)
all_facts w Of finish es f t run = by es run (length w.text.opening.states) refl
  where
    by : (es : List Event) → IsRun w es → (n : ℕ) → length w.text.opening.states ≡ n → OrderFacts w finish (reached w es) (history w es)
    by es run (suc n) l = facts_hold w Of finish es (record { text = t; actors = omega (arith, l); facts = f }) run
    by [] run zero l = at_opening w finish
    by (e ∷ es) run zero l = absurd (none_allowed w e t l run.0)

-- ---- the last law

-- Of every run of every accepted text, over code with the facts, with nothing else owed.
pub order_of_runs : {C : Type 0} → AfterEveryRunWithHistory (OrderStands {C = C})
order_of_runs w finish es f t run = order_stands w finish (reached w es) (history w es) (all_facts w (IsRest w.code (IsTxIn w.text)) finish es f t run)

-- With what is owed of quiet states.
quiet_facts : {C : Type 0} (w : Fixed C) (Of : Tx → C → Type 0) (finish : C → List State → Alone) (es : List Event) → Facts (length w.text.opening.states) w.code (IsTxIn w.text) Of finish → IsText w.text → IsRun w es → WhenQuiet w (reached w es) (history w es) → QuietFacts w (reached w es) (history w es)
quiet_facts {C} w Of finish es f t run q = by es run q (length w.text.opening.states) refl
  where
    by : (es : List Event) → IsRun w es → WhenQuiet w (reached w es) (history w es) → (n : ℕ) → length w.text.opening.states ≡ n → QuietFacts w (reached w es) (history w es)
    by es run q (suc n) l =
        let v : Given w Of finish = record { text = t; actors = omega (arith, l); facts = f } in
        let g = all_good w Of finish es v run in
        record {
          cells = (whole w Of finish es v run).ordered.results.cells;
          all_told = q.all_told;
          quiet_states = λ i a k. quiet_state w (reached w es) (history w es) a g.good.tracked g.good.committed (q.all_kept i a k);
        }
    by [] run q zero l = record { cells = length_map (new_cell _) w.text.opening.states; all_told = λ i. tt; quiet_states = λ i a k. absurd (omega (arith, k, l)) }
    by (e ∷ es) run q zero l = absurd (none_allowed w e t l run.0)

pub whole_order_of_runs : {C : Type 0} (w : Fixed C) (finish : C → List State → Alone) (es : List Event) → HasFacts w finish → IsText w.text → IsRun w es → WhenQuiet w (reached w es) (history w es) → OrderHolds w finish (reached w es) (history w es)
whole_order_of_runs w finish es f t run q =
    order_holds w finish (reached w es) (history w es) (all_facts w (IsRest w.code (IsTxIn w.text)) finish es f t run) (quiet_facts w (IsRest w.code (IsTxIn w.text)) finish es f t run q)
