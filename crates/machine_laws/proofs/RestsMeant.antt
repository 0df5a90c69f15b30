-- A rest of a transaction of a text, as the machine has it, is what the executor asks of a control.
use Rattle.std.proofs.Common.{ℕ, List, [], ◌∷◌, length, subst}
use Rattle.std.specs.List.{AllByRecursion}
use Rattle.snap_base.specs.declared.transactions.State.{State}
use Rattle.snap_base.specs.declared.transactions.Tx.{Tx}
use Rattle.aml_tree.specs.Tree.{CheckedMethod}
use Rattle.aml_check.specs.Transactions.{IsTransaction}
use Rattle.aml_slice.specs.Controls.{Rest}
use Rattle.protocol.specs.Fixed.{Text, Next, Go, Ended}
use Rattle.protocol.specs.Facts.{Facts, Alone}
use Rattle.protocol.specs.Parts.{Machine}
use Rattle.protocol.specs.Effects.{cell_at}
use Rattle.protocol.specs.History.{History}
use Rattle.protocol.specs.Rests.{Leads}
use Rattle.protocol_theorems.specs.Controls.{IsRestOn, GoesOnAsRest, ControlsAreRests}
use Rattle.machine_laws.specs.MethodCode.{method_code, finish, IsRestOf}
use Rattle.machine_laws.specs.Controls.{MayRunOn, MayGoOn, ControlsMayRun}
use Rattle.machine_laws.specs.Programs.{IsTextOf, with_code}
use Rattle.machine_laws.proofs.Instances.{HaveFacts, may_be_asked}

leads_to : (p : List CheckedMethod) (count : ℕ) (tx : Tx) → Facts count (method_code p count) (IsTransaction p count) (IsRestOf p count) (finish p count)
    → (c : Rest) (ss : List State) (d : Rest) → IsRestOf p count tx c → Leads (method_code p count) c ss d → IsRestOf p count tx d
leads_to p count tx f c [] d is l = subst (IsRestOf p count tx) l is
leads_to p count tx f c (s ∷ ss) d is l = leads_to p count tx f l.1.0 ss d (f.stays tx c l.1.0 l.0 (record { from = s; of_it = is; goes = l.1.1.0 })) l.1.1.1

module _ (p : List CheckedMethod) (w : Text) (facts : HaveFacts p) (is : IsTextOf p w) where
  may_run_on : (a : ℕ) (c : Rest) → IsRestOn (with_code p w) a c → MayRunOn p (with_code p w) a c
  may_run_on a c on =
      let count = length w.opening.states in
      let f = facts count in
      let t = on.of_it.1.0 in
      ((leads_to p count on.tx f ((method_code p count).start t on.tx) on.of_it.1.1.0 c (f.starts t on.tx (may_be_asked p w is on.tx on.of_it.0)) on.of_it.1.1.1).rest, on.at)

  may_go_on : (n : Next Rest) → GoesOnAsRest (with_code p w) n → MayGoOn p (with_code p w) n
  may_go_on (Go a c) on = may_run_on a c on
  may_go_on (Ended r) on = tt

  each : {X : Type 0} (P Q : X → Type 0) (xs : List X) → ((x : X) → P x → Q x) → AllByRecursion P xs → AllByRecursion Q xs
  each P Q [] k h = tt
  each P Q (x ∷ xs) k h = (k x h.0, each P Q xs k h.1)

  pub controls_may_run : (finish : Rest → List State → Alone) (s : Machine Rest) (h : History) → ControlsAreRests (with_code p w) finish s h → ControlsMayRun p (with_code p w) finish s h
  controls_may_run finish s h all = record {
    posted = each _ _ s.post.controls (λ m on. may_run_on m.to m.control on) all.posted;
    inboxes = λ a. each _ _ (cell_at s a).inbox (λ x on. may_run_on a x.control on) (all.inboxes a);
    outboxes = λ a. each _ _ (cell_at s a).outbox (λ x on. may_go_on x.next on) (all.outboxes a);
  }
