-- What the controls under way are: rests of transactions of the text.
use Rattle.std.specs.Prelude.{◌≡◌, ℕ, ◌<◌, List, length, ⊤}
use Rattle.std.specs.List.{AllByRecursion}
use Rattle.snap_base.specs.declared.transactions.State.{State}
use Rattle.snap_base.specs.declared.transactions.Tx.{Tx}
use Rattle.protocol.specs.Fixed.{Fixed, Next, Go, Ended}
use Rattle.protocol.specs.Facts.{Alone}
use Rattle.protocol.specs.Rests.{IsRest, IsTxIn}
use Rattle.protocol.specs.Parts.{Machine}
use Rattle.protocol.specs.Effects.{cell_at}
use Rattle.protocol.specs.History.{History}

-- a rest of a transaction of the text, that stands on this actor
pub record IsRestOn {C : Type 0} (w : Fixed C) (a : ℕ) (c : C) : Type 0 where
  pub tx : Tx
  pub of_it : IsRest w.code (IsTxIn w.text) tx c
  pub at : w.code.at c ≡ a
  pub actor : a < length w.text.opening.states

-- what goes on goes on as such a rest
abbrev pub GoesOnAsRest : {C : Type 0} → Fixed C → Next C → Type 0
GoesOnAsRest w (Go a c) = IsRestOn w a c
GoesOnAsRest w (Ended r) = ⊤

-- Each control is a rest that stands where it goes, or where it lies.
pub record ControlsAreRests {C : Type 0} (w : Fixed C) (finish : C → List State → Alone) (s : Machine C) (h : History) : Type 0 where
  pub posted : AllByRecursion (λ m. IsRestOn w m.to m.control) s.post.controls
  pub inboxes : (a : ℕ) → AllByRecursion (λ x. IsRestOn w a x.control) (cell_at s a).inbox
  pub outboxes : (a : ℕ) → AllByRecursion (λ x. GoesOnAsRest w x.next) (cell_at s a).outbox
