-- What the controls under way are in the executor's words: a slice of each may run on the actor where it stands.
use Rattle.std.specs.Prelude.{◌≡◌, ℕ, List, length, ⊤}
use Rattle.std.specs.List.{AllByRecursion}
use Rattle.snap_base.specs.declared.transactions.State.{State}
use Rattle.aml_tree.specs.Tree.{CheckedMethod}
use Rattle.aml_slice.specs.Controls.{Rest, IsRest}
use Rattle.protocol.specs.Fixed.{Fixed, Next, Go, Ended}
use Rattle.protocol.specs.Facts.{Alone}
use Rattle.protocol.specs.Parts.{Machine}
use Rattle.protocol.specs.Effects.{cell_at}
use Rattle.protocol.specs.History.{History}

-- what is left of a transaction of the program, standing on this actor
abbrev pub MayRunOn : List CheckedMethod → Fixed Rest → ℕ → Rest → Type 0
MayRunOn p w a c = IsRest p (length w.text.opening.states) c × (c.top.actor ≡ a)

-- what goes on may run where it goes
abbrev pub MayGoOn : List CheckedMethod → Fixed Rest → Next Rest → Type 0
MayGoOn p w (Go a c) = MayRunOn p w a c
MayGoOn p w (Ended r) = ⊤

pub record ControlsMayRun (p : List CheckedMethod) (w : Fixed Rest) (finish : Rest → List State → Alone) (s : Machine Rest) (h : History) : Type 0 where
  pub posted : AllByRecursion (λ m. MayRunOn p w m.to m.control) s.post.controls
  pub inboxes : (a : ℕ) → AllByRecursion (λ x. MayRunOn p w a x.control) (cell_at s a).inbox
  pub outboxes : (a : ℕ) → AllByRecursion (λ x. MayGoOn p w x.next) (cell_at s a).outbox
