-- Rows of the event table over parts: what a row asks of its parts, what it says where it is taken, and where not. What the
-- parts show before it, and after it, is told by `Old` and `New`.
use Rattle.std.specs.Prelude.{◌≡◌, ℕ, ◌≤◌, ⊤}
use Rattle.protocol.specs.Fixed.{Fixed}
use Rattle.protocol.specs.Parts.{Machine}
use Rattle.protocol.specs.Events.{Event}
use Rattle.protocol.specs.Conditions.{IsAllowed, refusal}
use Rattle.protocol.specs.Effects.{after}
use Rattle.core_rows.specs.OnRuns.{HasRun}
use Rattle.core_rows.specs.declared.step_no.StepNo.{StepNo}
use Rattle.core_rows.specs.declared.step_no.StepNo.TheVariants.{NotNow, Memory}

-- the parts show a state that some run has come to
pub record IsOfRun {C : Type 0} (Old : Fixed C → Machine C → Type 0) : Type 0 where
  pub text : Fixed C
  pub state : Machine C
  pub run : HasRun text state
  pub shows : Old text state

module _ {C : Type 0} where
  -- in whatever state the parts show, the event is allowed, and then they show the state after it
  abbrev pub IsTaken : Event → (Fixed C → Machine C → Type 0) → (Fixed C → Machine C → Type 0) → Type 0
  IsTaken e Old New = (w : Fixed C) (s : Machine C) → HasRun w s → Old w s → IsAllowed w e s × New w (after w e s)

  -- this is the number of the first condition that is false, or 0 where the event is allowed
  abbrev pub IsRefusal : Event → (Fixed C → Machine C → Type 0) → ℕ → Type 0
  IsRefusal e Old rule = (w : Fixed C) (s : Machine C) → HasRun w s → Old w s → refusal w e s ≡ rule

  -- the number of the first condition that is false, or that there was no memory
  abbrev pub IsNo : Event → (Fixed C → Machine C → Type 0) → StepNo → Type 0
  IsNo e Old (NotNow rule) = (1 ≤ rule) × IsRefusal e Old rule
  IsNo e Old Memory = ⊤

-- the number of a condition, and not want of memory
abbrev pub IsRule : StepNo → Type 0
IsRule (NotNow rule) = ⊤
IsRule Memory = ⊥
