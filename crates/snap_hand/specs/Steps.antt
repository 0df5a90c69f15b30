-- What an event makes of a hand.
use Rattle.std.specs.Prelude.{◌≡◌, ℕ, ◌≤◌, Bool, true, false, Result, Ok, Err}
use Rattle.aml_slice.specs.Controls.{Rest}
use Rattle.core_rows.specs.OnRuns.{HasRun}
use Rattle.core_rows.specs.declared.step_no.StepNo.{StepNo}
use Rattle.core_rows.specs.declared.step_no.StepNo.TheVariants.{NotNow, Memory}
use Rattle.protocol.specs.Conditions.{IsAllowed, refusal}
use Rattle.protocol.specs.Effects.{after}
use Rattle.protocol.specs.Events.{Event, Submit, Form, Admit, Arrive, Ask, Take, Send, End, Complete, Commit, Prepare, Decide}
use Rattle.protocol.specs.Fixed.{Fixed}
use Rattle.protocol.specs.Parts.{Machine}
use Rattle.snap_hand.specs.Hands.{Parts, Fits, IsHandOf, are_there, HasFootprint}

-- some run has come to a state that the hand fits
pub record OnSomeRun (w : Fixed Rest) (h : Parts) : Type 0 where
  pub state : Machine Rest
  pub run : HasRun w state
  pub fits : Fits h state

-- what is asked of a hand before an event
pub record MayBeAsked (w : Fixed Rest) (e : Event) (h : Parts) : Type 0 where
  pub places : IsHandOf w h
  pub parts : HasFootprint w e h
  pub some : OnSomeRun w h

-- In each state that the hand fits the event is allowed, and then the hand fits the state after it.
abbrev pub IsTakenOn : Fixed Rest → Event → Parts → Parts → Type 0
IsTakenOn w e old new = (s : Machine Rest) → HasRun w s → Fits old s → IsAllowed w e s × Fits new (after w e s)

-- In each state that the hand fits this is the number of the first condition that is false, or 0 where the event is allowed.
abbrev pub IsRefusalOn : Fixed Rest → Event → Parts → ℕ → Type 0
IsRefusalOn w e h rule = (s : Machine Rest) → HasRun w s → Fits h s → refusal w e s ≡ rule

-- The events that may want memory. The others find all the room that they need.
abbrev pub may_want : Event → Bool
may_want (Submit n) = true
may_want (Form k) = true
may_want (Admit t) = true
may_want (Arrive k a) = true
may_want (Ask t a) = true
may_want (Take t a) = true
may_want (Send t a) = true
may_want (End t a) = true
may_want (Complete k a) = true
may_want (Commit k) = true
may_want (Prepare t a) = true
may_want (Decide t) = true
may_want _ = false

abbrev pub IsNoOn : Fixed Rest → Event → Parts → StepNo → Type 0
IsNoOn w e h (NotNow rule) = (1 ≤ rule) × IsRefusalOn w e h rule
IsNoOn w e h Memory = may_want e ≡ true

-- The event is taken, and the same parts are there; or the hand is as before, with the number of the first condition that is
-- false, or for want of memory.
abbrev pub IsStep : Fixed Rest → Event → Parts → Parts → Result (Unit {0}) StepNo → Type 0
IsStep w e old new (Ok _) = IsTakenOn w e old new × IsHandOf w new × (are_there new ≡ are_there old)
IsStep w e old new (Err n) = IsNoOn w e old n × (new ≡ old)
