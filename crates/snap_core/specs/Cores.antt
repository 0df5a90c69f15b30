-- What a core is, and the run that it has come from.
use Rattle.std.specs.Prelude.{◌≡◌, ℕ, ◌≤◌, true, [], ◌∷◌, ◌++◌, List}
use Rattle.aml_slice.specs.Controls.{Rest}
use Rattle.snap_hand.specs.core_rows.declared.step_no.StepNo.{StepNo}
use Rattle.snap_hand.specs.core_rows.declared.step_no.StepNo.TheVariants.{NotNow, Memory}
use Rattle.protocol.specs.Conditions.{IsAllowed, refusal}
use Rattle.protocol.specs.Events.{Event}
use Rattle.protocol.specs.Parts.{Machine}
use Rattle.protocol.specs.Runs.{IsRun, reached}
use Rattle.snap_hand.specs.Hands.{Parts, Fits, IsHandOf, IsWhole}
use Rattle.snap_hand.specs.Steps.{OnSomeRun, may_want}
use Rattle.snap_hand.specs.Tables.{AreTables, fixed_of}
use Rattle.snap_hand.specs.declared.tables.Tables.{Tables}

pub record CoreState : Type 0 where
  pub tables : Tables
  pub hand : Parts

-- Of an accepted text all parts are there, and they show a state that some run has come to.
pub record IsCore (t : Tables) (h : Parts) : Type 0 where
  pub tables : AreTables t
  pub places : IsHandOf (fixed_of t) h
  pub whole : IsWhole h
  pub some : OnSomeRun (fixed_of t) h

-- the state that a run of the text leads to
abbrev pub state_at : CoreState → List Event → Machine Rest
state_at c es = reached (fixed_of c.tables) es

-- The events are a run of the text, and the core shows the state to which it leads.
pub record IsAt (c : CoreState) (es : List Event) : Type 0 where
  pub run : IsRun (fixed_of c.tables) es
  pub fits : Fits c.hand (state_at c es)

-- wherever the core is, the event is allowed, and then it is behind it
abbrev pub HasTaken : Event → CoreState → CoreState → Type 0
HasTaken e old new = (es : List Event) → IsAt old es → IsAllowed (fixed_of old.tables) e (state_at old es) × IsAt new (es ++ e ∷ [])

-- wherever the core is, this is the number of the first condition that is false, or 0 where the event is allowed
abbrev pub IsRefusalBy : Event → CoreState → ℕ → Type 0
IsRefusalBy e c rule = (es : List Event) → IsAt c es → refusal (fixed_of c.tables) e (state_at c es) ≡ rule

abbrev pub IsNoBy : Event → CoreState → StepNo → Type 0
IsNoBy e c (NotNow rule) = (1 ≤ rule) × IsRefusalBy e c rule
IsNoBy e c Memory = may_want e ≡ true
