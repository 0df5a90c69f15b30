-- What an event may have made allowed.
use Rattle.std.specs.Prelude.{◌≡◌, ◌==◌, Bool, true, false, not, ◌&&◌, List, Contains}
use Rattle.aml_slice.specs.Controls.{Rest}
use Rattle.snap_hand.specs.core_rows.OnRuns.{HasRun}
use Rattle.protocol.specs.Conditions.{IsAllowed, refusal}
use Rattle.protocol.specs.Effects.{after}
use Rattle.protocol.specs.Events.{Event, Sync}
use Rattle.protocol.specs.Fixed.{Fixed}
use Rattle.protocol.specs.Parts.{Machine}
use Rattle.protocol_ready.specs.Touched.{is_touched}
use Rattle.snap_hand.specs.Hands.{Parts, Fits}

-- the event reads what e changed, was not allowed before it, and is allowed after it
abbrev pub is_new : Fixed Rest → Event → Machine Rest → Event → Bool
is_new w e s f = is_touched w e s f && (not (refusal w f s == 0) && (refusal w f (after w e s) == 0))

-- The event was allowed in this state, to which some run has come, and the hand fits the state after it.
pub record IsBehind (w : Fixed Rest) (e : Event) (s : Machine Rest) (h : Parts) : Type 0 where
  pub run : HasRun w s
  pub allowed : IsAllowed w e s
  pub fits : Fits h (after w e s)

-- ---- ahead of a sync

-- the event is a sync
abbrev pub is_sync : Event → Bool
is_sync (Sync l) = true
is_sync _ = false

-- The event is allowed in this state, to which some run has come, and the hand fits the state.
pub record IsAheadOf (w : Fixed Rest) (e : Event) (s : Machine Rest) (h : Parts) : Type 0 where
  pub run : HasRun w s
  pub allowed : IsAllowed w e s
  pub fits : Fits h s

-- of a sync: all that it will have made allowed is among these
abbrev pub IsForeseen : Fixed Rest → Event → Machine Rest → List Event → Type 0
IsForeseen w e s es = is_sync e ≡ true → (f : Event) → is_new w e s f ≡ true → Contains es f
