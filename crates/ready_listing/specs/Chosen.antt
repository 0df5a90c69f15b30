-- Which of some events are put into a list: those whose footprint is at hand, and that no condition refuses.
use Rattle.std.specs.Prelude.{Bool, List, Contains, ◌⊎◌}
use Rattle.std.specs.List.{list_all}
use Rattle.aml_slice.specs.Controls.{Rest}
use Rattle.snap_hand.specs.core_rows.OnRuns.{HasRun}
use Rattle.protocol.specs.Conditions.{IsAllowed}
use Rattle.protocol.specs.Events.{Event, footprint}
use Rattle.protocol.specs.Fixed.{Fixed}
use Rattle.protocol.specs.Parts.{Machine}
use Rattle.protocol.specs.Schedule.{AscendByRank}
use Rattle.snap_hand.specs.Hands.{Parts, Fits, HasFootprint, is_at_hand}
use Rattle.snap_hand.specs.Steps.{IsRefusalOn}

-- its footprint is at hand, as a test
abbrev pub is_asked : Fixed Rest → Parts → Event → Bool
is_asked w h e = list_all (is_at_hand h) (footprint w.text.logs e)

-- its footprint is at hand, and in each state that the hand fits no condition refuses it
abbrev pub IsOffered : Fixed Rest → Parts → Event → Type 0
IsOffered w h e = HasFootprint w e h × IsRefusalOn w e h 0

-- in some state that the hand fits it is allowed, and its footprint is at hand
pub record IsDue (w : Fixed Rest) (h : Parts) (e : Event) : Type 0 where
  pub state : Machine Rest
  pub run : HasRun w state
  pub fits : Fits h state
  pub allowed : IsAllowed w e state
  pub parts : HasFootprint w e h

-- Ascending events after one was looked at: it is in where it is due, and nothing else is new.
pub record IsLooked (w : Fixed Rest) (h : Parts) (e : Event) (old new : List Event) : Type 0 where
  pub only : (f : Event) → Contains new f → Contains old f ⊎ IsOffered w h f
  pub kept : (f : Event) → Contains old f → Contains new f
  pub due : IsDue w h e → Contains new e
  pub ascends : AscendByRank old → AscendByRank new

-- In order, all that are due of these events, and only what is offered.
pub record AreChosen (w : Fixed Rest) (h : Parts) (listed chosen : List Event) : Type 0 where
  pub only : (f : Event) → Contains chosen f → IsOffered w h f
  pub due : (f : Event) → Contains listed f → IsDue w h f → Contains chosen f
  pub ascends : AscendByRank chosen
