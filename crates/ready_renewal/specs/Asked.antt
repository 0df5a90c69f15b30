-- What is asked again after an event, with all parts at hand, and what becomes of the kept events.
use Rattle.std.specs.Prelude.{◌≡◌, ℕ, ◌==◌, Bool, false, ◌&&◌, Option, Some, None, List, Contains, filter, ◌⊎◌}
use Rattle.std.specs.List.{list_any}
use Rattle.aml_slice.specs.Controls.{Rest}
use Rattle.snap_hand.specs.core_rows.OnRuns.{HasRun}
use Rattle.protocol.specs.Conditions.{IsAllowed}
use Rattle.protocol.specs.Events.{Event}
use Rattle.protocol.specs.Fixed.{Fixed}
use Rattle.protocol.specs.Parts.{Machine}
use Rattle.protocol.specs.Schedule.{AscendByRank}
use Rattle.protocol_ready.specs.Refusing.{may_refuse}
use Rattle.ready_list.specs.Order.{first_of, kind_of}
use Rattle.snap_hand.specs.Hands.{Parts, Fits}

-- in each state that the hand fits it is allowed
abbrev pub IsAllowedOn : Fixed Rest → Parts → Event → Type 0
IsAllowedOn w h f = (s : Machine Rest) → HasRun w s → Fits h s → IsAllowed w f s

-- in none it is
abbrev pub IsRefusedOn : Fixed Rest → Parts → Event → Type 0
IsRefusedOn w h f = (s : Machine Rest) → HasRun w s → Fits h s → IsAllowed w f s → ⊥

-- of this kind, and with this first number where one is given
abbrev pub is_of : Option ℕ → Event → ℕ → Bool
is_of None f kind = kind_of f == kind
is_of (Some n) f kind = (kind_of f == kind) && (first_of f == n)

abbrev pub of_kind : ℕ → Option ℕ → List Event → List Event
of_kind kind number es = filter (λ f. is_of number f kind) es

-- of one of these kinds
abbrev pub of_kinds : List ℕ → Option ℕ → List Event → List Event
of_kinds kinds number es = filter (λ f. list_any (is_of number f) kinds) es

-- an event is gone or allowed, or it is e, or e may not refuse it
abbrev pub IsSettled : Fixed Rest → Parts → Event → Event → List Event → Type 0
IsSettled w h e f gone = (Contains gone f ⊎ IsAllowedOn w h f) ⊎ ((f ≡ e) ⊎ (may_refuse e f ≡ false))

-- One other than e was asked for again: it is gone where e may refuse it and it is refused, and nothing else that is allowed is.
pub record IsAsked (w : Fixed Rest) (h : Parts) (e f : Event) (old new : List Event) : Type 0 where
  pub out : (g : Event) → Contains new g → Contains old g ⊎ IsRefusedOn w h g
  pub kept : (g : Event) → Contains old g → Contains new g
  pub asked : IsSettled w h e f new

-- These were asked for again.
pub record AreAsked (w : Fixed Rest) (h : Parts) (e : Event) (es old new : List Event) : Type 0 where
  pub out : (g : Event) → Contains new g → Contains old g ⊎ IsRefusedOn w h g
  pub kept : (g : Event) → Contains old g → Contains new g
  pub asked : (f : Event) → Contains es f → IsSettled w h e f new

-- Of these events all that are refused are gone, but for e itself, and what e can't refuse.
pub record AreRefused (w : Fixed Rest) (h : Parts) (e : Event) (es gone : List Event) : Type 0 where
  pub out : (f : Event) → Contains gone f → IsRefusedOn w h f
  pub all : (f : Event) → Contains es f → IsSettled w h e f gone

-- just those that are gone are taken out
pub record IsWithout (gone old new : List Event) : Type 0 where
  pub only : (f : Event) → Contains new f → Contains old f × (Contains gone f → ⊥)
  pub kept : (f : Event) → Contains old f → Contains new f ⊎ Contains gone f
  pub ascends : AscendByRank old → AscendByRank new

-- one was looked at, and put in where it is allowed; nothing else is new
pub record IsPutIn (w : Fixed Rest) (h : Parts) (e : Event) (old new : List Event) : Type 0 where
  pub only : (f : Event) → Contains new f → Contains old f ⊎ IsAllowedOn w h f
  pub kept : (f : Event) → Contains old f → Contains new f
  pub due : Contains new e ⊎ IsRefusedOn w h e
  pub ascends : AscendByRank old → AscendByRank new

-- some were looked at, one after the other: they are in where they are allowed, and nothing else is new
pub record IsWith (w : Fixed Rest) (h : Parts) (news old new : List Event) : Type 0 where
  pub only : (f : Event) → Contains new f → Contains old f ⊎ IsAllowedOn w h f
  pub kept : (f : Event) → Contains old f → Contains new f
  pub due : (f : Event) → Contains news f → Contains new f ⊎ IsRefusedOn w h f
  pub ascends : AscendByRank old → AscendByRank new

-- some were put in, one after the other, with none asked, and nothing else is new
pub record IsWithAll (news old new : List Event) : Type 0 where
  pub only : (f : Event) → Contains new f → Contains old f ⊎ Contains news f
  pub kept : (f : Event) → Contains old f → Contains new f
  pub all : (f : Event) → Contains news f → Contains new f
  pub ascends : AscendByRank old → AscendByRank new
