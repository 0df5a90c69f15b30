-- Rings of events, one for each kind.
use Rattle.std.specs.Prelude.{◌≡◌, ℕ, ◌-◌, ◌^◌, ◌<◌, ◌≤◌, List, [], length, map, min, slice_index_or}
use Rattle.std.specs.List.{AllByRecursion, flat_map}
use Rattle.protocol.specs.Events.{Event}
use Rattle.ready_list.specs.Order.{kind_of}

-- a ring as contracts see it: its events, and for how many more there is room
pub record RoomedRing : Type 0 where
  pub events : List Event
  pub spare : ℕ

-- the ring at a place; behind the last one there are no events, and no room
abbrev pub ring_at : List RoomedRing → ℕ → RoomedRing
ring_at rings k = slice_index_or rings k (record { events = []; spare = 0 })

abbrev pub events_at : List RoomedRing → ℕ → List Event
events_at rings k = (ring_at rings k).events

abbrev pub spare_at : List RoomedRing → ℕ → ℕ
spare_at rings k = (ring_at rings k).spare

abbrev pub AreOfKind : ℕ → List Event → Type 0
AreOfKind k es = AllByRecursion (λ e. kind_of e ≡ k) es

-- the rings one behind the other
abbrev pub all_events : List RoomedRing → List Event
all_events rings = flat_map (λ r. r.events) rings

-- for how many more there is room, by kind: for no more than can be counted
abbrev pub spares : List RoomedRing → ℕ → List ℕ
spares rings count = map (λ r. min r.spare (2 ^ 64 - 1 - count)) rings

-- there are no events in the rings ahead of a place
abbrev pub NoneAhead : List RoomedRing → ℕ → Type 0
NoneAhead rings k = (j : ℕ) → j < k → events_at rings j ≡ []

-- The rings hold this many events, the events of a ring are of its kind, and there are none ahead of the first ring.
pub record AreByKind (rings : List RoomedRing) (count first : ℕ) : Type 0 where
  pub kinds : (k : ℕ) → AreOfKind k (events_at rings k)
  pub counted : count ≡ length (all_events rings)
  pub ahead : NoneAhead rings first

-- the same events, and no less room
pub record AreRoomier (old new : List RoomedRing) : Type 0 where
  pub events : (k : ℕ) → events_at new k ≡ events_at old k
  pub spare : (k : ℕ) → spare_at old k ≤ spare_at new k

-- no ring has changed but the one at this place
pub record IsOneChanged (k : ℕ) (old new : List RoomedRing) : Type 0 where
  pub many : length new ≡ length old
  pub others : (j : ℕ) → (j ≡ k → ⊥) → ring_at new j ≡ ring_at old j
