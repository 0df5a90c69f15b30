-- Where events stand in the order, and where one is or would go.
use Rattle.std.specs.Prelude.{◌≡◌, ℕ, ◌<◌, ◌≤◌, ◌==◌, nat_lt, Bool, true, false, not, ◌&&◌, ◌||◌, List, length, slice_index_or}
use Rattle.protocol.specs.Events.{Event, Submit}
use Rattle.protocol.specs.Schedule.{rank, is_rank_below}
use Rattle.ready_list.specs.declared.places.Place.{Place}

-- from 1 to 27
abbrev pub kind_of : Event → ℕ
kind_of e = (rank e).kind

abbrev pub first_of : Event → ℕ
first_of e = (rank e).first

abbrev pub numbers : Event → Place
numbers e = record { first = (rank e).first; second = (rank e).second }

abbrev pub is_lower : Place → Place → Bool
is_lower p q = nat_lt p.first q.first || ((p.first == q.first) && nat_lt p.second q.second)

abbrev pub is_same : Place → Place → Bool
is_same p q = (p.first == q.first) && (p.second == q.second)

-- whether they are one event
abbrev pub is_one : Event → Event → Bool
is_one e f = (kind_of e == kind_of f) && is_same (numbers e) (numbers f)

abbrev pub is_before : Event → Event → Bool
is_before e f = is_rank_below (rank e) (rank f)

-- a list as contracts see it: its events, and for how many more there is room, by kind
pub record RoomedList : Type 0 where
  pub events : List Event
  pub spare : List ℕ

-- for how many more of a kind there is room
abbrev pub spare_of : RoomedList → ℕ → ℕ
spare_of l k = slice_index_or l.spare k 0

-- the event at a place
abbrev pub at : List Event → ℕ → Event
at es i = slice_index_or es i (Submit 0)

-- here the event is, or would go
pub record IsGap (es : List Event) (e : Event) (i : ℕ) : Type 0 where
  pub within : i ≤ length es
  pub ahead : (j : ℕ) → j < i → is_before (at es j) e ≡ true
  pub behind : (j : ℕ) → i ≤ j → j < length es → is_before (at es j) e ≡ false

-- an event is here, and the other one, which is of the same kind, is not before it
abbrev pub is_there : List Event → Event → ℕ → Bool
is_there es e i = nat_lt i (length es) && not (is_lower (numbers e) (numbers (at es i)))
