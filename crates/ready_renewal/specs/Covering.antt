-- Events among which all are that are allowed, and the first of these.
use Rattle.std.specs.Prelude.{◌≡◌, Some, List, slice_get, Contains}
use Rattle.aml_slice.specs.Controls.{Rest}
use Rattle.protocol.specs.Conditions.{IsAllowed}
use Rattle.protocol.specs.Events.{Event}
use Rattle.protocol.specs.Fixed.{Fixed}
use Rattle.protocol.specs.Parts.{Machine}
use Rattle.protocol.specs.Schedule.{AscendByRank, IsEnabled}

-- in order, and maybe with others
pub record Covers (w : Fixed Rest) (s : Machine Rest) (es : List Event) : Type 0 where
  pub all : (f : Event) → IsAllowed w f s → Contains es f
  pub ascends : AscendByRank es

-- of all allowed events, in order
pub record IsFirst (w : Fixed Rest) (s : Machine Rest) (e : Event) : Type 0 where
  pub all : List Event
  pub enabled : IsEnabled w s all
  pub first : slice_get all 0 ≡ Some e
