-- Whether an event that is kept in a list is allowed, wherever the core is.
use Rattle.std.specs.Prelude.{List}
use Rattle.protocol.specs.Conditions.{IsAllowed}
use Rattle.protocol.specs.Events.{Event}
use Rattle.snap_core.specs.Cores.{CoreState, IsAt, state_at}
use Rattle.snap_hand.specs.Tables.{fixed_of}

-- wherever the core is, the event is allowed
abbrev pub IsAllowedAt : CoreState → Event → Type 0
IsAllowedAt c f = (es : List Event) → IsAt c es → IsAllowed (fixed_of c.tables) f (state_at c es)

-- wherever it is, the event is not
abbrev pub IsRefusedAt : CoreState → Event → Type 0
IsRefusedAt c f = (es : List Event) → IsAt c es → IsAllowed (fixed_of c.tables) f (state_at c es) → ⊥
