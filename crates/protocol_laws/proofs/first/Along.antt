-- What holds at the opening, and is kept by each allowed event, holds after every run.
use Rattle.std.specs.Prelude.{List, [], ◌∷◌}
use Rattle.protocol.specs.Fixed.{Fixed}
use Rattle.protocol.specs.Parts.{Machine}
use Rattle.protocol.specs.Events.{Event}
use Rattle.protocol.specs.Conditions.{IsAllowed}
use Rattle.protocol.specs.Effects.{after}
use Rattle.protocol.specs.Runs.{state_after, EachAllowed}

pub along : {C : Type 0} (w : Fixed C) (P : Machine C → Type 0) → ((e : Event) (s : Machine C) → IsAllowed w e s → P s → P (after w e s))
    → (es : List Event) (s : Machine C) → EachAllowed w es s → P s → P (state_after w es s)
along w P kept [] s run p = p
along w P kept (e ∷ es) s run p = along w P kept es (after w e s) run.1 (kept e s run.0 p)
