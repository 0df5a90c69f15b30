-- What holds at the opening, and is kept by each allowed event, holds after every run: of the state beside the history.
use Rattle.std.specs.Prelude.{List, [], ◌∷◌}
use Rattle.protocol.specs.Fixed.{Fixed}
use Rattle.protocol.specs.Parts.{Machine}
use Rattle.protocol.specs.Events.{Event}
use Rattle.protocol.specs.Conditions.{IsAllowed}
use Rattle.protocol.specs.Effects.{after}
use Rattle.protocol.specs.Runs.{state_after, EachAllowed}
use Rattle.protocol.specs.History.{History, grown, history_after}

pub along : {C : Type 0} (w : Fixed C) (P : Machine C → History → Type 0) → ((e : Event) (s : Machine C) (h : History) → IsAllowed w e s → P s h → P (after w e s) (grown w e s h))
    → (es : List Event) (s : Machine C) (h : History) → EachAllowed w es s → P s h → P (state_after w es s) (history_after w es s h)
along w P kept [] s h run p = p
along w P kept (e ∷ es) s h run p = along w P kept es (after w e s) (grown w e s h) run.1 (kept e s h run.0 p)
