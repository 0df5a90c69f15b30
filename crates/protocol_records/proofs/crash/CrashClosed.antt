-- The history of a run goes on from each of its moments.
use Rattle.std.specs.Prelude.{◌≡◌, refl, List, [], ◌∷◌, ◌++◌}
use Rattle.protocol.specs.Fixed.{Fixed}
use Rattle.protocol.specs.Events.{Event}
use Rattle.protocol.specs.Parts.{Machine}
use Rattle.protocol.specs.Effects.{after}
use Rattle.protocol.specs.Runs.{state_after}
use Rattle.protocol.specs.History.{History, history_after, grown}

-- the history goes on from the moment
pub goes_on : {C : Type 0} (w : Fixed C) (es fs : List Event) (s : Machine C) (h : History) → history_after w (es ++ fs) s h ≡ history_after w fs (state_after w es s) (history_after w es s h)
goes_on w [] fs s h = refl
goes_on w (e ∷ es) fs s h = goes_on w es fs (after w e s) (grown w e s h)
