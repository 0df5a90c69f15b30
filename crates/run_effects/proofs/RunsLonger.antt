-- Runs with one more event.
use Rattle.std.specs.Prelude.{◌≡◌, refl, List, [], ◌∷◌, ◌++◌}
use Rattle.protocol.specs.Fixed.{Fixed}
use Rattle.protocol.specs.Parts.{Machine}
use Rattle.protocol.specs.Events.{Event}
use Rattle.protocol.specs.Conditions.{IsAllowed}
use Rattle.protocol.specs.Effects.{after}
use Rattle.protocol.specs.Runs.{state_after, EachAllowed}

pub state_longer : {C : Type 0} (w : Fixed C) (es fs : List Event) (s : Machine C) → state_after w (es ++ fs) s ≡ state_after w fs (state_after w es s)
state_longer w [] fs s = refl
state_longer w (e ∷ es) fs s = state_longer w es fs (after w e s)

pub allowed_longer : {C : Type 0} (w : Fixed C) (es : List Event) (e : Event) (s : Machine C) → EachAllowed w es s → IsAllowed w e (state_after w es s) → EachAllowed w (es ++ e ∷ []) s
allowed_longer w [] e s run ok = (ok, tt)
allowed_longer w (d ∷ es) e s run ok = (run.0, allowed_longer w es e (after w d s) run.1 ok)

-- the front of a run, and what comes behind it
pub allowed_parts : {C : Type 0} (w : Fixed C) (es fs : List Event) (s : Machine C) → EachAllowed w (es ++ fs) s → EachAllowed w es s × EachAllowed w fs (state_after w es s)
allowed_parts w [] fs s run = (tt, run)
allowed_parts w (e ∷ es) fs s run = let p = allowed_parts w es fs (after w e s) run.1 in ((run.0, p.0), p.1)
