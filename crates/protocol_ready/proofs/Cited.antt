-- What is cited of the machine's laws: what an event leaves, and that it is allowed or refused.
use Rattle.std.specs.Prelude.{◌≡◌, false, ◌↔◌}
use Rattle.protocol.specs.Fixed.{Fixed}
use Rattle.protocol.specs.Parts.{Machine}
use Rattle.protocol.specs.Events.{Event}
use Rattle.protocol.specs.Conditions.{IsAllowed, refusal}
use Rattle.protocol.specs.Contents.{Content, IsSame, is_changed}
use Rattle.protocol.specs.Effects.{after}

abbrev pub Framed : {C : Type 0} → Fixed C → Type 0
Framed {C} w = (e : Event) (s : Machine C) (q : Content) → is_changed q e ≡ false → IsSame q s (after w e s)

abbrev pub Ruled : {C : Type 0} → Fixed C → Type 0
Ruled {C} w = (e : Event) (s : Machine C) → (refusal w e s ≡ 0) ↔ IsAllowed w e s
