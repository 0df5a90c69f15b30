-- A schedule goes on with what is picked.
use Rattle.std.proofs.Common.{◌≡◌, ℕ, ◌+◌, Some, List, [], ◌∷◌, ◌++◌, length, slice_get, sym, subst, arith, add-zero, zero-add}
use Rattle.std.specs.Prelude.{Contains}
use Rattle.std.proofs.lemmas.Option.{slice_get_within, get_or_from_slice_get}
use Rattle.aml_slice.specs.Controls.{Rest}
use Rattle.protocol.specs.Conditions.{IsAllowed}
use Rattle.protocol.specs.Effects.{after}
use Rattle.protocol.specs.Events.{Event}
use Rattle.protocol.specs.Fixed.{Fixed}
use Rattle.protocol.specs.Parts.{Machine}
use Rattle.protocol.specs.Runs.{IsQuiet, opening, reached, state_after}
use Rattle.protocol.specs.Schedule.{Draw, Follows, IsEnabled, pick}
use Rattle.protocol_schedule.specs.Draw.{draw_of, IsFrontOfSeed}
use Rattle.solo_host.specs.Drives.{IsNextOfSeed}
use Rattle.solo_host.specs.Outside.{IsPicked}

abbrev IsPickedAt : Fixed Rest → Draw → ℕ → Event → Machine Rest → Type 0
IsPickedAt w draw step e s = (all : List Event) × IsEnabled w s all × (slice_get all (pick draw step (length all)) ≡ Some e)

follows_on : (w : Fixed Rest) (draw : Draw) (step : ℕ) (es : List Event) (e : Event) (s : Machine Rest)
    → Follows w draw step es s → IsPickedAt w draw (step + length es) e (state_after w es s) → Follows w draw step (es ++ e ∷ []) s
follows_on w draw step [] e s front next = (subst (λ n. IsPickedAt w draw n e s) (add-zero step) next, tt)
follows_on w draw step (x ∷ xs) e s front next =
    let same : step + length (x ∷ xs) ≡ step + 1 + length xs = omega arith in
    (front.0, follows_on w draw (step + 1) xs e (after w x s) front.1 (subst (λ n. IsPickedAt w draw n e (state_after w xs (after w x s))) same next))

pub goes_on : (w : Fixed Rest) (seed : ℕ) (es : List Event) (e : Event) → IsFrontOfSeed w seed es → IsPicked w seed es e → IsNextOfSeed w seed es e
goes_on w seed es e front next =
    follows_on w (draw_of seed) 0 es e (opening w) front
    (subst (λ n. IsPickedAt w (draw_of seed) n e (reached w es)) (sym (zero-add (length es))) (next.all, next.enabled, next.place))

-- what is picked is allowed
pub picked_allowed : (w : Fixed Rest) (seed : ℕ) (es : List Event) (e : Event) → IsPicked w seed es e → IsAllowed w e (reached w es)
picked_allowed w seed es e is =
    (is.enabled.all e).0 (pick (draw_of seed) (length es) (length is.all), slice_get_within is.all _ e is.place, get_or_from_slice_get is.all _ e e is.place)

-- where nothing is enabled all is quiet
pub none_enabled : (w : Fixed Rest) (s : Machine Rest) (all : List Event) → IsEnabled w s all → all ≡ [] → IsQuiet w s
none_enabled w s all are none e ok =
    let there : Contains [] e = subst (λ xs. Contains xs e) none ((are.all e).1 ok) in
    absurd (omega (arith, there.1))
