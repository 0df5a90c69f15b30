-- What a schedule takes is a run, and what comes next by it is allowed.
use Rattle.std.specs.Prelude.{◌≡◌, ℕ, zero, suc, ◌+◌, Bool, Some, List, [], ◌∷◌, ◌++◌, length, slice_get, Contains}
use Rattle.std.proofs.Common.{arith}
use Rattle.aml_slice.specs.Controls.{Rest}
use Rattle.run_opening.specs.log_opening.Devices.{Device}
use Rattle.protocol.specs.Conditions.{IsAllowed}
use Rattle.protocol.specs.Effects.{after}
use Rattle.protocol.specs.Events.{Event}
use Rattle.protocol.specs.Fixed.{Fixed}
use Rattle.protocol.specs.Parts.{Machine}
use Rattle.protocol.specs.Runs.{EachAllowed, IsRun, opening, state_after}
use Rattle.protocol.specs.Schedule.{Draw, pick, Follows}
use Rattle.protocol_schedule.specs.Draw.{draw_of}
use Rattle.snap_recover.specs.declared.openings.Opening.{Opening}
use Rattle.snap_work.specs.Works.{Work}
use Rattle.run_recovery.specs.Runs.{HasRunWork, GoesOnWith, machine_of}
use Rattle.run_recovery.specs.Schedules.{Schedule, seeded, free, IsTakenBy}

found_at : (all : List Event) (n : ℕ) (e : Event) → slice_get all n ≡ Some e → Contains all e
found_at [] n e q = absurd (cc q)
found_at (d ∷ all) zero e q = let p : d ≡ e = cc q in (0, omega arith, p)
found_at (d ∷ all) (suc n) e q = let c = found_at all n e q in (suc c.0, omega (arith, c.1), c.2)

run_of : {C : Type 0} (w : Fixed C) (draw : Draw) (step : ℕ) (es : List Event) (s : Machine C) → Follows w draw step es s → EachAllowed w es s
run_of w draw step [] s h = tt
run_of w draw step (e ∷ es) s h = ((h.0.1.all e).0 (found_at h.0.0 (pick draw step (length h.0.0)) e h.0.2), run_of w draw (step + 1) es (after w e s) h.1)

pub taken_run : (w : Fixed Rest) (schedule : Schedule) (es : List Event) → IsTakenBy w schedule es → IsRun w es
taken_run w (seeded seed) es front = run_of w (draw_of seed) 0 es (opening w) front
taken_run w free es run = run

-- ---- what a seed takes, workers may take

pub freed : (w : Work) (seed : ℕ) (o : Opening) (es : List Event) (failed : ℕ → Bool) (before after : List Device) → HasRunWork w (seeded seed) o es failed before after → HasRunWork w free o es failed before after
freed w seed o es failed before after run = record { room = run.room; front = taken_run (machine_of w o) (seeded seed) es run.front; devices = run.devices }

last_allowed : {C : Type 0} (w : Fixed C) (es : List Event) (e : Event) (s : Machine C) → EachAllowed w (es ++ e ∷ []) s → IsAllowed w e (state_after w es s)
last_allowed w [] e s run = run.0
last_allowed w (x ∷ es) e s run = last_allowed w es e (after w x s) run.1

pub freed_next : (w : Work) (seed : ℕ) (o : Opening) (es : List Event) (e : Event) → GoesOnWith w (seeded seed) o es e → GoesOnWith w free o es e
freed_next w seed o es e next =
    let m = machine_of w o in
    last_allowed m es e (opening m) (taken_run m (seeded seed) (es ++ e ∷ []) next)
