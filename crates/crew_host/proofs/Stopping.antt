-- Why a crew ended, as the logs and the output tell it that stood beside its shares.
use Rattle.std.proofs.Common.{◌≡◌, ℕ, zero, suc, ◌+◌, ◌<◌, ◌≤◌, inl, inr, Option, None, Some, List, [], ◌∷◌, length, slice_get, slice_index_or, refl, sym, ap, subst, ◌∙◌, arith, Contains}
use Rattle.aml_slice.specs.Controls.{Rest}
use Rattle.crew_ends.specs.Ends.{AreBeside, log_at}
use Rattle.crew_host.specs.Drives.{IsCrewStop}
use Rattle.crew_host.specs.Stops.{IsStopBy}
use Rattle.crew_parts.specs.Besides.{is_shut_there, has_failed_there}
use Rattle.crew_parts.specs.Devices.{is_shut, is_shut_at}
use Rattle.crew_parts.specs.Shares.{OutputState, ShareState}
use Rattle.crew_workers.specs.Ends.{IsFault, AllOpen, has_failed_beside, output_has_failed}
use Rattle.crew_workers.specs.declared.ends.Fault.{Fault}
use Rattle.crew_workers.specs.declared.ends.Fault.TheVariants as fault
use Rattle.gate_log.specs.State.{LogState, AreAllOpen}
use Rattle.protocol.specs.Events.{Event, desk, log}
use Rattle.protocol.specs.Fixed.{Fixed}
use Rattle.protocol.specs.Parts.{Machine}
use Rattle.protocol.specs.Runs.{IsQuiet}
use Rattle.protocol.specs.Schedule.{IsEnabled}
use Rattle.protocol.specs.Words.{holds}
use Rattle.run_effects.specs.declared.stops.Stop.{Stop}

-- where nothing is enabled all is quiet
pub none_enabled : (w : Fixed Rest) (s : Machine Rest) (all : List Event) → IsEnabled w s all → length all ≡ 0 → IsQuiet w s
none_enabled w s [] are none e ok = let there : Contains [] e = (are.all e).1 ok in absurd (omega (arith, there.1))
none_enabled w s (x ∷ all) are none e ok = absurd (omega (arith, none))

-- ---- what stands at a number

there : {X : Type 0} (xs : List X) (i : ℕ) → i < length xs → (x : X) × (slice_get xs i ≡ Some x)
there [] i lt = absurd (omega (arith, lt))
there (x ∷ xs) zero lt = (x, refl)
there (x ∷ xs) (suc i) lt = there xs i (omega (arith, lt))

at_place : (logs : List LogState) (l : ℕ) (d : LogState) → l < length logs → slice_get logs l ≡ Some (slice_index_or logs l d)
at_place [] l d lt = absurd (omega (arith, lt))
at_place (x ∷ logs) zero d lt = refl
at_place (x ∷ logs) (suc l) d lt = at_place logs l d (omega (arith, lt))

-- the logs tell what the shares tell
shut_as : (logs : List LogState) (out : OutputState) (xs : List ShareState) (l : ℕ) → AreBeside logs out xs → 4 + length logs ≤ length xs → l < length logs
    → is_shut_at xs l ≡ (log_at logs l).shut
shut_as logs out xs l beside many lt =
    let x = there xs (log l) (omega (arith, many, lt)) in
    ap (holds is_shut) x.1 ∙ ap is_shut_there (beside.logs l x.0 lt x.1 ∙ at_place logs l _ lt)

failed_as : (logs : List LogState) (out : OutputState) (xs : List ShareState) → AreBeside logs out xs → 4 ≤ length xs → output_has_failed xs ≡ out.failed
failed_as logs out xs beside many =
    let x = there xs desk (omega (arith, many)) in
    ap (holds has_failed_beside) x.1 ∙ ap has_failed_there (beside.desk x.0 x.1)

all_open : (logs : List LogState) (out : OutputState) (xs : List ShareState) (n : ℕ) → AreBeside logs out xs → 4 + length logs ≤ length xs → length logs ≡ n → AllOpen n xs → AreAllOpen logs
all_open logs out xs n beside many same ready l lt = sym (shut_as logs out xs l beside many lt) ∙ ready l (omega (arith, lt, same))

pub crew_stop : (w : Fixed Rest) (es : List Event) (logs : List LogState) (out : OutputState) (xs : List ShareState) (n : ℕ) (f : Option Fault) (by : Stop)
    → AreBeside logs out xs → 4 + length logs ≤ length xs → length logs ≡ n → IsFault n xs f → IsStopBy w es f by → IsCrewStop w es logs out.failed by
crew_stop w es logs out xs n None by beside many same is stops = elim stops [
  | inl h ↦ subst (λ (b : Stop). IsCrewStop w es logs out.failed b) (sym h.0) (all_open logs out xs n beside many same is.0, sym (failed_as logs out xs beside (omega (arith, many))) ∙ is.1, h.1)
  | inr h ↦ subst (λ (b : Stop). IsCrewStop w es logs out.failed b) (sym h) (all_open logs out xs n beside many same is.0, sym (failed_as logs out xs beside (omega (arith, many))) ∙ is.1)
]
crew_stop w es logs out xs n (Some (fault.Log l)) by beside many same is stops =
    let lt : l < length logs = omega (arith, is.0, same) in
    subst (λ (b : Stop). IsCrewStop w es logs out.failed b) (sym stops)
    (lt, sym (shut_as logs out xs l beside many lt) ∙ is.1, λ k less. sym (shut_as logs out xs k beside many (omega (arith, less, lt))) ∙ is.2 k less)
crew_stop w es logs out xs n (Some fault.Output) by beside many same is stops =
    subst (λ (b : Stop). IsCrewStop w es logs out.failed b) (sym stops) (all_open logs out xs n beside many same is.0, sym (failed_as logs out xs beside (omega (arith, many))) ∙ is.1)
