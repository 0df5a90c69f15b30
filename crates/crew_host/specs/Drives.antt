-- Why several workers ended.
use Rattle.std.specs.Prelude.{◌≡◌, ℕ, ◌<◌, Bool, true, false, List, length}
use Rattle.aml_slice.specs.Controls.{Rest}
use Rattle.crew_ends.specs.Ends.{log_at}
use Rattle.gate_log.specs.State.{LogState, AreAllOpen}
use Rattle.protocol.specs.Events.{Event}
use Rattle.protocol.specs.Fixed.{Fixed}
use Rattle.protocol.specs.Runs.{IsQuiet, reached}
use Rattle.run_effects.specs.declared.stops.Stop.{Stop}
use Rattle.run_effects.specs.declared.stops.Stop.TheVariants as stop

-- The least log that is shut; or, where none is, that the output failed; or, where neither is so, that no event is allowed, or
-- that there was no memory.
abbrev pub IsCrewStop : Fixed Rest → List Event → List LogState → Bool → Stop → Type 0
IsCrewStop w es logs failed stop.Quiet = AreAllOpen logs × (failed ≡ false) × IsQuiet w (reached w es)
IsCrewStop w es logs failed (stop.LogFault l) = (l < length logs) × ((log_at logs l).shut ≡ true) × ((k : ℕ) → k < l → (log_at logs k).shut ≡ false)
IsCrewStop w es logs failed stop.OutFault = AreAllOpen logs × (failed ≡ true)
IsCrewStop w es logs failed stop.Memory = AreAllOpen logs × (failed ≡ false)
