-- What one thread makes of a core, its logs and its output.
use Rattle.std.specs.Prelude.{◌≡◌, ⊤, ℕ, ◌<◌, Bool, Option, List, [], ◌∷◌, ◌++◌, length}
use Rattle.std.specs.Io.KnownBytes.{Appends}
use Rattle.aml_slice.specs.Controls.{Rest}
pub use Rattle.gate_log.specs.State.{log_at}
use Rattle.gate_log.specs.State.{LogState}
use Rattle.protocol.specs.Events.{Event, Sync, Reply}
use Rattle.protocol.specs.Fixed.{Fixed}
use Rattle.protocol.specs.Runs.{IsQuiet, reached}
use Rattle.protocol_schedule.specs.Draw.{IsFrontOfSeed}
use Rattle.run_effects.specs.Driven.{none_failed, only_failed}
use Rattle.run_effects.specs.Lines.{line_in, replies_text}
use Rattle.snap_outside.specs.Causes.{Rose}
use Rattle.run_effects.specs.declared.stops.Stop.{Stop}
use Rattle.run_effects.specs.declared.stops.Stop.TheVariants as stop

-- ---- the logs

-- the log that it ended at, where its device failed
abbrev pub failed_by : Stop → ℕ → Bool
failed_by stop.Quiet = none_failed
failed_by (stop.LogFault log) = only_failed log
failed_by stop.OutFault = none_failed
failed_by stop.Memory = none_failed

-- ---- why it ended

-- the schedule goes on with this event
abbrev pub IsNextOfSeed : Fixed Rest → ℕ → List Event → Event → Type 0
IsNextOfSeed w seed es e = IsFrontOfSeed w seed (es ++ e ∷ [])

-- No event is allowed; or the next one is a Sync of a log whose device failed, or a reply whose line the output did not take;
-- or there was no memory.
abbrev pub IsWhy : Fixed Rest → ℕ → List Event → List LogState → List LogState → ℕ → ℕ → Stop → Type 0
IsWhy w seed es old new out_before out_after stop.Quiet = IsQuiet w (reached w es)
IsWhy w seed es old new out_before out_after (stop.LogFault l) = (l < length old) × IsNextOfSeed w seed es (Sync l) × Rose (log_at old l).faults (log_at new l).faults
IsWhy w seed es old new out_before out_after stop.OutFault = ((n : ℕ) × IsNextOfSeed w seed es (Reply n)) × Rose out_before out_after
IsWhy w seed es old new out_before out_after stop.Memory = ⊤

-- ---- what is printed

-- The replies of the events are printed; and of the line of the next one a front, where the output did not take it.
abbrev pub IsPrinted : Fixed Rest → ℕ → List Event → Option (List ℕ) → Option (List ℕ) → Stop → Type 0
IsPrinted w seed es old new stop.OutFault =
    (n : ℕ) × (front rest : List ℕ) × IsNextOfSeed w seed es (Reply n) × (line_in (reached w es) n ≡ front ++ rest) × Appends old new (replies_text w es ++ front)
IsPrinted w seed es old new _ = Appends old new (replies_text w es)
