-- Only private contracts cite this; the rule is Drives.antt.
-- Why a crew ended, where it is known what failed.
use Rattle.std.specs.Prelude.{◌≡◌, ◌⊎◌, Option, None, Some, List}
use Rattle.aml_slice.specs.Controls.{Rest}
use Rattle.crew_workers.specs.declared.ends.Fault.{Fault}
use Rattle.crew_workers.specs.declared.ends.Fault.TheVariants as fault
use Rattle.protocol.specs.Events.{Event}
use Rattle.protocol.specs.Fixed.{Fixed}
use Rattle.protocol.specs.Runs.{IsQuiet, reached}
use Rattle.run_effects.specs.declared.stops.Stop.{Stop}
use Rattle.run_effects.specs.declared.stops.Stop.TheVariants as stop

abbrev pub IsStopBy : Fixed Rest → List Event → Option Fault → Stop → Type 0
IsStopBy w es None by = ((by ≡ stop.Quiet) × IsQuiet w (reached w es)) ⊎ (by ≡ stop.Memory)
IsStopBy w es (Some (fault.Log l)) by = by ≡ stop.LogFault l
IsStopBy w es (Some fault.Output) by = by ≡ stop.OutFault
