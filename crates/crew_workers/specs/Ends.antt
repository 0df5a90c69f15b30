-- What failed while a crew ran, as the shares show it.
use Rattle.std.specs.Prelude.{◌≡◌, ℕ, ◌<◌, Bool, true, false, Option, None, Some, List, slice_get}
use Rattle.crew_workers.specs.declared.ends.Fault.{Fault}
use Rattle.crew_workers.specs.declared.ends.Fault.TheVariants as fault
use Rattle.crew_parts.specs.Besides.{has_failed_there}
use Rattle.crew_parts.specs.Devices.{is_shut_at}
use Rattle.crew_parts.specs.Shares.{ShareState}
use Rattle.protocol.specs.Events.{desk}
use Rattle.protocol.specs.Words.{holds}

-- the output beside this share has failed
abbrev pub has_failed_beside : ShareState → Bool
has_failed_beside x = has_failed_there x.beside.output

-- the output has failed
abbrev pub output_has_failed : List ShareState → Bool
output_has_failed shares = holds has_failed_beside (slice_get shares desk)

-- none of the first logs, so many, is shut
abbrev pub AllOpen : ℕ → List ShareState → Type 0
AllOpen logs shares = (l : ℕ) → l < logs → is_shut_at shares l ≡ false

-- the first log that is shut, of so many; else the output, where it has failed
abbrev pub IsFault : ℕ → List ShareState → Option Fault → Type 0
IsFault logs shares None = AllOpen logs shares × (output_has_failed shares ≡ false)
IsFault logs shares (Some (fault.Log l)) = (l < logs) × (is_shut_at shares l ≡ true) × AllOpen l shares
IsFault logs shares (Some fault.Output) = AllOpen logs shares × (output_has_failed shares ≡ true)
