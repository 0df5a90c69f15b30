-- Why a sub-batch is not placed.
use Rattle.std.specs.Prelude.{◌≡◌, ◌==◌, if◌then◌else◌, Option, Some, None}
use Rattle.snap_base.specs.declared.transactions.SubBatch as base
use Rattle.protocol.specs.CellParts.{HybridSchedule}
use Rattle.hybrid_schedule.specs.declared.arrivals.ArriveNo.{ArriveNo}
use Rattle.hybrid_schedule.specs.declared.arrivals.ArriveNo.TheVariants.{Epoch, Before, Memory}

-- It comes of another epoch; or the batch before it is not the last one that was placed in this epoch.
abbrev pub refusal : base.SubBatch → HybridSchedule → Option ArriveNo
refusal s h = if s.epoch == h.epoch then (if s.prev.0 == h.tail then None else Some (Before (record { 0 = h.tail }))) else Some (Epoch h.epoch)

-- What is answered where it is not placed: why it is refused, and where it is not, that there was no memory.
abbrev pub MatchRefusal : Option ArriveNo → ArriveNo → Type 0
MatchRefusal None answer = answer ≡ Memory
MatchRefusal (Some why) answer = answer ≡ why
