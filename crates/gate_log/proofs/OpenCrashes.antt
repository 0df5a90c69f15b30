-- A crash while a new log is made leaves a device that is made a new log again.
use Rattle.std.proofs.Common.{◌≡◌, ℕ, ◌≤◌, List, [], ◌∷◌, length, Option, Some, None, refl, ap, inl, inr, arith}
use Rattle.snap_outside.specs.declared.devices.DevOp.{DevOp}
use Rattle.snap_outside.specs.declared.devices.DevOp.TheVariants.{Write, Sync}
use Rattle.snap_outside.specs.Disk.{DeviceHistory, Disk, disk, content, overwritten, op_done, IsImage, EachMoment, AddsAll}
use Rattle.snap_outside.specs.Moments.{adds_nothing}
use Rattle.gate_log.specs.declared.logs.LogItem.{LogItem}
use Rattle.gate_log.specs.declared.opens.OpenNo.{OpenNo}
use Rattle.gate_log.specs.declared.opens.OpenNo.TheVariants.{NotALog, Damage, Device, Memory}
use Rattle.gate_log.specs.Bytes.{IsLog}
use Rattle.gate_log.specs.Opened.{new_log, Opened, Refused, MadeSafely}
use Rattle.gate_log.proofs.OpenDisks.{written_over}

short_image : (d : Disk) (image : List ℕ) → length d.now ≤ 9 → IsImage d image → IsLog image []
short_image d image short left = inl (omega (arith, left.no_longer), refl)

short_written : (old : List ℕ) → length old ≤ 9 → length (overwritten old 0 new_log) ≤ 9
short_written old short = omega (arith, ap length (written_over old new_log short))

write_moments : (d : Disk) → length d.now ≤ 9 → EachMoment d (Write 0 new_log ∷ []) (λ image. IsLog image [])
write_moments d short = ((λ image left. short_image d image short left), (λ image left. short_image (op_done (Write 0 new_log) d) image (short_written d.now short) left))

pub make_moments : (d : Disk) → length d.now ≤ 9 → EachMoment d (Write 0 new_log ∷ Sync ∷ []) (λ image. IsLog image [])
make_moments d short = (
  (λ image left. short_image d image short left),
  (
    (λ image left. short_image (op_done (Write 0 new_log) d) image (short_written d.now short) left),
    (λ image left. short_image (op_done Sync (op_done (Write 0 new_log) d)) image (short_written d.now short) left),
  ),
)

untouched : (h : DeviceHistory) (new : Option DeviceHistory) → new ≡ Some h → length (content h) ≤ 9 → (ops : List DevOp) × AddsAll (Some h) new ops × EachMoment (disk h) ops (λ image. IsLog image [])
untouched h new e short = ([], adds_nothing (Some h) new e, (λ image left. short_image (disk h) image short left))

pub opened_safely : (old new : Option DeviceHistory) (end : ℕ) (found : List LogItem) → Opened old new end found → MadeSafely old new
opened_safely None new end found opened = tt
opened_safely (Some h) new end found opened = λ short. (Write 0 new_log ∷ Sync ∷ [], (opened.made short).2, make_moments (disk h) short)

pub refused_safely : (old new : Option DeviceHistory) (why : OpenNo) → Refused old new why → MadeSafely old new
refused_safely None new why refused = tt
refused_safely (Some h) new (NotALog offset) refused = λ short. untouched h new refused.0 short
refused_safely (Some h) new (Damage offset) refused = λ short. untouched h new refused.0 short
refused_safely (Some h) new Device refused = λ short. elim refused [
  | inl same ↦ untouched h new same short
  | inr made ↦ (Write 0 new_log ∷ [], made.1, write_moments (disk h) short)
]
refused_safely (Some h) new Memory refused = λ short. untouched h new refused short
