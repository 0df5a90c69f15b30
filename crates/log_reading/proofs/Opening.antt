-- What reading finds, as opening would find it.
use Rattle.std.proofs.Common.{ℕ, ◌<◌, ◌≤◌, inl, inr, List, [], ◌∷◌, length, refl, arith, Option, Some}
use Rattle.std.proofs.lemmas.Bool.{cases_lt}
use Rattle.snap_outside.specs.declared.devices.DevOp.TheVariants.{Write, Sync}
use Rattle.snap_outside.specs.Disk.{DeviceHistory, content, with_ops}
use Rattle.gate_log.specs.declared.logs.LogItem.{LogItem}
use Rattle.gate_log.specs.Opened.{Opened, new_log}
use Rattle.log_reading.specs.Read.{IsReadFrom}

pub read_opened : (h : DeviceHistory) (items : List LogItem) → IsReadFrom (content h) items → (new : Option DeviceHistory) × (end : ℕ) × Opened (Some h) new end items
read_opened h items read = elim (cases_lt 9 (length (content h))) [
  | inl long ↦
      let found = read.long long in (
        Some (with_ops h (Sync ∷ [])),
        found.0,
        record { made = λ short. let few : length (content h) ≤ 9 = short in absurd (omega (arith, few, long)); read = λ _. (found.1, refl) },
      )
  | inr short ↦ (
    Some (with_ops h (Write 0 new_log ∷ Sync ∷ [])),
    8,
    record { made = λ _. (refl, read.short short, refl); read = λ long. let more : 9 < length (content h) = long in absurd (omega (arith, more, short)) },
  )
]
