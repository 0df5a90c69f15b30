-- What holds of every reading. The law of `src/laws.rt` says it, and a proof that rests on it takes it as a premise.
use Rattle.std.specs.Prelude.{ℕ, List, Option, Some}
use Rattle.snap_outside.specs.Disk.{DeviceHistory, content}
use Rattle.gate_log.specs.declared.logs.LogItem.{LogItem}
use Rattle.gate_log.specs.Opened.{Opened}
use Rattle.log_reading.specs.Read.{IsReadFrom}

-- opening would find what reading finds
abbrev pub ReadIsOpened : Type 0
ReadIsOpened = (h : DeviceHistory) (items : List LogItem) → IsReadFrom (content h) items → (new : Option DeviceHistory) × (end : ℕ) × Opened (Some h) new end items
