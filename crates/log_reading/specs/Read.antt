-- What reading a log finds.
use Rattle.std.specs.Prelude.{◌≡◌, ℕ, ◌<◌, ◌≤◌, List, [], length}
use Rattle.gate_log.specs.declared.limits.TheConstants.{NEW_LOG_SIZE}
use Rattle.gate_log.specs.declared.logs.LogItem.{LogItem}
use Rattle.gate_log.specs.declared.opens.OpenNo.{OpenNo}
use Rattle.gate_log.specs.declared.opens.OpenNo.TheVariants.{NotALog, Damage, Device, Memory}
use Rattle.gate_log.specs.Bytes.{IsPlacedLogAt}

-- The items of a log with these bytes. Where they are no more than a new log has, there are none.
pub record IsReadFrom (bytes : List ℕ) (items : List LogItem) : Type 0 where
  pub short : length bytes ≤ NEW_LOG_SIZE → items ≡ []
  pub long : NEW_LOG_SIZE < length bytes → (end : ℕ) × IsPlacedLogAt bytes end items

-- the cause where the opening of a copy in memory is refused, which fails only for want of memory
abbrev pub of_copy : OpenNo → OpenNo
of_copy (NotALog offset) = NotALog offset
of_copy (Damage offset) = Damage offset
of_copy Device = Memory
of_copy Memory = Memory
