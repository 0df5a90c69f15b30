-- The operations of an append, of an upgrade and of a clearing, and those that one which is refused has made.
use Rattle.std.specs.Prelude.{◌≡◌, ℕ, ◌+◌, ◌==◌, nat_le, if◌then◌else◌, List, [], ◌∷◌, ◌++◌, length, Option}
use Rattle.snap_outside.specs.declared.devices.DevOp.{DevOp}
use Rattle.snap_outside.specs.declared.devices.DevOp.TheVariants.{Write, Sync}
use Rattle.snap_outside.specs.Disk.{DeviceHistory, AddsUpToFault}
use Rattle.gate_log.specs.Bytes.{FIRST_GATE, MARK_2, format_in, items_bytes, group_bytes}
use Rattle.gate_log.specs.declared.logs.AppendNo.{AppendNo}
use Rattle.gate_log.specs.declared.logs.AppendNo.TheVariants.{Device, Shut, Memory}

-- what an append writes behind the closed gate: the group of its items, and the next closed gate
abbrev pub group_block : List (List ℕ) → List ℕ
group_block items = group_bytes items ++ 0 ∷ []

-- a block is made durable behind the gate before the gate is opened, which is then made durable too
abbrev pub block_ops : ℕ → List ℕ → List DevOp
block_ops gate block = Write (gate + 1) block ∷ Sync ∷ Write gate (1 ∷ []) ∷ Sync ∷ []

-- the operations of an append at the closed gate, of which there are none for no item
abbrev pub append_ops : ℕ → List (List ℕ) → List DevOp
append_ops end [] = []
append_ops end (item ∷ items) = block_ops end (group_block (item ∷ items))

-- where the closed gate stands behind an append
abbrev pub end_behind : ℕ → List (List ℕ) → ℕ
end_behind end [] = end
end_behind end (item ∷ items) = end + 5 + length (items_bytes (item ∷ items))

-- the operations of an upgrade: the mark is written, and made durable
abbrev pub upgrade_ops : List DevOp
upgrade_ops = Write 7 (MARK_2 ∷ []) ∷ Sync ∷ []

-- the operations that make a log with these bytes one of format 2: none where it is one
abbrev pub upgrading_ops : List ℕ → List DevOp
upgrading_ops bytes = if format_in bytes == 1 then upgrade_ops else []

-- the first gate is closed, and that is made durable
abbrev pub close_ops : List DevOp
close_ops = Write FIRST_GATE (0 ∷ []) ∷ Sync ∷ []

-- the operations of a clearing, of which there are none where the closed gate is the first one
abbrev pub clear_ops : ℕ → List DevOp
clear_ops end = if nat_le end FIRST_GATE then [] else close_ops

-- What an append, an upgrade or a clearing of these operations that is refused did to the device.
abbrev pub AddsRefused : Option DeviceHistory → Option DeviceHistory → List DevOp → AppendNo → Type 0
AddsRefused old new ops Device = AddsUpToFault old new ops
AddsRefused old new ops Shut = new ≡ old
AddsRefused old new ops Memory = new ≡ old
