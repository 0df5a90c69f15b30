use Rattle.std.proofs.Common.{◌≡◌, ◌++◌, length, take}
use Rattle.std.specs.Int.{to_be_bytes, w32}
use Rattle.gate_log.specs.Bytes.{items_bytes}
use Rattle.gate_log.proofs.blocks.block_of.Given as goal

abbrev pub invariant-loop-item : goal.invariant-loop-item
invariant-loop-item l = l.block.items ≡ to_be_bytes w32 (length (items_bytes l.items)) ++ items_bytes (take l.item-index l.items)
