use Rattle.std.proofs.Common.{◌≡◌, length, take}
use Rattle.gate_log.specs.Bytes.{items_bytes}
use Rattle.gate_log.proofs.blocks.size_of_items.Given as goal

abbrev pub invariant-loop-item : goal.invariant-loop-item
invariant-loop-item l = l.size ≡ length (items_bytes (take l.item-index l.items))
