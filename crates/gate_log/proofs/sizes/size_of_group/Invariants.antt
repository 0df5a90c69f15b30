use Rattle.std.proofs.Common.{◌≡◌, ◌≤◌, ◌^◌, length, take}
use Rattle.std.specs.List.{AllByRecursion}
use Rattle.gate_log.specs.Bytes.{IsItem, items_bytes}
use Rattle.gate_log.proofs.sizes.size_of_group.Given as goal

-- the items so far may be in a group, and take so many bytes
abbrev pub invariant-loop-item : goal.invariant-loop-item
invariant-loop-item l = record {
  items : AllByRecursion IsItem (take l.item-index l.items);
  size : l.size ≡ length (items_bytes (take l.item-index l.items));
  short : l.size ≤ 2 ^ 31;
}
