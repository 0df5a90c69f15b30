use Rattle.std.proofs.Common.{◌≡◌, ℕ, ◌<◌, ◌≤◌, ◌||◌, length, map, take}
use Rattle.std.specs.List.{AllByRecursion}
use Rattle.protocol.specs.Meant.{tid_number}
use Rattle.protocol.specs.Words.{is_among}
use Rattle.trace_audit.specs.Risen.{has_stamp}
use Rattle.trace_audit.proofs.order.put_stamps.Given as goal

abbrev pub invariant-loop-tid : goal.invariant-loop-tid
invariant-loop-tid l = record {
  many : length l.stamps.items ≡ length l.fn.stamps.items;
  few : AllByRecursion (λ x. x ≤ l.stamp) l.fn.stamps.items → AllByRecursion (λ x. x ≤ l.stamp) l.stamps.items;
  stamped : (t : ℕ) → t < length l.fn.stamps.items → has_stamp l.stamps.items l.stamp t ≡ (has_stamp l.fn.stamps.items l.stamp t || is_among t (map tid_number (take l.tid-index l.ran)));
}
