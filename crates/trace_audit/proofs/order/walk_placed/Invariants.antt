use Rattle.std.proofs.Common.{◌≡◌, ℕ, ◌<◌, List, ◌++◌, drop, length}
use Rattle.std.specs.List.{flat_map}
use Rattle.audit_tale.specs.declared.tales.MemberTale.{MemberTale}
use Rattle.trace_audit.specs.Risen.{stamped, still_rises}
use Rattle.trace_audit.proofs.order.walk_placed.Given as goal

abbrev pub invariant-loop-who : goal.invariant-loop-who
invariant-loop-who l = record {
  many : length l.walk.rises.items ≡ length l.fn.walk.rises.items;
  still_rises : (n : ℕ) (rest : List MemberTale) → n < length l.fn.walk.rises.items
      → still_rises n l.walk.rises.items l.walk.writers l.walk.readers (flat_map (stamped l.groups.batches.items l.groups.acts.items l.stamps l.stamp) (drop l.who-index l.placed) ++ rest)
      ≡ still_rises n l.fn.walk.rises.items l.fn.walk.writers l.fn.walk.readers (flat_map (stamped l.groups.batches.items l.groups.acts.items l.stamps l.stamp) l.placed ++ rest);
}
