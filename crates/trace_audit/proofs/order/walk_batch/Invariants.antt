use Rattle.std.proofs.Common.{◌≡◌, ℕ, ◌<◌, List, ◌++◌, drop, length}
use Rattle.std.specs.Prelude.{filter}
use Rattle.audit_tale.specs.declared.tales.MemberTale.{MemberTale}
use Rattle.trace_audit.specs.Risen.{has_stamp, still_rises}
use Rattle.trace_audit.proofs.order.walk_batch.Given as goal

abbrev pub invariant-loop-member : goal.invariant-loop-member
invariant-loop-member l = record {
  many : length l.walk.rises.items ≡ length l.fn.walk.rises.items;
  still_rises : (n : ℕ) (rest : List MemberTale) → n < length l.fn.walk.rises.items
      → still_rises n l.walk.rises.items l.walk.writers l.walk.readers (filter (λ m. has_stamp l.stamps l.stamp m.tid.0) (drop l.member-index l.group) ++ rest)
      ≡ still_rises n l.fn.walk.rises.items l.fn.walk.writers l.fn.walk.readers (filter (λ m. has_stamp l.stamps l.stamp m.tid.0) l.group ++ rest);
}
