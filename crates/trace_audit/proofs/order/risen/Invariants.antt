use Rattle.std.proofs.Common.{◌≡◌, ℕ, ◌+◌, ◌<◌, length, take}
use Rattle.std.specs.List.{AllByRecursion}
use Rattle.trace_audit.specs.Risen.{all_rise, mark_of}
use Rattle.trace_audit.proofs.order.risen.Given as goal

abbrev pub invariant-loop-a : goal.invariant-loop-a
invariant-loop-a l = record {
  many : length l.walk.rises.items ≡ length l.initial.walk.rises.items;
  long : length l.stamps.items ≡ length l.initial.stamps.items;
  few : AllByRecursion (λ x. x < l.a + 1) l.stamps.items;
  rises : (n : ℕ) → n < length l.walk.rises.items → mark_of l.walk.rises.items n ≡ all_rise n l.members (take l.a l.actors);
}
