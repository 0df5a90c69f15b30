use Rattle.std.proofs.Common.{◌≤◌, ◌+◌, drop, length, map}
use Rattle.std.specs.List.{AllByRecursion}
use Rattle.protocol.specs.Words.{is_among}
use Rattle.audit_tale.specs.Cutting.{marked_cut}
use Rattle.audit_tale.specs.Knows.{bid_number}
use Rattle.audit_tale.specs.Touching.{AreTouched}
use Rattle.audit_tale.proofs.aborting.cut_ways.Given as goal

abbrev pub invariant-loop-left : goal.invariant-loop-left
invariant-loop-left l = record {
  within : l.left ≤ length l.uncut;
  from : AllByRecursion (λ b. l.k.0 ≤ b.0) (drop l.left l.uncut);
  ways : AreTouched marked_cut (λ i. is_among (i + 1) (map bid_number (drop l.left l.uncut))) l.fn.ways l.ways;
}

abbrev pub decreases-loop-left : goal.decreases-loop-left
decreases-loop-left l = l.left
