use Rattle.std.proofs.Common.{◌-◌}
use Rattle.core_events.specs.Meant.{event_meant}
use Rattle.ready_list.proofs.Gaps.{IsBetween}
use Rattle.ready_list.proofs.ring.Ring.gap.Given as goal

abbrev pub invariant-loop-low : goal.invariant-loop-low
invariant-loop-low l = IsBetween l.self.events (event_meant l.fn.e) l.low l.high

abbrev pub decreases-loop-low : goal.decreases-loop-low
decreases-loop-low l = l.high - l.low
