use Rattle.std.proofs.Common.{take}
use Rattle.snap_follow.specs.Passes.{AddsActs, AddsBatches}
use Rattle.snap_follow.proofs.reading.add_log.Given as goal

abbrev pub invariant-loop-r : goal.invariant-loop-r
invariant-loop-r l = record {
  batches : AddsBatches l.log l.logs (take l.r-index l.rs) l.initial.set l.set;
  acts : AddsActs l.log l.logs (take l.r-index l.rs) l.initial.set l.set;
}
