use Rattle.std.proofs.Common.{take}
use Rattle.snap_recover.specs.Passes.{In, Replays}
use Rattle.snap_recover.proofs.states.replay.Given as goal

abbrev pub invariant-loop-r : goal.invariant-loop-r
invariant-loop-r l = Replays l.log l.logs (In l.batches) (In l.acts) (take l.r-index l.rs) l.initial.states.items l.states.items
