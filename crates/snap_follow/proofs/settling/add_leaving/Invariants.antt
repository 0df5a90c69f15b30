use Rattle.std.proofs.Common.{take}
use Rattle.snap_follow.specs.Passes.{AddsLeaving, HasBlocked, HoldsStates}
use Rattle.snap_follow.proofs.settling.add_leaving.Given as goal

abbrev pub invariant-loop-r : goal.invariant-loop-r
invariant-loop-r l = record {
  leaving : AddsLeaving l.first l.there l.taken l.set l.log l.logs (take l.r-index l.rs) l.initial.leaving l.leaving;
  blocked : HasBlocked l.first l.there l.set l.log l.logs (take l.r-index l.rs) l.blocked;
  states : HoldsStates l.first l.there l.log l.logs (take l.r-index l.rs) l.states;
}
