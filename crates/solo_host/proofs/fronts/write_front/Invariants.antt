use Rattle.std.proofs.Common.{◌≡◌, length, take, ◌-◌, ◌≤◌}
use Rattle.std.specs.Io.KnownBytes.{Appends}
use Rattle.solo_host.proofs.fronts.write_front.Given as goal

-- the first `at` bytes are taken, and no call has failed
abbrev pub invariant-loop-at : goal.invariant-loop-at
invariant-loop-at g l = record {
  within : l.at ≤ length l.bytes;
  taken : Appends (g.O.Sink.taken l.fn.out) (g.O.Sink.taken l.out) (take l.at l.bytes);
  quiet : g.O.Sink.faults l.out ≡ g.O.Sink.faults l.fn.out;
  none_late : g.O.Sink.faults l.fn.out ≡ 0 → g.O.Sink.late l.out ≡ g.O.Sink.late l.fn.out;
}

abbrev pub decreases-loop-at : goal.decreases-loop-at
decreases-loop-at g l = length l.bytes - l.at
