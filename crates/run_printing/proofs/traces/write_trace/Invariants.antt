use Rattle.std.proofs.Common.{◌≡◌, ◌≤◌, ◌-◌, length, take, []}
use Rattle.std.specs.Io.KnownBytes.{Appends}
use Rattle.snap_outside.specs.Causes.{EndsAtFault}
use Rattle.trace_text.specs.Traces.{trace_of}
use Rattle.run_printing.proofs.traces.write_trace.Given as goal

-- the lines of the first `at` events are written
abbrev pub invariant-loop-at : goal.invariant-loop-at
invariant-loop-at g l = record {
  within : l.at ≤ length l.kept;
  taken : Appends (g.T.Sink.taken l.fn.trace) (g.T.Sink.taken l.trace) (trace_of (take l.at l.kept));
  later : g.T.Sink.faults l.fn.trace ≤ g.T.Sink.faults l.trace;
  once : EndsAtFault (Unit {0}) (g.T.Sink.faults l.fn.trace) (g.T.Sink.late l.fn.trace) (g.T.Sink.faults l.trace) (g.T.Sink.late l.trace);
  none : l.kept ≡ [] → l.trace ≡ l.fn.trace;
}

abbrev pub decreases-loop-at : goal.decreases-loop-at
decreases-loop-at g l = length l.kept - l.at
