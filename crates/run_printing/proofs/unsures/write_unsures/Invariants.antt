use Rattle.std.proofs.Common.{◌≤◌, flat_map, map}
use Rattle.std.specs.Io.KnownBytes.{Appends}
use Rattle.core_events.specs.Meant.{event_meant}
use Rattle.run_printing.specs.Printed.{unanswered, unsure_line}
use Rattle.snap_outside.specs.Causes.{EndsAtFault}
use Rattle.run_printing.proofs.unsures.write_unsures.Given as goal

-- the lines of those so far are written
abbrev pub invariant-loop-number : goal.invariant-loop-number
invariant-loop-number g l = record {
  taken : Appends (g.O.Sink.taken l.fn.out) (g.O.Sink.taken l.out) (flat_map (unsure_line l.log) (unanswered (map event_meant l.kept) l.number));
  later : g.O.Sink.faults l.fn.out ≤ g.O.Sink.faults l.out;
  once : EndsAtFault (Unit {0}) (g.O.Sink.faults l.fn.out) (g.O.Sink.late l.fn.out) (g.O.Sink.faults l.out) (g.O.Sink.late l.out);
}
