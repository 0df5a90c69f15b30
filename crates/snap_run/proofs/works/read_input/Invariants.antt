use Rattle.std.proofs.Common.{length, ◌-◌, ◌≤◌}
use Rattle.std.specs.Io.KnownBytes.{Consumes}
use Rattle.snap_outside.specs.Causes.{EndsAtFault}
use Rattle.snap_run.proofs.works.read_input.Given as goal

-- the bytes so far are what the source has given
abbrev pub invariant-loop-piece : goal.invariant-loop-piece
invariant-loop-piece g l = record {
  within : length l.bytes.items ≤ 8388609;
  moved : Consumes (g.I.Source.left l.fn.input) (g.I.Source.left l.input) l.bytes.items;
  later : g.I.Source.faults l.fn.input ≤ g.I.Source.faults l.input;
  once : EndsAtFault (Unit {0}) (g.I.Source.faults l.fn.input) (g.I.Source.late l.fn.input) (g.I.Source.faults l.input) (g.I.Source.late l.input);
}

abbrev pub decreases-loop-piece : goal.decreases-loop-piece
decreases-loop-piece g l = 8388609 - length l.bytes.items
