use Rattle.std.proofs.Common.{take}
use Rattle.trace_text.specs.Reads.{LacksByte}
use Rattle.trace_text.proofs.lines.cut.Given as goal

abbrev pub invariant-loop-at : goal.invariant-loop-at
invariant-loop-at l = LacksByte l.byte (take l.at l.text)
