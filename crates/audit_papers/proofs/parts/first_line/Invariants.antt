use Rattle.std.proofs.Common.{take}
use Rattle.audit_papers.specs.Bytes.{IsOneLine}
use Rattle.audit_papers.proofs.parts.first_line.Given as goal

abbrev pub invariant-loop-at : goal.invariant-loop-at
invariant-loop-at l = IsOneLine (take l.at l.bytes)
