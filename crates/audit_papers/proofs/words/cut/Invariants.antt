use Rattle.std.proofs.Common.{take}
use Rattle.audit_papers.specs.LineWords.{LacksByte}
use Rattle.audit_papers.proofs.words.cut.Given as goal

abbrev pub invariant-loop-at : goal.invariant-loop-at
invariant-loop-at l = LacksByte l.byte (take l.at l.word)
