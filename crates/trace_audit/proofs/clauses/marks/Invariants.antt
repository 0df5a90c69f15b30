use Rattle.std.proofs.Common.{◌≡◌, map, take}
use Rattle.audit_words.specs.Inputs.{language}
use Rattle.snap_work.specs.Works.{work_of}
use Rattle.trace_audit.proofs.clauses.marks.Given as goal

abbrev pub invariant-loop-tx : goal.invariant-loop-tx
invariant-loop-tx l = l.reads.items ≡ map (language (work_of l.work)).reads (take l.tx-index l.tx-items)
