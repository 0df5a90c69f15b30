use Rattle.std.proofs.Common.{◌≡◌, ◌++◌, take, string_bytes}
use Rattle.snap_report.specs.Lines.{batch_text}
use Rattle.snap_run.proofs.recoveries.push_batch.Given as goal

-- the lines of the transactions so far
abbrev pub invariant-loop-number : goal.invariant-loop-number
invariant-loop-number l = string_bytes l.text ≡ string_bytes l.fn.text ++ batch_text l.bid (take l.number l.tids) (take l.number l.values)
