use Rattle.std.proofs.Common.{◌≡◌, ◌++◌, take, string_bytes}
use Rattle.snap_report.specs.Lines.{all_kept_text}
use Rattle.snap_run.proofs.recoveries.push_all_kept.Given as goal

-- the lines of those so far
abbrev pub invariant-loop-kept : goal.invariant-loop-kept
invariant-loop-kept l = string_bytes l.text ≡ string_bytes l.fn.text ++ all_kept_text (take l.kept-index l.committed)
