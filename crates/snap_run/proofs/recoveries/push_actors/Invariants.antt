use Rattle.std.proofs.Common.{◌≡◌, ◌++◌, take, string_bytes}
use Rattle.snap_report.specs.Lines.{actors_text}
use Rattle.snap_run.proofs.recoveries.push_actors.Given as goal

-- the lines of the actors so far
abbrev pub invariant-loop-number : goal.invariant-loop-number
invariant-loop-number l = string_bytes l.text ≡ string_bytes l.fn.text ++ actors_text 0 (take l.number l.states)
