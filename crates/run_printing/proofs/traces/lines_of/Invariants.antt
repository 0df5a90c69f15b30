use Rattle.std.proofs.Common.{◌≡◌, take}
use Rattle.std.specs.Prelude.{string_bytes}
use Rattle.trace_text.specs.Traces.{trace_of}
use Rattle.run_printing.proofs.traces.lines_of.Given as goal

-- the lines of the events so far
abbrev pub invariant-loop-event : goal.invariant-loop-event
invariant-loop-event l = string_bytes l.text ≡ trace_of (take l.event-index l.events)
