use Rattle.std.proofs.Common.{◌≡◌, ◌++◌, List, map, take}
use Rattle.std.specs.Prelude.{string_bytes}
use Rattle.protocol.specs.Events.{Event}
use Rattle.snap_core.specs.Cores.{IsAt, state_at}
use Rattle.snap_report.specs.Lines.{actors_text}
use Rattle.run_printing.proofs.endings.push_actors.Given as goal

-- the lines of the actors so far
abbrev pub invariant-loop-number : goal.invariant-loop-number
invariant-loop-number l = (es : List Event) → IsAt l.core es
    → string_bytes l.text ≡ string_bytes l.fn.text ++ actors_text 0 (map (λ c. c.state) (take l.number (state_at l.core es).cells))
