use Rattle.std.proofs.Common.{◌≡◌, ◌≤◌, ◌*◌, ◌^◌, List, map, take, unsigned_abs}
use Rattle.protocol.specs.Events.{Event}
use Rattle.run_printing.specs.Summed.{total_of}
use Rattle.snap_core.specs.Cores.{IsAt, state_at}
use Rattle.run_printing.proofs.totals.total_of.Given as goal

-- the sum so far
abbrev pub invariant-loop-number : goal.invariant-loop-number
invariant-loop-number l = record {
  sum : (es : List Event) → IsAt l.core es → l.total ≡ total_of (map (λ c. c.state) (take l.number (state_at l.core es).cells));
  small : unsigned_abs l.total ≤ l.number * (16 * 2 ^ 63);
}
