use Rattle.std.proofs.Common.{arith, length, option_map}
use Rattle.protocol.proofs.Totals.{counted_all}
use Rattle.snap_hand.specs.Left.{of_part}
use Rattle.snap_hand.proofs.left.logs_left.Goals as goal

pub returns : goal.returns
returns c = counted_all (λ o. of_part (λ g. length g.waiting) (option_map (λ p. p.value.log) o)) c.args.logs.now c.loop-log.log-index c.loop-log.left (omega arith) c.loop-log.invariant
