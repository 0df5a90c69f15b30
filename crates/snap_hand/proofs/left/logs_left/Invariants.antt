use Rattle.std.proofs.Common.{length, option_map}
use Rattle.protocol.proofs.Totals.{IsCounted}
use Rattle.snap_hand.specs.Left.{of_part}
use Rattle.snap_hand.proofs.left.logs_left.Given as goal

abbrev pub invariant-loop-log : goal.invariant-loop-log
invariant-loop-log l = IsCounted (λ o. of_part (λ g. length g.waiting) (option_map (λ p. p.value.log) o)) l.logs l.log-index l.left
