use Rattle.std.proofs.Common.{◌≡◌, Some, map, option_map, replicate}
use Rattle.core_rows.specs.log_set.Logs.{no_records}
use Rattle.snap_hand.proofs.opening.new_logs.Given as goal

abbrev pub invariant-loop-made : goal.invariant-loop-made
invariant-loop-made l = map (option_map (λ x. x.value.log)) l.logs.items ≡ replicate l._made (Some no_records)
