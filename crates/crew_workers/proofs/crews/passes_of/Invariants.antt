use Rattle.std.proofs.Common.{◌≡◌, ◌+◌, sum_by, vec_capacity}
use Rattle.std.specs.List.{All}
use Rattle.turn_table.specs.Words.{HoldsNothing}
use Rattle.crew_workers.specs.Workers.{IsBetweenRounds}
use Rattle.crew_workers.proofs.crews.passes_of.Given as goal

abbrev pub invariant-loop-worker : goal.invariant-loop-worker
invariant-loop-worker g l =
    All (λ worker. IsBetweenRounds l.turns worker.pass.seat worker.grip) l.workers.items
    × (All (λ pass. pass.seat.table_id ≡ l.turns.table.shared.table_id) l.passes.items
    × (All (λ pass. HoldsNothing pass.seat) l.passes.items
    × ((sum_by (λ pass. pass.seat.me.0.splits) l.passes.items ≡ 0)
    × ((l.passes.len + l.workers.len ≡ l.initial.workers.len) × (vec_capacity l.passes ≡ vec_capacity l.initial.passes)))))

abbrev pub decreases-loop-worker : goal.decreases-loop-worker
decreases-loop-worker g l = goal.left-loop-worker g l
