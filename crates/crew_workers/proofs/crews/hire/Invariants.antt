use Rattle.std.proofs.Common.{◌≡◌, ◌+◌, vec_capacity}
use Rattle.std.specs.List.{All}
use Rattle.turn_table.specs.Words.{HoldsNothing}
use Rattle.turn_table.specs.declared.limits.TheConstants.{PASSES}
use Rattle.crew_workers.specs.Workers.{IsBetweenRounds}
use Rattle.crew_workers.proofs.crews.hire.Given as goal

abbrev pub invariant-loop-hired : goal.invariant-loop-hired
invariant-loop-hired g l =
    (l.first.seat.table_id ≡ l.turns.table.shared.table_id) × (HoldsNothing l.first.seat × (All (λ worker. IsBetweenRounds l.turns worker.pass.seat worker.grip) l.workers.items
    × ((l.workers.len + (l.first.seat.me.0.splits + 1) ≡ PASSES) × ((l.workers.len ≡ l._hired) × (vec_capacity l.workers ≡ vec_capacity l.initial.workers)))))
