use Rattle.std.proofs.Common.{◌≡◌, filter, map, take}
use Rattle.protocol.specs.Meant.{tid_number}
use Rattle.hybrid_schedule.specs.Schedules.{can_run}
use Rattle.cell_part.proofs.listing.runnable_of.Given as goal

abbrev pub invariant-loop-t : goal.invariant-loop-t
invariant-loop-t l = map tid_number l.tids.items ≡ filter (λ t. can_run t l.schedule.schedule.entries) (map tid_number (take l.t-index l.waiting))
