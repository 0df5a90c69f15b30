use Rattle.std.proofs.Common.{◌<◌, take}
use Rattle.std.specs.List.{AllByRecursion}
use Rattle.txn_records.specs.Records.{actor_numbers}
use Rattle.snap_recover.proofs.ranges.all_actors_below.Given as goal

abbrev pub invariant-loop-a : goal.invariant-loop-a
invariant-loop-a l = AllByRecursion (λ a. a < l.actors) (actor_numbers (take l.a-index l.named))
