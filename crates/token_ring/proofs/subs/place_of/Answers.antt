use Rattle.std.proofs.Common.{ltb, rules}
use Rattle.std.proofs.lemmas.List.Sorted.{IsPartitionPoint-from_clause}
use Rattle.protocol.specs.Meant.{subs_actor}
use Rattle.token_ring.proofs.Places.{ascend_partitioned, leading_at}
use Rattle.token_ring.proofs.subs.place_of.Goals as goal

pub returns-clause-leading : goal.returns-clause-leading
returns-clause-leading c =
    leading_at c.args.actor.0 c.args.subs.now c.partition_point.result
    (IsPartitionPoint-from_clause (λ s. ltb (subs_actor s) c.args.actor.0) c.args.subs.now c.partition_point.result c.partition_point.ensures.partitioned
    (ascend_partitioned c.args.actor.0 c.args.subs.now c.requires) (λ a r f k. search rules))
    c.partition_point.ensures.bound
