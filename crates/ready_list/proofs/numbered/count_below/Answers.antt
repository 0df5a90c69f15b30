use Rattle.std.proofs.Common.{ltb, ltb-true, ltb-false, rules}
use Rattle.std.proofs.lemmas.List.Sorted.{IsPartitionPoint-from_clause, IsPartitionedBy-ltb}
use Rattle.core_events.specs.Meant.{event_meant}
use Rattle.ready_list.specs.Order.{first_of}
use Rattle.ready_list.proofs.numbered.count_below.Goals as goal

pub returns-clause-point : goal.returns-clause-point
returns-clause-point c =
    let parted = IsPartitionedBy-ltb (λ f. first_of (event_meant f)) c.args.events.now c.args.number c.requires in
    let point = IsPartitionPoint-from_clause (λ f. ltb (first_of (event_meant f)) c.args.number) c.args.events.now _ c.partition_point.ensures.partitioned parted (λ a r q called. search rules) in
    (λ k d low lt. ltb-true _ _ (point.0 k d low lt), λ k d low lt. ltb-false _ _ (point.1 k d low lt))
