use Rattle.std.proofs.Common.{ltb, ltb-true, ltb-false, arith, rules}
use Rattle.std.proofs.lemmas.List.Sorted.{IsPartitionPoint-from_clause, IsPartitionedBy-ltb}
use Rattle.abort_cascade.proofs.Covering.{find_at, ends_rise}
use Rattle.abort_cascade.proofs.cascade.count_below.Goals as goal

pub returns : goal.returns
returns c =
    let k = c.args.bid.0 in
    let cs = c.args.cascades.now in
    let parted = IsPartitionedBy-ltb (λ x. x.upto) cs k (ends_rise 0 cs c.requires) in
    let point = IsPartitionPoint-from_clause (λ x. ltb x.upto k) cs _ c.partition_point.ensures.partitioned parted (λ a r q called. search rules) in
    find_at k 0 cs _ c.requires (λ i d lt. ltb-true _ _ (point.0 i d (omega arith) lt)) (λ i d le lt. ltb-false _ _ (point.1 i d le lt))
