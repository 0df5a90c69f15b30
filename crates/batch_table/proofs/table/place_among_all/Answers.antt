use Rattle.std.proofs.Common.{◌≡◌, suc, ◌-◌, true, false, subst, arith, rules}
use Rattle.std.specs.Prelude.{nat_le}
use Rattle.std.specs.List.Sorted.{IsPartitionPoint}
use Rattle.std.proofs.lemmas.List.Sorted.{IsPartitionPoint-from_clause}
use Rattle.protocol.specs.Parts.{Batch}
use Rattle.batch_table.proofs.ByNumber.{no_batch}
use Rattle.batch_table.proofs.ByTid.{first_tid, firsts_part, place_from_point, nowhere_from_point}
use Rattle.batch_table.proofs.table.place_among_all.Goals as goal

pub returns-then-count-eq0 : goal.returns-then-count-eq0
returns-then-count-eq0 c =
    let bs = c.args.batches.now in
    let t = c.args.tid.0 in
    let point = IsPartitionPoint-from_clause (λ (b : Batch). nat_le (first_tid b) t) bs c.partition_point-count.result c.partition_point-count.ensures.partitioned (firsts_part 0 t bs c.requires) (λ a r q k. search rules) in
    nowhere_from_point t 0 bs c.requires (subst (λ n. IsPartitionPoint (λ (b : Batch). nat_le (first_tid b) t ≡ true) (λ (b : Batch). nat_le (first_tid b) t ≡ false) bs n) c.if-count-eq0.true point) no_batch

pub returns-else-count-eq0 : goal.returns-else-count-eq0
returns-else-count-eq0 c =
    let bs = c.args.batches.now in
    let t = c.args.tid.0 in
    let point = IsPartitionPoint-from_clause (λ (b : Batch). nat_le (first_tid b) t) bs c.partition_point-count.result c.partition_point-count.ensures.partitioned (firsts_part 0 t bs c.requires) (λ a r q k. search rules) in
    let n : c.partition_point-count.result ≡ suc (c.partition_point-count.result - 1) = omega arith in
    place_from_point t 0 (c.partition_point-count.result - 1) bs c.requires (omega (arith, n, c.partition_point-count.ensures.bound))
    (subst (λ n. IsPartitionPoint (λ (b : Batch). nat_le (first_tid b) t ≡ true) (λ (b : Batch). nat_le (first_tid b) t ≡ false) bs n) n point) no_batch
