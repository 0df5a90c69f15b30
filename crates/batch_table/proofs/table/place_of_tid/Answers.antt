use Rattle.std.proofs.Common.{◌≡◌, ℕ, ◌<◌, ◌≤◌, ◌-◌, suc, List, subst, arith}
use Rattle.std.specs.Prelude.{slice_index_or}
use Rattle.protocol.specs.Parts.{Batch}
use Rattle.batch_table.proofs.ByTid.{first_tid, tid_place}
use Rattle.batch_table.proofs.table.place_of_tid.Goals as goal

pub returns-then-first_tid-tid : goal.returns-then-first_tid-tid
returns-then-first_tid-tid c =
    let bs : List Batch = c.args.batches.now in
    let t : ℕ = c.args.tid.0 in
    let last : ℕ = c.loop-at.at - 1 in
    let d : Batch = c.index-batches-at.result in
    let next : c.loop-at.at ≡ suc last = omega (arith, c.loop-at-test.true) in
    tid_place t 0 last d bs c.requires (omega (arith, next, c.loop-at.invariant.0))
    (subst (λ b. first_tid b ≤ t) c.index-batches-at.is (subst (λ n. n ≤ t) c.first_tid.ensures c.if-first_tid-tid.true))
    (λ more. subst (λ n. t < first_tid (slice_index_or bs n d)) next (c.loop-at.invariant.1 d (omega (arith, next, more))))
