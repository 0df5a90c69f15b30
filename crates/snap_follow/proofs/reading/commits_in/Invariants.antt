use Rattle.snap_base.specs.declared.ids.Bid.{Bid}
use Rattle.snap_base.specs.declared.ids.Tid.{Tid}
use Rattle.txn_records.specs.declared.keys.Key.TheVariants as keys
use Rattle.snap_recover.proofs.Homes.{Through}
use Rattle.snap_follow.specs.Passes.{IsInSet}
use Rattle.snap_follow.proofs.reading.commits_in.Given as goal

abbrev pub invariant-loop-i : goal.invariant-loop-i
invariant-loop-i l = record {
  batches : Through (λ (b : Bid). b.0) (λ b. keys.Commit b) l.lists l.i (λ b. IsInSet l.set (keys.Commit b));
  acts : Through (λ (t : Tid). t.0) (λ t. keys.Act t) l.lists l.i (λ t. IsInSet l.set (keys.Act t));
}
