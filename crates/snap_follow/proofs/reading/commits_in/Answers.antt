use Rattle.snap_base.specs.declared.ids.Bid.{Bid}
use Rattle.snap_base.specs.declared.ids.Tid.{Tid}
use Rattle.txn_records.specs.declared.keys.Key.TheVariants as keys
use Rattle.snap_recover.proofs.Steps.{same_at}
use Rattle.snap_recover.proofs.Homes.{through_none, through_step, through_end}
use Rattle.snap_follow.specs.Passes.{IsInSet}
use Rattle.snap_follow.proofs.Named.{all_commits}
use Rattle.snap_follow.proofs.reading.commits_in.Goals as goal

pub loop-i-init : goal.loop-i-init
loop-i-init c = record {
  batches = through_none (λ (b : Bid). b.0) (λ b. keys.Commit b) c.args.lists.now (λ b. IsInSet c.no_commits-set.result (keys.Commit b)) (λ b. c.no_commits-set.ensures (keys.Commit b));
  acts = through_none (λ (t : Tid). t.0) (λ t. keys.Act t) c.args.lists.now (λ t. IsInSet c.no_commits-set.result (keys.Act t)) (λ t. c.no_commits-set.ensures (keys.Act t));
}

pub loop-i-preserved : goal.loop-i-preserved
loop-i-preserved c =
    let here = same_at c.args.lists.now c.loop-i.i c.index-lists-i.result c.as_slice.result.now c.as_slice.ensures c.index-lists-i.is in
    record {
      batches = through_step (λ (b : Bid). b.0) (λ b. keys.Commit b) c.args.lists.now c.loop-i.i c.as_slice.result.now (λ b. IsInSet c.loop-i.set (keys.Commit b)) (λ b. IsInSet c.add_log.new.set (keys.Commit b))
          c.loop-i-test.true here c.in_ok-add_log.ensures.batches c.loop-i.invariant.batches;
      acts = through_step (λ (t : Tid). t.0) (λ t. keys.Act t) c.args.lists.now c.loop-i.i c.as_slice.result.now (λ t. IsInSet c.loop-i.set (keys.Act t)) (λ t. IsInSet c.add_log.new.set (keys.Act t))
          c.loop-i-test.true here c.in_ok-add_log.ensures.acts c.loop-i.invariant.acts;
    }

pub returns : goal.returns
returns c =
    all_commits c.args.lists.now c.loop-i.set
    (through_end (λ (b : Bid). b.0) (λ b. keys.Commit b) c.args.lists.now c.loop-i.i (λ b. IsInSet c.loop-i.set (keys.Commit b)) c.requires.some c.loop-i-test.false c.loop-i.invariant.batches)
    (through_end (λ (t : Tid). t.0) (λ t. keys.Act t) c.args.lists.now c.loop-i.i (λ t. IsInSet c.loop-i.set (keys.Act t)) c.requires.some c.loop-i-test.false c.loop-i.invariant.acts)
