use Rattle.std.proofs.Common.{◌≡◌, ◌%◌, List, subst}
use Rattle.std.proofs.lemmas.List.{take_all}
use Rattle.snap_base.specs.declared.ids.Bid.{Bid}
use Rattle.snap_base.specs.declared.ids.Tid.{Tid}
use Rattle.txn_records.specs.declared.records.Record.{Record}
use Rattle.txn_records.specs.declared.keys.Key.TheVariants as keys
use Rattle.snap_recover.proofs.Homes.{adds_none, adds_step}
use Rattle.snap_follow.specs.Passes.{IsInSet, AddsActs, AddsBatches}
use Rattle.snap_follow.proofs.reading.add_log.Goals as goal

pub loop-r-init : goal.loop-r-init
loop-r-init c = record {
  batches = adds_none (λ (b : Bid). b.0 % c.args.logs ≡ c.args.log) (λ b. keys.Commit b) (λ b. IsInSet c.args.set.now (keys.Commit b));
  acts = adds_none (λ (t : Tid). t.0 % c.args.logs ≡ c.args.log) (λ t. keys.Act t) (λ t. IsInSet c.args.set.now (keys.Act t));
}

pub loop-r-preserved : goal.loop-r-preserved
loop-r-preserved c = record {
  batches = adds_step (λ (b : Bid). b.0 % c.args.logs ≡ c.args.log) (λ b. keys.Commit b) c.args.rs.now c.loop-r.r-index c.r-item.result (λ b. IsInSet c.args.set.now (keys.Commit b)) (λ b. IsInSet c.loop-r.set (keys.Commit b)) (λ b. IsInSet c.add_record.new.set (keys.Commit b))
      c.loop-r-test.true c.r-item.is c.loop-r.invariant.batches c.in_ok-add_record.ensures.batches;
  acts = adds_step (λ (t : Tid). t.0 % c.args.logs ≡ c.args.log) (λ t. keys.Act t) c.args.rs.now c.loop-r.r-index c.r-item.result (λ t. IsInSet c.args.set.now (keys.Act t)) (λ t. IsInSet c.loop-r.set (keys.Act t)) (λ t. IsInSet c.add_record.new.set (keys.Act t))
      c.loop-r-test.true c.r-item.is c.loop-r.invariant.acts c.in_ok-add_record.ensures.acts;
}

pub returns-clause-batches : goal.returns-clause-batches
returns-clause-batches c = subst (λ (z : List Record). AddsBatches c.args.log c.args.logs z c.args.set.now c.loop-r.set) (take_all c.loop-r.r-index c.args.rs.now c.loop-r-test.false) c.loop-r.invariant.batches

pub returns-clause-acts : goal.returns-clause-acts
returns-clause-acts c = subst (λ (z : List Record). AddsActs c.args.log c.args.logs z c.args.set.now c.loop-r.set) (take_all c.loop-r.r-index c.args.rs.now c.loop-r-test.false) c.loop-r.invariant.acts
