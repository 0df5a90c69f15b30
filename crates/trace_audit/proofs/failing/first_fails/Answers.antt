use Rattle.std.proofs.Common.{length, sym, subst, ◌∙◌}
use Rattle.snap_base.proofs.Lists.{each_here}
use Rattle.aml_check.specs.Checked.{methods_of}
use Rattle.aml_check.specs.Meaning.{alone}
use Rattle.aml_check.specs.Transactions.{IsTransaction}
use Rattle.trace_audit.proofs.FirstFailures.{failed_here, pact_below, passed_here}
use Rattle.trace_audit.proofs.failing.first_fails.Goals as goal

pub bounds-txs-pact : goal.bounds-txs-pact
bounds-txs-pact c = pact_below (length c.args.txs.now) c.args.pacts.now c.loop-pact.pact-index _ c.loop-pact-test.true c.requires.pacts

pub run_alone-requires : goal.run_alone-requires
run_alone-requires c =
    subst (λ n. IsTransaction (methods_of c.args.program.now) n c.index-txs-pact.result) (sym c.loop-pact.invariant.actors)
    (each_here (IsTransaction (methods_of c.args.program.now) (length c.args.world.now.items)) c.args.txs.now _ c.index-txs-pact.result
    (pact_below (length c.args.txs.now) c.args.pacts.now c.loop-pact.pact-index _ c.loop-pact-test.true c.requires.pacts) c.index-txs-pact.is c.requires.txs)

pub returns-in-Fail : goal.returns-in-Fail
returns-in-Fail c =
    failed_here (alone (methods_of c.args.program.now)) c.args.txs.now c.args.n.0 c.args.code c.loop-pact.world.items c.run_alone.new.world.items c.args.pacts.now c.loop-pact.pact-index _ c.index-txs-pact.result c.in_ok-failed.field-0 c.in-Fail.failed c.is_this.result _
    c.loop-pact-test.true (pact_below (length c.args.txs.now) c.args.pacts.now c.loop-pact.pact-index _ c.loop-pact-test.true c.requires.pacts) c.index-txs-pact.is c.in_ok-failed.ensures.alone c.in-Fail.is c.is_this.ensures c.loop-pact.invariant.left

pub loop-pact-preserved : goal.loop-pact-preserved
loop-pact-preserved c = record {
  left = passed_here (alone (methods_of c.args.program.now)) c.args.txs.now c.args.n.0 c.args.code c.loop-pact.world.items c.run_alone.new.world.items c.args.pacts.now c.loop-pact.pact-index _ c.index-txs-pact.result c.in_ok-failed.field-0 c.in_default.field-0 _
      c.loop-pact-test.true (pact_below (length c.args.txs.now) c.args.pacts.now c.loop-pact.pact-index _ c.loop-pact-test.true c.requires.pacts) c.index-txs-pact.is c.in_ok-failed.ensures.alone c.in_default.is c.loop-pact.invariant.left;
  actors = c.run_alone.ensures.actors ∙ c.loop-pact.invariant.actors;
}
