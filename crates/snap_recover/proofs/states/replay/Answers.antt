use Rattle.std.proofs.Common.{List, length, subst}
use Rattle.std.proofs.lemmas.List.{take_all}
use Rattle.txn_records.specs.declared.records.Record.{Record}
use Rattle.snap_recover.specs.Passes.{In, Replays}
use Rattle.snap_recover.proofs.Replaying.{replays_none, replays_quiet, replays_step, told_below}
use Rattle.snap_recover.proofs.states.replay.Goals.{in-Some, in_default}
use Rattle.snap_recover.proofs.states.replay.Goals as goal

pub loop-r-init : goal.loop-r-init
loop-r-init c = replays_none c.args.log c.args.logs (In c.args.batches.now) (In c.args.acts.now) c.args.states.now.items

pub loop-r-preserved : goal.loop-r-preserved
loop-r-preserved c =
    elim c.match-state_here.branch [
      | in-Some w ↦
          let told = w.in-Some.ensures.1 in
          let tells = w.in-Some.ensures.2 in
          let low = told_below (length c.args.states.now.items) (In c.args.batches.now) (In c.args.acts.now) c.args.rs.now c.loop-r.r-index c.r-item.result w.in-Some.actor c.loop-r-test.true c.r-item.is tells c.requires.range in
          rw w.states-is (replays_step c.args.log c.args.logs (In c.args.batches.now) (In c.args.acts.now) c.args.rs.now c.loop-r.r-index c.r-item.result w.in-Some.actor w.in-Some.state c.args.states.now.items c.loop-r.states.items
          c.loop-r-test.true c.r-item.is told tells w.in-Some.ensures.0 low c.loop-r.invariant)
      | in_default w ↦ rw w.states-is (replays_quiet c.args.log c.args.logs (In c.args.batches.now) (In c.args.acts.now) c.args.rs.now c.loop-r.r-index c.r-item.result c.args.states.now.items c.loop-r.states.items c.loop-r-test.true c.r-item.is w.in_default.ensures c.loop-r.invariant)
    ]

pub returns : goal.returns
returns c = subst (λ (z : List Record). Replays c.args.log c.args.logs (In c.args.batches.now) (In c.args.acts.now) z c.args.states.now.items c.loop-r.states.items) (take_all c.loop-r.r-index c.args.rs.now c.loop-r-test.false) c.loop-r.invariant
