use Rattle.std.proofs.Common.{List, subst}
use Rattle.std.proofs.lemmas.List.{take_all}
use Rattle.txn_records.specs.declared.records.Record.{Record}
use Rattle.snap_follow.specs.Passes.{AddsLeaving}
use Rattle.snap_follow.proofs.Held.{holds_none, holds_step}
use Rattle.snap_follow.proofs.Leaving.{blocked_none, leaving_none, blocked_step, leaving_step}
use Rattle.snap_follow.proofs.settling.add_leaving.Goals as goal

pub loop-r-init : goal.loop-r-init
loop-r-init c = record {
  leaving = leaving_none c.args.first.now c.args.there.now c.args.taken.now c.args.set.now c.args.log c.args.logs c.args.leaving.now;
  blocked = blocked_none c.args.first.now c.args.there.now c.args.set.now c.args.log c.args.logs c.new-blocked.result c.new-blocked.ensures.empty;
  states = holds_none c.args.first.now c.args.there.now c.args.log c.args.logs c.new-states.result c.new-states.ensures.empty;
}

pub loop-r-preserved : goal.loop-r-preserved
loop-r-preserved c = record {
  leaving = leaving_step c.args.first.now c.args.there.now c.args.taken.now c.args.set.now c.args.log c.args.logs c.args.rs.now c.loop-r.r-index c.r-item.result c.loop-r.blocked c.args.leaving.now c.loop-r.leaving c.note.new.leaving
      c.loop-r-test.true c.r-item.is c.loop-r.invariant.blocked c.loop-r.invariant.leaving c.in_ok-note.ensures.leaving;
  blocked = blocked_step c.args.first.now c.args.there.now c.args.set.now c.args.log c.args.logs c.args.rs.now c.loop-r.r-index c.r-item.result c.loop-r.states c.loop-r.blocked c.note.new.blocked
      c.loop-r-test.true c.r-item.is c.loop-r.invariant.states c.loop-r.invariant.blocked c.in_ok-note.ensures.blocked;
  states = holds_step c.args.first.now c.args.there.now c.args.log c.args.logs c.args.rs.now c.loop-r.r-index c.r-item.result c.loop-r.states c.note.new.states c.loop-r-test.true c.r-item.is
      c.loop-r.invariant.states c.in_ok-note.ensures.states;
}

pub returns : goal.returns
returns c =
    subst (λ (z : List Record). AddsLeaving c.args.first.now c.args.there.now c.args.taken.now c.args.set.now c.args.log c.args.logs z c.args.leaving.now c.loop-r.leaving) (take_all c.loop-r.r-index c.args.rs.now c.loop-r-test.false) c.loop-r.invariant.leaving
