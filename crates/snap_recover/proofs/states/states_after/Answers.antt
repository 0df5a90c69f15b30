use Rattle.std.proofs.Common.{ℕ, List, length, subst, sym}
use Rattle.snap_base.specs.declared.transactions.State.{State}
use Rattle.std.specs.List.{AllByRecursion}
use Rattle.snap_recover.specs.Opening.{IsInRange}
use Rattle.snap_recover.proofs.Steps.{same_at}
use Rattle.snap_recover.proofs.Replaying.{StatesThrough, states_begin, states_through, states_end, log_in_range}
use Rattle.snap_recover.proofs.states.states_after.Goals as goal

pub loop-i-init : goal.loop-i-init
loop-i-init c = subst (λ (z : List State). StatesThrough c.args.logs.now 0 c.args.first.now z) (sym c.in_ok-states.ensures.items) (states_begin c.args.logs.now c.args.first.now)

pub replay-requires : goal.replay-requires
replay-requires c =
    let logs = c.args.logs.now in
    let i = c.loop-i.i in
    let rs = c.as_slice.result.now in
    let at = same_at logs i c.index-logs-i.result rs c.as_slice.ensures c.index-logs-i.is in
    record {
      some = c.requires.some;
      batches = c.requires.batches.ascend;
      acts = c.requires.acts.ascend;
      range = subst (λ (n : ℕ). AllByRecursion (IsInRange n) rs) (sym c.loop-i.invariant.long) (log_in_range (length c.args.first.now) logs i rs c.loop-i-test.true at c.requires.range);
    }

pub loop-i-preserved : goal.loop-i-preserved
loop-i-preserved c =
    let logs = c.args.logs.now in
    let i = c.loop-i.i in
    let rs = c.as_slice.result.now in
    let at = same_at logs i c.index-logs-i.result rs c.as_slice.ensures c.index-logs-i.is in
    states_through logs i rs c.args.batches.now c.args.acts.now c.args.first.now c.loop-i.states.items c.replay.new.states.items c.loop-i-test.true at c.requires.batches c.requires.acts c.replay.ensures c.loop-i.invariant

pub returns : goal.returns
returns c = states_end c.args.logs.now c.loop-i.i c.args.first.now c.loop-i.states.items c.requires.some c.loop-i-test.false c.loop-i.invariant
