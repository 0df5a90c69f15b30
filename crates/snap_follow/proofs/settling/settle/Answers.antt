use Rattle.std.proofs.Common.{List, sym, subst, ◌∙◌}
use Rattle.txn_records.specs.declared.keys.Key.{Key}
use Rattle.snap_follow.proofs.Named.{RemovesAll}
use Rattle.snap_follow.proofs.Settled.{settles_begin, settles_step, settles_end, gets_smaller}
use Rattle.snap_follow.proofs.settling.settle.Goals as goal

pub pass-init : goal.pass-init
pass-init c = settles_begin c.args.first.now c.args.there.now c.args.taken.now c.args.now.now c.args.set.now

pub returns-then-len-eq0-clause-settled : goal.returns-then-len-eq0-clause-settled
returns-then-len-eq0-clause-settled c = settles_end c.args.first.now c.args.there.now c.args.taken.now c.args.now.now c.pass.set c.in_ok-leaving.leaving c.in_ok-leaving.ensures (sym c.len.ensures ∙ c.if-len-eq0.true)

pub pass-preserved : goal.pass-preserved
pass-preserved c =
    settles_step c.args.first.now c.args.there.now c.args.taken.now c.args.now.now c.args.set.now c.pass.set c.remove_all.new.set c.in_ok-leaving.leaving c.pass.invariant c.in_ok-leaving.ensures
    (subst (λ (z : List Key). RemovesAll z c.pass.set c.remove_all.new.set) c.as_slice.ensures c.remove_all.ensures.others)

pub pass-smaller : goal.pass-smaller
pass-smaller c =
    gets_smaller c.args.first.now c.args.there.now c.args.taken.now c.args.now.now c.pass.set c.remove_all.new.set c.in_ok-leaving.leaving c.as_slice.result.now c.in_ok-leaving.ensures c.as_slice.ensures (λ e. c.if-len-eq0.false (c.len.ensures ∙ e)) c.remove_all.ensures.fewer
