use Rattle.std.proofs.Common.{◌≡◌, List, get_or, subst, arith}
use Rattle.std.proofs.lemmas.List.{get_or_default, take_all}
use Rattle.txn_records.specs.declared.keys.Key.{Key}
use Rattle.txn_records.specs.declared.keys.Key.TheVariants as keys
use Rattle.snap_follow.proofs.Named.{RemovesAll, removes_step, shrinks_step, shrinks_end}
use Rattle.snap_follow.proofs.commits.remove_all.Goals as goal

pub loop-key-preserved : goal.loop-key-preserved
loop-key-preserved c =
    let gone = c.args.gone.now in
    let i = c.loop-key.key-index in
    let k : Key = get_or gone i keys.Genesis in
    let at : k ≡ get_or gone i k = get_or_default gone i keys.Genesis k c.loop-key-test.true in
    record {
      others = removes_step gone i k c.args.set.now c.loop-key.set c.remove.new.set c.loop-key-test.true at c.loop-key.invariant.others c.remove.ensures.others;
      fewer = shrinks_step gone i k c.args.set.now c.loop-key.set c.remove.new.set at c.loop-key.invariant.first c.loop-key.invariant.fewer c.remove.ensures.fewer c.remove.ensures.gone;
      first = λ e. absurd (omega (arith, e));
    }

pub returns-clause-others : goal.returns-clause-others
returns-clause-others c = subst (λ (z : List Key). RemovesAll z c.args.set.now c.loop-key.set) (take_all c.loop-key.key-index c.args.gone.now c.loop-key-test.false) c.loop-key.invariant.others

pub returns-clause-fewer : goal.returns-clause-fewer
returns-clause-fewer c = shrinks_end c.args.gone.now c.loop-key.key-index c.args.set.now c.loop-key.set c.loop-key-test.false c.loop-key.invariant.fewer
