use Rattle.std.proofs.Common.{◌≤◌, get_or, arith}
use Rattle.snap_recover.specs.declared.ranges.TheConstants.{GREATEST_NUMBER}
use Rattle.snap_base.specs.declared.ids.Tid.{Tid}
use Rattle.snap_base.proofs.Lists.{each_here}
use Rattle.std.proofs.lemmas.List.{get_or_default}
use Rattle.snap_recover.proofs.Steps.{mapped}
use Rattle.snap_recover.proofs.ranges.all_tids_within.Goals as goal

pub returns-then-t-gt-GREATEST_NUMBER : goal.returns-then-t-gt-GREATEST_NUMBER
returns-then-t-gt-GREATEST_NUMBER c = (
  λ bad. absurd (cc),
  λ all.
      let t : Tid = get_or c.args.tids.now c.loop-t.t-index (record { 0 = 0 }) in
      let low = each_here (λ (t : Tid). t.0 ≤ GREATEST_NUMBER) c.args.tids.now c.loop-t.t-index t c.loop-t-test.true (get_or_default c.args.tids.now c.loop-t.t-index (record { 0 = 0 }) t c.loop-t-test.true)
      (mapped (λ (t : Tid). t.0) (λ n. n ≤ GREATEST_NUMBER) c.args.tids.now all) in
      absurd (omega (arith, low, c.if-t-gt-GREATEST_NUMBER.true)),
)
