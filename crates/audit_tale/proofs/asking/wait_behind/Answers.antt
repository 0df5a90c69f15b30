use Rattle.std.proofs.Common.{◌++◌, List, subst, take, ◌∙◌}
use Rattle.protocol.specs.Parts.{Pair}
use Rattle.audit_tale.specs.Rivalry.{pairs_of}
use Rattle.audit_tale.specs.Stands.{KnowsAll}
use Rattle.audit_tale.proofs.Standing.{pairs_next}
use Rattle.audit_tale.proofs.asking.wait_behind.Goals as goal

pub loop-u-preserved : goal.loop-u-preserved
loop-u-preserved c = (
  c.in_ok-wait_for.ensures.owners ∙ c.loop-u.invariant.0,
  λ w s rise h. subst (λ (gs : List Pair). KnowsAll w c.wait_for.new.told (record s { gains = gs })) (pairs_next s.gains c.args.t.0 c.args.a.0 c.args.ahead.now c.loop-u.u-index (record { 0 = 0 }) c.loop-u-test.true)
      (c.in_ok-wait_for.ensures.knows w (record s { gains = s.gains ++ pairs_of c.args.t.0 c.args.a.0 (take c.loop-u.u-index c.args.ahead.now) }) rise (c.loop-u.invariant.1 w s rise h)),
)
