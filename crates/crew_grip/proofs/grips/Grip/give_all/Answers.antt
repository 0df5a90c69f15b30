use Rattle.std.proofs.Common.{◌∙◌, arith}
use Rattle.crew_grip.proofs.Working.{given_next, all_given}
use Rattle.crew_grip.proofs.grips.Grip.give_all.Goals as goal

pub loop-part-preserved : goal.loop-part-preserved
loop-part-preserved g c =
    let before = c.loop-part.invariant in (
      c.give.ensures.work,
      (given_next _ _ c.loop-part.part before.1.0 c.give.ensures.given c.give.ensures.others, (c.give.ensures.rest.0 ∙ before.1.1.0, c.give.ensures.rest.1 ∙ before.1.1.1)),
    )

pub returns-clause-idle : goal.returns-clause-idle
returns-clause-idle g c =
    let after = c.loop-part.invariant in
    all_given _ _ _ c.args.turns.now.parts c.loop-part.part after.0.stands c.args.turns.now.counted after.1.0 (omega (arith, c.part_count-part-end.ensures, c.loop-part-test.false))
