use Rattle.std.proofs.Common.{rules, w64}
use Rattle.std.proofs.Math.Facts.{to_z-of_z}
use Rattle.run_opening.proofs.Differing.{state_differs}
use Rattle.run_opening.proofs.comparisons.compare_states.Goals as goal

pub returns-in-Some : goal.returns-in-Some
returns-in-Some c =
    state_differs c.args.kept.now c.args.text.now c.loop-actor.actor c.in-Some.d.field _ c.in-Some.d.kept c.in-Some.d.text _ _
    c.if-kept-text.false c.loop-actor-test.true c.loop-actor.invariant c.in-Some.ensures
    (to_z-of_z {w = w64} (search rules)) (to_z-of_z {w = w64} (search rules))
