use Rattle.std.proofs.Common.{get_or, refl}
use Rattle.std.proofs.lemmas.List.{get_or_default}
use Rattle.aml_slice.proofs.Askings.{left_here}
use Rattle.aml_slice.proofs.allowances.is_left.Goals as goal

pub returns-then-one-gt0 : goal.returns-then-one-gt0
returns-then-one-gt0 c =
    (λ h. left_here c.args.uses.now c.loop-one.one-index (get_or c.args.uses.now c.loop-one.one-index (record { 0 = 0 }, 0)) c.args.actor c.loop-one-test.true (get_or_default c.args.uses.now c.loop-one.one-index (record { 0 = 0 }, 0) (get_or c.args.uses.now c.loop-one.one-index (record { 0 = 0 }, 0)) c.loop-one-test.true) c.if-one-actor.true c.if-one-gt0.true, λ h. refl)
