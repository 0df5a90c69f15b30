use Rattle.std.proofs.Common.{get_or, refl}
use Rattle.std.proofs.lemmas.List.{get_or_default}
use Rattle.aml_slice.proofs.Askings.{waits_here}
use Rattle.aml_slice.proofs.saved.waits_on.Goals as goal

pub returns-then-frame-actor : goal.returns-then-frame-actor
returns-then-frame-actor c =
    (λ h. waits_here c.args.frames.now c.loop-frame.frame-index (get_or c.args.frames.now c.loop-frame.frame-index (record { actor = 0; method = 0; next = 0; variables = 0; levels = 0 })) c.args.actor c.loop-frame-test.true (get_or_default c.args.frames.now c.loop-frame.frame-index (record { actor = 0; method = 0; next = 0; variables = 0; levels = 0 }) (get_or c.args.frames.now c.loop-frame.frame-index (record { actor = 0; method = 0; next = 0; variables = 0; levels = 0 })) c.loop-frame-test.true) c.if-frame-actor.true, λ h. refl)
