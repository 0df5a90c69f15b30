use Rattle.std.proofs.Common.{◌≡◌, Bool, true, false, refl}
use Rattle.protocol.specs.Words.{is_among}
use Rattle.crew_workers.proofs.sharing.Crew.give_back.Goals as goal

-- what is no part of these was not held before they were given back, and what is one is held no more
pub returns-clause-idle : goal.returns-clause-idle
returns-clause-idle g c = λ i. either (is_among i c.args.worker.now.held) (c.give_parts.ensures.given i) (λ h. c.give_parts.ensures.others i (c.requires.within i h)) where
  either : {X : Type 0} (b : Bool) → (b ≡ true → X) → (b ≡ false → X) → X
  either true f g = f refl
  either false f g = g refl
