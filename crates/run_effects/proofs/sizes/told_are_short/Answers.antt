use Rattle.run_effects.proofs.ToldSizes.{told_size}
use Rattle.run_effects.proofs.sizes.told_are_short.Goals as goal

pub returns : goal.returns
returns c = told_size
