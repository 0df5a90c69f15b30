use Rattle.std.proofs.Common.{refl}
use Rattle.log_opening.proofs.refusals.of_fold.Goals as goal

pub returns-in-Some : goal.returns-in-Some
returns-in-Some c = λ lists not. (refl, (c.in-Some.number, refl, c.in-Some.ensures.1 lists not))
