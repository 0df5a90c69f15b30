use Rattle.std.proofs.Common.{refl}
use Rattle.log_following.proofs.refusals.of_round.Goals as goal

pub returns-in-Some : goal.returns-in-Some
returns-in-Some c = λ before lists may not. (refl, (c.in-Some.number, refl, c.in-Some.ensures.1 before lists may not))
