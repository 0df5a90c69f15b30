use Rattle.log_following.proofs.NeverRefused.{never_refused}
use Rattle.log_following.proofs.laws.folded_are_followed.Goals as goal

pub returns : goal.returns
returns c = λ before lists f log cause on alike. never_refused c.refused_are_not_folded.ensures lists f on before log cause alike
