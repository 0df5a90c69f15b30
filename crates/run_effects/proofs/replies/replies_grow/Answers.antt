use Rattle.run_effects.proofs.RepliesGrown.{lines_grow}
use Rattle.run_effects.proofs.replies.replies_grow.Goals as goal

pub returns : goal.returns
returns g c w finish es f text run e ok = lines_grow w es e (c.answers_grow.ensures.grow w finish es f text run e ok)
