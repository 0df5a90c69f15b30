use Rattle.solo_host.proofs.Words.{begins}
use Rattle.solo_host.proofs.picks.generator_of.Goals as goal

pub returns : goal.returns
returns c = begins c.args.seed c.new.result c.new.ensures
