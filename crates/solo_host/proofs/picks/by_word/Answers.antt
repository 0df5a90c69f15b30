use Rattle.solo_host.proofs.KeptList.{read_there}
use Rattle.solo_host.proofs.picks.by_word.Goals as goal

pub returns-clause-there : goal.returns-clause-there
returns-clause-there c = read_there c.nth.result c.args.enabled.now.events c.place_of.result c.nth.ensures
