use Rattle.ready_renewal.proofs.FirstAllowed.{front_first, no_front}
use Rattle.ready_renewal.proofs.firsts.front.Goals as goal

pub returns-clause-some : goal.returns-clause-some
returns-clause-some c = front_first c.nth.result c.args.list.now.events c.allowed_or_refused.ensures c.nth.ensures

pub returns-clause-none : goal.returns-clause-none
returns-clause-none c none = no_front c.nth.result c.args.list.now.events c.nth.ensures none
