use Rattle.solo_host.proofs.Trying.{asks_none}
use Rattle.solo_host.proofs.tries.try_event.Goals as goal

pub take-requires : goal.take-requires
take-requires c = asks_none c.args.e c.in_default.not-Sync c.in_default.not-Reply
