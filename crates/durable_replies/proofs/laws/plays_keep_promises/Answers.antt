use Rattle.durable_replies.proofs.Promised.{promised}
use Rattle.durable_replies.proofs.laws.plays_keep_promises.Goals as goal

pub returns : goal.returns
returns c = promised
