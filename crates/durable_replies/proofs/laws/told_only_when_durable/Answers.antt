use Rattle.durable_replies.proofs.Durable.{only_when_durable}
use Rattle.durable_replies.proofs.laws.told_only_when_durable.Goals as goal

pub returns : goal.returns
returns c = only_when_durable c.one_command.ensures
