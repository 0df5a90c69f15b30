use Rattle.std.proofs.Common.{◌∙◌}
use Rattle.txn_records.specs.declared.keys.Key.TheVariants.{Complete}
use Rattle.protocol.specs.Records.{is_complete}
use Rattle.log_set.proofs.Durable.{durable_seen}
use Rattle.log_set.proofs.Naming.{keys_of_kinds}
use Rattle.log_set.proofs.part.LogPart.has_complete.Goals as goal

pub returns : goal.returns
returns c = λ l shows. c.is_durable.ensures ∙ durable_seen (is_complete c.args.bid.0 c.args.actor.0) (Complete c.args.bid c.args.actor) _ _ c.self.view_is (λ r. keys_of_kinds.complete r c.args.bid c.args.actor) l shows
