use Rattle.std.proofs.Common.{◌∙◌}
use Rattle.txn_records.specs.declared.keys.Key.TheVariants.{Info}
use Rattle.protocol.specs.Records.{is_info}
use Rattle.log_set.proofs.Durable.{durable_seen}
use Rattle.log_set.proofs.Naming.{keys_of_kinds}
use Rattle.log_set.proofs.part.LogPart.has_info.Goals as goal

pub returns : goal.returns
returns c = λ l shows. c.is_durable.ensures ∙ durable_seen (is_info c.args.bid.0) (Info c.args.bid) _ _ c.self.view_is (λ r. keys_of_kinds.info r c.args.bid) l shows
