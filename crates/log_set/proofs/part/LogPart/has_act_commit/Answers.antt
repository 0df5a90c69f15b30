use Rattle.std.proofs.Common.{◌∙◌}
use Rattle.txn_records.specs.declared.keys.Key.TheVariants.{Act}
use Rattle.protocol.specs.Records.{is_act_commit}
use Rattle.log_set.proofs.Durable.{durable_seen}
use Rattle.log_set.proofs.Naming.{keys_of_kinds}
use Rattle.log_set.proofs.part.LogPart.has_act_commit.Goals as goal

pub returns : goal.returns
returns c = λ l shows. c.is_durable.ensures ∙ durable_seen (is_act_commit c.args.tid.0) (Act c.args.tid) _ _ c.self.view_is (λ r. keys_of_kinds.act r c.args.tid) l shows
