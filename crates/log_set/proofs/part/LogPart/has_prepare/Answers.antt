use Rattle.std.proofs.Common.{◌∙◌}
use Rattle.txn_records.specs.declared.keys.Key.TheVariants.{Prepare}
use Rattle.protocol.specs.Records.{is_prepare}
use Rattle.log_set.proofs.Durable.{durable_seen}
use Rattle.log_set.proofs.Naming.{keys_of_kinds}
use Rattle.log_set.proofs.part.LogPart.has_prepare.Goals as goal

pub returns : goal.returns
returns c = λ l shows. c.is_durable.ensures ∙ durable_seen (is_prepare c.args.tid.0 c.args.actor.0) (Prepare c.args.tid c.args.actor) _ _ c.self.view_is (λ r. keys_of_kinds.prepare r c.args.tid c.args.actor) l shows
