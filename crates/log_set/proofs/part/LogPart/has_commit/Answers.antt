use Rattle.std.proofs.Common.{◌∙◌}
use Rattle.txn_records.specs.declared.keys.Key.TheVariants.{Commit}
use Rattle.protocol.specs.Records.{is_commit}
use Rattle.log_set.proofs.Durable.{durable_seen}
use Rattle.log_set.proofs.Naming.{keys_of_kinds}
use Rattle.log_set.proofs.part.LogPart.has_commit.Goals as goal

pub returns : goal.returns
returns c = λ l shows. c.is_durable.ensures ∙ durable_seen (is_commit c.args.bid.0) (Commit c.args.bid) _ _ c.self.view_is (λ r. keys_of_kinds.commit r c.args.bid) l shows
