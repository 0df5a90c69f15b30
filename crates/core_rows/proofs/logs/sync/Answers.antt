use Rattle.std.proofs.Common.{◌∙◌}
use Rattle.protocol.specs.Effects.{after, synced}
use Rattle.core_rows.proofs.Rules.{allowed_where}
use Rattle.core_rows.proofs.Placing.{log_there}
use Rattle.core_rows.proofs.logs.sync.Goals as goal

pub returns-clause-ok : goal.returns-clause-ok
unfolding after
returns-clause-ok g c w s r shows = (
  allowed_where w _ s (c.sync_refusal-rule.ensures w s r shows ∙ c.if-rule-ne0.false),
  (synced shows.0, (log_there s c.args.l shows.0 synced shows.1.0, c.sync.ensures.shows shows.0 shows.1.1)),
)
