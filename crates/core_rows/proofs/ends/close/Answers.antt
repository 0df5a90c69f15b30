use Rattle.std.proofs.Common.{◌∙◌}
use Rattle.protocol.specs.Effects.{after}
use Rattle.protocol.specs.OnCell.{pact_closed}
use Rattle.core_rows.proofs.Rules.{allowed_where}
use Rattle.core_rows.proofs.Placing.{put_there}
use Rattle.core_rows.proofs.ends.close.Goals as goal

pub returns-clause-ok : goal.returns-clause-ok
unfolding after
returns-clause-ok g c w s r shows = (
  allowed_where w _ s (c.close_refusal-rule.ensures w s r shows ∙ c.if-rule-ne0.false),
  (shows.0, put_there s c.args.a.0 c.args.cell.now.cell _ (pact_closed c.args.t.0) shows.1 c.close.ensures.closed),
)
