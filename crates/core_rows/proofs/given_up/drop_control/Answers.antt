use Rattle.std.proofs.Common.{ap, sym, ◌∙◌}
use Rattle.protocol.specs.Effects.{after}
use Rattle.protocol.specs.OnPost.{control_taken}
use Rattle.core_rows.proofs.Rules.{allowed_where}
use Rattle.core_rows.proofs.given_up.drop_control.Goals as goal

pub returns-clause-ok : goal.returns-clause-ok
unfolding after
returns-clause-ok g c w s r shows = (
  allowed_where w _ s (c.drop_control_refusal-rule.ensures w s r shows ∙ c.if-rule-ne0.false),
  (shows.0, ap (control_taken c.args.t.0) shows.1 ∙ sym c.take_control-dropped.ensures.messages),
)
