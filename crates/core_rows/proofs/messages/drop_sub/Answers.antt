use Rattle.std.proofs.Common.{ap, sym, ◌∙◌}
use Rattle.protocol.specs.Effects.{after}
use Rattle.protocol.specs.OnPost.{sub_taken}
use Rattle.core_rows.proofs.Rules.{allowed_where}
use Rattle.core_rows.proofs.messages.drop_sub.Goals as goal

pub returns-clause-ok : goal.returns-clause-ok
unfolding after
returns-clause-ok g c w s r shows = (
  allowed_where w _ s (c.drop_sub_refusal-rule.ensures w s r shows ∙ c.if-rule-ne0.false),
  (shows.0, ap (sub_taken c.args.k.0 c.args.a.0) shows.1 ∙ sym c.take_sub-dropped.ensures.messages),
)
