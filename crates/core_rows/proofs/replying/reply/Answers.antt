use Rattle.std.proofs.Common.{IsTrue, ap, sym, subst, ◌∙◌}
use Rattle.protocol.specs.Events.{Reply}
use Rattle.protocol.specs.Conditions.{conditions}
use Rattle.protocol.specs.Effects.{after}
use Rattle.protocol.specs.OnDesk.{replied_to}
use Rattle.batch_table.specs.Askings.{awaits_reply}
use Rattle.core_rows.proofs.Rules.{allowed_where}
use Rattle.core_rows.proofs.replying.reply.Goals as goal

pub mark_replied-requires : goal.mark_replied-requires
unfolding conditions
mark_replied-requires g c =
    let ok = allowed_where c.requires.text (Reply c.args.n.0) c.requires.state (c.reply_refusal-rule.ensures c.requires.text c.requires.state c.requires.run c.requires.shows ∙ c.if-rule-ne0.false) in
    subst (λ d. IsTrue (awaits_reply c.args.n.0 d)) c.requires.shows.1 ok.0

pub returns-clause-ok : goal.returns-clause-ok
unfolding after
returns-clause-ok g c w s r shows = (
  allowed_where w _ s (c.reply_refusal-rule.ensures w s r shows ∙ c.if-rule-ne0.false),
  (shows.0, ap (replied_to c.args.n.0) shows.1 ∙ sym c.mark_replied.ensures),
)
