use Rattle.std.proofs.Common.{IsTrue, ap, sym, subst, ◌∙◌}
use Rattle.protocol.specs.Events.{Settle}
use Rattle.protocol.specs.Conditions.{conditions}
use Rattle.protocol.specs.Effects.{after}
use Rattle.protocol.specs.OnDesk.{batch_settled}
use Rattle.batch_table.specs.Askings.{awaits_settling}
use Rattle.core_rows.proofs.Rules.{allowed_where}
use Rattle.core_rows.proofs.noting.settle.Goals as goal

pub settle-requires : goal.settle-requires
unfolding conditions
settle-requires g c =
    let ok = allowed_where c.requires.text (Settle c.args.k.0) c.requires.state (c.settle_refusal-rule.ensures c.requires.text c.requires.state c.requires.run c.requires.shows ∙ c.if-rule-ne0.false) in
    subst (λ d. IsTrue (awaits_settling c.args.k.0 d.batches)) c.requires.shows.0 ok.0

pub returns-clause-ok : goal.returns-clause-ok
unfolding after
returns-clause-ok g c w s r shows = (
  allowed_where w _ s (c.settle_refusal-rule.ensures w s r shows ∙ c.if-rule-ne0.false),
  (ap (batch_settled c.args.k.0) shows.0 ∙ sym c.settle.ensures, shows.1),
)
