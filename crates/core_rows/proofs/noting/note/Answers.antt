use Rattle.std.proofs.Common.{IsTrue, ap, sym, subst, ◌∙◌}
use Rattle.protocol.specs.Events.{Note}
use Rattle.protocol.specs.Conditions.{conditions}
use Rattle.protocol.specs.Effects.{after}
use Rattle.protocol.specs.OnDesk.{batch_noted}
use Rattle.batch_table.specs.Askings.{awaits_note}
use Rattle.core_rows.proofs.Rules.{allowed_where}
use Rattle.core_rows.proofs.noting.note.Goals as goal

pub note_complete-requires : goal.note_complete-requires
unfolding conditions
note_complete-requires g c =
    let ok = allowed_where c.requires.text (Note c.args.k.0 c.args.a.0) c.requires.state (c.note_refusal-rule.ensures c.requires.text c.requires.state c.requires.run c.requires.shows ∙ c.if-rule-ne0.false) in
    subst (λ d. IsTrue (awaits_note c.args.k.0 c.args.a.0 d.batches)) c.requires.shows.0 ok.0

pub returns-clause-ok : goal.returns-clause-ok
unfolding after
returns-clause-ok g c w s r shows = (
  allowed_where w _ s (c.note_refusal-rule.ensures w s r shows ∙ c.if-rule-ne0.false),
  (ap (batch_noted c.args.k.0 c.args.a.0) shows.0 ∙ sym c.note_complete.ensures, shows.1),
)
