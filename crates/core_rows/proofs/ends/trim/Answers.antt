use Rattle.std.proofs.Common.{IsTrue, ap, sym, subst, ◌∙◌}
use Rattle.protocol.specs.Events.{Trim}
use Rattle.protocol.specs.Conditions.{conditions}
use Rattle.protocol.specs.Effects.{after}
use Rattle.protocol.specs.OnCell.{batch_left}
use Rattle.protocol.specs.OnDesk.{batch_trimmed}
use Rattle.batch_table.specs.Askings.{awaits_trim}
use Rattle.core_rows.proofs.Rules.{allowed_where}
use Rattle.core_rows.proofs.Placing.{put_there}
use Rattle.core_rows.proofs.ends.trim.Goals as goal

pub trim-requires : goal.trim-requires
unfolding conditions
trim-requires g c =
    let ok = allowed_where c.requires.text (Trim c.args.k.0 c.args.a.0) c.requires.state (c.trim_refusal-rule.ensures c.requires.text c.requires.state c.requires.run c.requires.shows.0 ∙ c.if-rule-ne0.false) in
    subst (λ d. IsTrue (awaits_trim c.args.k.0 c.args.a.0 d.batches)) c.requires.shows.0 ok.0

pub returns-clause-ok : goal.returns-clause-ok
unfolding after
returns-clause-ok g c w s r shows = (
  allowed_where w _ s (c.trim_refusal-rule.ensures w s r shows.0 ∙ c.if-rule-ne0.false),
  (
    ap (batch_trimmed c.args.k.0 c.args.a.0) shows.0 ∙ sym c.trim.ensures,
    put_there s c.args.a.0 c.args.cell.now.cell _ (batch_left c.args.k.0) shows.1 c.trim-2.ensures.left,
  ),
)
