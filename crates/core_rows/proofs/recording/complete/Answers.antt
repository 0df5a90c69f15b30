use Rattle.std.proofs.Common.{◌%◌, [], ◌∷◌, refl, ap, sym, ◌∙◌}
use Rattle.protocol.specs.Events.{Complete}
use Rattle.protocol.specs.Effects.{after, added, cell_at}
use Rattle.protocol.specs.OnCell.{batch_completed}
use Rattle.protocol.specs.Records.{BatchComplete}
use Rattle.log_set.specs.Told.{told}
use Rattle.core_rows.proofs.Rules.{allowed_where}
use Rattle.core_rows.proofs.Placing.{is_at, put_there, log_there}
use Rattle.core_rows.proofs.recording.complete.Goals as goal

pub add-requires : goal.add-requires
add-requires g c =
    let ok = allowed_where c.requires.text (Complete c.args.k.0 c.args.a.0) c.requires.state (c.complete_refusal-rule.ensures c.requires.text c.requires.state c.requires.run c.requires.shows.1 ∙ c.if-rule-ne0.false) in
    (c.rows_may.ensures c.requires.text c.requires.state c.requires.run).tells_complete c.args.k.0 c.args.a.0 ok c.args.k c.args.a c.state-state.result refl refl c.states_fit.ensures

pub returns-clause-ok : goal.returns-clause-ok
unfolding after
returns-clause-ok g c w s r shows =
    let state = ap (λ x. x.state) (is_at s c.args.a.0 c.args.cell.now.cell shows.1) ∙ sym c.state-state.ensures in (
      allowed_where w _ s (c.complete_refusal-rule.ensures w s r shows.1 ∙ c.if-rule-ne0.false),
      (
        (added (BatchComplete c.args.k.0 c.args.a.0 (cell_at s c.args.a.0).state ∷ []) shows.0.0, (log_there s (c.args.a.0 % w.text.logs) shows.0.0 (added (BatchComplete c.args.k.0 c.args.a.0 (cell_at s c.args.a.0).state ∷ [])) shows.0.1.0, c.in_ok-add.ensures.shows shows.0.0 (BatchComplete c.args.k.0 c.args.a.0 (cell_at s c.args.a.0).state) (ap (λ x. told (BatchComplete c.args.k.0 c.args.a.0 x)) (sym state)) shows.0.1.1)),
        put_there s c.args.a.0 c.args.cell.now.cell _ (batch_completed c.args.k.0) shows.1 c.complete.ensures.completed,
      ),
    )
