use Rattle.std.proofs.Common.{◌%◌, arith, [], ◌∷◌, ap, sym, subst, ◌∙◌}
use Rattle.protocol.specs.Events.{Prepare}
use Rattle.protocol.specs.Effects.{after, added, cell_at}
use Rattle.protocol.specs.Records.{ActPrepare}
use Rattle.book_part.specs.Halves.{Shows}
use Rattle.log_set.specs.Told.{told}
use Rattle.core_rows.proofs.Rules.{allowed_where}
use Rattle.core_rows.proofs.Placing.{is_at, log_there}
use Rattle.core_rows.proofs.recording.prepare.Goals as goal

pub add-requires : goal.add-requires
add-requires g c =
    let ok = allowed_where c.requires.text (Prepare c.args.t.0 c.args.a.0) c.requires.state (c.prepare_refusal-rule.ensures c.requires.text c.requires.state c.requires.run c.requires.shows.0 ∙ c.if-rule-ne0.false) in
    let fits = (c.rows_may.ensures c.requires.text c.requires.state c.requires.run).tells_prepare c.args.t.0 c.args.a.0 ok in
    record { tid_fits = omega (arith, fits.0); actor_fits = fits.1; is_state = c.states_fit.ensures }

pub returns-clause-ok : goal.returns-clause-ok
unfolding after
returns-clause-ok g c w s r shows =
    let ok = allowed_where w (Prepare c.args.t.0 c.args.a.0) s (c.prepare_refusal-rule.ensures w s r shows.0 ∙ c.if-rule-ne0.false) in
    let state = ap (λ x. x.state) (is_at s c.args.a.0 c.args.cell.now.cell shows.2) ∙ sym c.state-state.ensures in (
      ok,
      (
        subst (λ h. Shows h (after w (Prepare c.args.t.0 c.args.a.0) s).book) (sym c.prepare.ensures) (c.books_go_on.ensures w (Prepare c.args.t.0 c.args.a.0) s c.args.book.now r shows.0 ok),
        (added (ActPrepare c.args.t.0 c.args.a.0 (cell_at s c.args.a.0).state ∷ []) shows.1.0, (log_there s (c.args.a.0 % w.text.logs) shows.1.0 (added (ActPrepare c.args.t.0 c.args.a.0 (cell_at s c.args.a.0).state ∷ [])) shows.1.1.0, c.in_ok-add.ensures.shows shows.1.0 (ActPrepare c.args.t.0 c.args.a.0 (cell_at s c.args.a.0).state) (ap (λ x. told (ActPrepare c.args.t.0 c.args.a.0 x)) (sym state)) shows.1.1.1)),
        shows.2,
      ),
    )
