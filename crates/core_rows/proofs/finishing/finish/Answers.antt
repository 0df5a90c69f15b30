use Rattle.std.proofs.Common.{ap, sym, subst, ◌∙◌}
use Rattle.protocol.specs.Events.{Finish}
use Rattle.protocol.specs.Conditions.{conditions}
use Rattle.protocol.specs.Effects.{after}
use Rattle.protocol.specs.OnCell.{act_left, is_undone_act}
use Rattle.protocol.specs.Words.{act_of, holds, is_sealed}
use Rattle.book_part.specs.order_book.Asked.{before_of}
use Rattle.book_part.specs.Halves.{Shows}
use Rattle.core_rows.proofs.Rules.{allowed_where}
use Rattle.core_rows.proofs.Placing.{put_there}
use Rattle.core_rows.proofs.Found.{held}
use Rattle.core_rows.proofs.finishing.finish.Goals as goal

pub returns-clause-ok : goal.returns-clause-ok
unfolding conditions after
returns-clause-ok g c w s r shows =
    let ok = allowed_where w (Finish c.args.t.0 c.args.a.0) s (c.finish_refusal-rule.ensures w s r shows.0 ∙ c.if-rule-ne0.false) in
    let x = held _ (act_of c.args.t.0 s.book.acts) ok.0 in
    let left = c.finish-2.ensures.left x.0
    (ap is_undone_act (sym x.1) ∙ sym (c.is_undone-undone.ensures s.book shows.0))
    (ap (holds (λ y. is_sealed y.status)) (sym x.1) ∙ sym (c.is_sealed-sealed.ensures s.book shows.0))
    (ap before_of (sym x.1) ∙ sym (c.before-before.ensures s.book shows.0))
    (ap (holds (λ y. y.reader)) (sym x.1) ∙ sym (c.is_reader-reader.ensures s.book shows.0)) in (
      ok,
      (
        subst (λ h. Shows h (after w (Finish c.args.t.0 c.args.a.0) s).book) (sym c.finish.ensures) (c.books_go_on.ensures w (Finish c.args.t.0 c.args.a.0) s c.args.book.now r shows.0 ok),
        put_there s c.args.a.0 c.args.cell.now.cell _ (act_left c.args.t.0 (act_of c.args.t.0 s.book.acts)) shows.1
            (left ∙ ap (λ o. act_left c.args.t.0 o c.args.cell.now.cell) (sym x.1)),
      ),
    )
