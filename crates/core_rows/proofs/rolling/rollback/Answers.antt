use Rattle.std.proofs.Common.{◌≡◌, ◌<◌, nat_lt, Some, length, slice_get, ap, sym, subst, ◌∙◌}
use Rattle.std.proofs.lemmas.Bool.{ltb-true}
use Rattle.snap_base.proofs.Options.{pair_mapped}
use Rattle.protocol.specs.Events.{Rollback}
use Rattle.protocol.specs.Conditions.{conditions}
use Rattle.protocol.specs.Effects.{after, cell_at}
use Rattle.protocol.specs.OnCell.{rolled_back, staying}
use Rattle.protocol.specs.Words.{holds, is_empty, acts_on}
use Rattle.cell_part.specs.actor_cell.Cut.{IsCutFrom}
use Rattle.core_rows.proofs.Rules.{allowed_where}
use Rattle.core_rows.proofs.Placing.{is_at, put_there}
use Rattle.core_rows.proofs.rolling.rollback.Goals as goal

pub first_after-first-requires : goal.first_after-first-requires
unfolding conditions
first_after-first-requires g c =
    let ok = allowed_where c.requires.text (Rollback c.args.a.0) c.requires.state (c.rollback_refusal-rule.ensures c.requires.text c.requires.state c.requires.run c.requires.shows ∙ c.if-rule-ne0.false) in
    let there = ap (holds (λ x. nat_lt x.epoch (length c.requires.state.book.cascades))) (sym c.requires.shows.1) ∙ ok.0 in
    let below = ltb-true c.args.cell.now.cell.epoch (length c.requires.state.book.cascades) there in
    subst (λ n. n < length c.args.book.now.cascades) (sym c.epoch-seen.ensures) (subst (λ xs. c.args.cell.now.cell.epoch < length xs) c.requires.shows.0.1 below)

pub returns-clause-ok : goal.returns-clause-ok
unfolding after
returns-clause-ok g c w s r shows =
    let ok = allowed_where w (Rollback c.args.a.0) s (c.rollback_refusal-rule.ensures w s r shows ∙ c.if-rule-ne0.false) in
    let here = is_at s c.args.a.0 c.args.cell.now.cell shows.1 in
    let x = pair_mapped (λ y. y.first) (slice_get s.book.cascades c.epoch-seen.result) c.first_after-first.result.0 (c.first_after-first.ensures s.book shows.0) in
    let at : slice_get s.book.cascades (cell_at s c.args.a.0).epoch ≡ Some x.0 = ap (slice_get s.book.cascades) (ap (λ y. y.epoch) here ∙ sym c.epoch-seen.ensures) ∙ x.1.0 in
    let cut = (c.rows_may.ensures w s r).rolls_back c.args.a.0 x.0 at in
    let cut_here = subst (λ y. IsCutFrom x.0.first (is_empty (acts_on (staying s.book.cascades y.entries))) s.book.cascades y.entries y.images) here cut in
    let cut_first = subst (λ n. IsCutFrom n (is_empty (acts_on (staying s.book.cascades c.args.cell.now.cell.entries))) s.book.cascades c.args.cell.now.cell.entries c.args.cell.now.cell.images) x.1.1 cut_here in
    (ok, (shows.0, put_there s c.args.a.0 c.args.cell.now.cell _ (rolled_back s.book.cascades) shows.1 (c.rollback.ensures.back s.book.cascades (c.epoch-epoch.ensures s.book shows.0) cut_first)))
