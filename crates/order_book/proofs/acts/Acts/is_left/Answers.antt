use Rattle.std.proofs.Common.{sym, ap, ◌∙◌}
use Rattle.order_book.specs.Changes.{changed_at, changed_by}
use Rattle.order_book.proofs.Crossing.{not_true, uncrossed_at}
use Rattle.order_book.proofs.acts.Acts.is_left.Goals as goal

pub returns-in-Cross : goal.returns-in-Cross
returns-in-Cross c = λ t.
    ap (λ k. changed_at c.args.at (changed_by k) c.args.self.now) c.in-Cross.is
    ∙ uncrossed_at _ c.args.at c.args.self.now (sym c.reaches.ensures ∙ not_true c.reaches.result t)
