use Rattle.std.proofs.Common.{List, arith, sym, ap, ◌∙◌}
use Rattle.protocol.specs.Parts.{Act}
use Rattle.protocol.specs.Words.{is_live_act}
use Rattle.order_book.specs.Changes.{changed_at, changed_by}
use Rattle.order_book.proofs.Counting.{one_of_count}
use Rattle.order_book.proofs.Registering.{keeps_tid, keeps_tx, registered_changed, count_fits}
use Rattle.order_book.proofs.register.Register.change.Goals as goal

pub recounted-self-inside-requires-clause-was : goal.recounted-self-inside-requires-clause-was
recounted-self-inside-requires-clause-was c = rw (c.is_live-was.ensures, c.self.invariant.counted) (one_of_count is_live_act c.args.at c.self.inside.acts)

pub recounted-self-inside-requires-clause-fits : goal.recounted-self-inside-requires-clause-fits
recounted-self-inside-requires-clause-fits c =
    count_fits c.self.inside.acts c.self.inside.tids.items c.self.inside.by_tx.items c.self.inside.live c.self.invariant
    (omega (arith, c.self.inside.tids.ok.0, c.self.inside.tids.small)) c.is_live-is.result

pub invariant_of-self : goal.invariant_of-self
invariant_of-self c =
    registered_changed (changed_by c.args.change) (keeps_tid c.args.change) (keeps_tx c.args.change) c.args.at c.self.inside.acts c.change.new.self
    c.self.inside.tids.items c.self.inside.by_tx.items c.self.inside.live c.recounted-self-inside.result c.is_live-was.result c.is_live-is.result
    c.self.invariant c.change.ensures c.is_live-was.ensures c.is_live-is.ensures c.recounted-self-inside.ensures

pub returns-then-is_left : goal.returns-then-is_left
returns-then-is_left c =
    sym (ap (λ (xs : List Act). changed_at c.args.at (changed_by c.args.change) xs) (sym c.self.view_is) ∙ c.is_left.ensures c.if-is_left.true ∙ c.self.view_is)
