use Rattle.std.proofs.Common.{sym, arith, map}
use Rattle.std.proofs.lemmas.List.{length-map}
use Rattle.order_book.specs.Kept.{seen}
use Rattle.order_book.specs.Changes.{changed_by}
use Rattle.order_book.proofs.Rows.{changed_row, changed_past}
use Rattle.order_book.proofs.acts.Acts.change.Goals as goal

pub returns-then-at-len : goal.returns-then-at-len
returns-then-at-len c =
    rw (← c.self.view_is) (changed_row c.self.inside.epoch c.args.at (changed_by c.args.change) c.self.inside.rows.items c.change.new.self c.index_mut-row.result.now
    (omega (arith, c.if-at-len.true, c.len.ensures))
    (rw (← c.index_mut-row.ensures.value) c.change.ensures.now))

pub returns-else-at-len : goal.returns-else-at-len
returns-else-at-len c =
    rw (← c.self.view_is) (sym (changed_past c.args.at (changed_by c.args.change) (map (seen c.self.inside.epoch) c.self.inside.rows.items)
    (omega (arith, length-map c.self.inside.rows.items (seen c.self.inside.epoch), c.if-at-len.false, c.len.ensures))))
