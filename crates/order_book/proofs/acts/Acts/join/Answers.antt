use Rattle.std.proofs.Common.{ap, sym, arith, map}
use Rattle.std.proofs.lemmas.List.{length-map}
use Rattle.protocol.specs.OnBook.{joins}
use Rattle.order_book.specs.Kept.{Kept, seen}
use Rattle.order_book.proofs.Rows.{changed_row, changed_past}
use Rattle.order_book.proofs.acts.Acts.join.Goals as goal

pub returns-in_ok-join-clause-ok : goal.returns-in_ok-join-clause-ok
returns-in_ok-join-clause-ok c =
    rw (← c.self.view_is) (changed_row c.self.inside.epoch c.args.at (joins c.args.actor.0 c.args.behind.0) c.self.inside.rows.items c.join.new.self c.index_mut-row.result.now
    (omega (arith, c.if-at-len.true, c.len.ensures))
    (rw (← c.index_mut-row.ensures.value) (ap (λ (x : Kept). seen c.self.inside.epoch x) c.in_ok-join.ensures.ok)))

pub returns-else-at-len-clause-ok : goal.returns-else-at-len-clause-ok
returns-else-at-len-clause-ok c =
    rw (← c.self.view_is) (sym (changed_past c.args.at (joins c.args.actor.0 c.args.behind.0) (map (seen c.self.inside.epoch) c.self.inside.rows.items)
    (omega (arith, length-map c.self.inside.rows.items (seen c.self.inside.epoch), c.if-at-len.false, c.len.ensures))))
