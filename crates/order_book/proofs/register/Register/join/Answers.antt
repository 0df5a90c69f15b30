use Rattle.std.proofs.Common.{arith, refl}
use Rattle.protocol.specs.Words.{is_live_act}
use Rattle.protocol.specs.OnBook.{joins}
use Rattle.order_book.proofs.Counting.{one_of_count}
use Rattle.order_book.proofs.Registering.{registered_changed, count_fits}
use Rattle.order_book.proofs.register.Register.join.Goals as goal

pub recounted-self-inside-requires-clause-was : goal.recounted-self-inside-requires-clause-was
recounted-self-inside-requires-clause-was c = rw (c.is_live-was.ensures, c.self.invariant.counted) (one_of_count is_live_act c.args.at c.self.inside.acts)

pub recounted-self-inside-requires-clause-fits : goal.recounted-self-inside-requires-clause-fits
recounted-self-inside-requires-clause-fits c =
    count_fits c.self.inside.acts c.self.inside.tids.items c.self.inside.by_tx.items c.self.inside.live c.self.invariant
    (omega (arith, c.self.inside.tids.ok.0, c.self.inside.tids.small)) c.is_live-is.result

pub invariant_of-self-2 : goal.invariant_of-self-2
invariant_of-self-2 c =
    registered_changed (joins c.args.actor.0 c.args.behind.0) (λ x. refl) (λ x. refl) c.args.at c.self.inside.acts c.join.new.self
    c.self.inside.tids.items c.self.inside.by_tx.items c.self.inside.live c.recounted-self-inside.result c.is_live-was.result c.is_live-is.result
    c.self.invariant c.in_ok-join.ensures.ok c.is_live-was.ensures c.is_live-is.ensures c.recounted-self-inside.ensures
