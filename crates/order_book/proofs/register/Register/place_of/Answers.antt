use Rattle.std.proofs.Common.{subst}
use Rattle.order_book.proofs.Finding.{placed_at}
use Rattle.order_book.proofs.register.Register.place_of.Goals as goal
use Rattle.protocol.specs.Cutting.{Ascends}

pub returns : goal.returns
returns c =
    rw (c.place_in.ensures, c.as_slice.ensures.value, c.self.invariant.listed, ← c.self.view_is)
    (placed_at c.args.t.0 c.self.inside.acts (subst Ascends c.self.invariant.listed c.self.invariant.rising))
