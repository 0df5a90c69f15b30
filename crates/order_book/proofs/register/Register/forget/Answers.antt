use Rattle.order_book.proofs.Registering.{registered_forgotten}
use Rattle.order_book.proofs.register.Register.forget.Goals as goal

pub invariant_of-self : goal.invariant_of-self
invariant_of-self c = registered_forgotten c.self.inside.acts c.forget.new.self c.self.inside.tids.items c.self.inside.by_tx.items c.self.inside.live c.self.invariant c.forget.ensures
