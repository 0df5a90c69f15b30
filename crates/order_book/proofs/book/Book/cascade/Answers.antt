use Rattle.std.proofs.Common.{◌≡◌, map, refl}
use Rattle.protocol.specs.OnBook.{cascaded}
use Rattle.order_book.proofs.Booked.{cascaded_acts, cascaded_left}
use Rattle.order_book.proofs.book.Book.cascade.Goals as goal

pub invariant_of-self : goal.invariant_of-self
invariant_of-self c =
    cascaded_left c.self.inside.pairs.items c.args.bid.0 c.args.by.0 c.self.inside.register c.change_walked.new.register c.forget.new.self c.self.inside.walked.items c.change_walked.new.walked.items
    c.self.invariant c.change_walked.ensures.acts c.forget.ensures (rw c.as_slice.ensures.value at c.change_walked.ensures.kept)

pub returns : goal.returns
returns c =
    let acts : c.forget.new.self ≡ map (cascaded c.args.bid.0 c.args.by.0) c.self.inside.register =
    cascaded_acts c.self.inside.pairs.items c.args.bid.0 c.args.by.0 c.self.inside.register c.change_walked.new.register c.forget.new.self c.self.inside.walked.items c.self.invariant c.change_walked.ensures.acts c.forget.ensures in
    rw (← c.self.view_is, acts) refl
