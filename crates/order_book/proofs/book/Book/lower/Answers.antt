use Rattle.std.proofs.Common.{◌≡◌, ◌∙◌, List, ap, map, refl}
use Rattle.protocol.specs.Meant.{tid_number}
use Rattle.protocol.specs.Parts.{Act}
use Rattle.protocol.specs.Spread.{doomed_by_order}
use Rattle.protocol.specs.OnBook.{lowered}
use Rattle.order_book.proofs.Booked.{lowered_walked, crossed_acts, crossed_left}
use Rattle.order_book.proofs.book.Book.lower.Goals as goal

pub invariant_of-self : goal.invariant_of-self
invariant_of-self c =
    let walked = lowered_walked c.self.inside.pairs.items c.args.bid.0 (map tid_number c.args.acts.now) c.self.inside.register c.lower_each.new.register c.self.inside.walked.items c.self.invariant c.lower_each.ensures in
    crossed_left c.self.inside.pairs.items c.args.a.0 c.lower_each.new.register c.change_walked.new.register c.self.inside.walked.items c.change_walked.new.walked.items walked
    (crossed_acts c.self.inside.pairs.items c.args.a.0 c.lower_each.new.register c.change_walked.new.register c.self.inside.walked.items walked c.change_walked.ensures.acts)
    (rw c.as_slice.ensures.value at c.change_walked.ensures.kept)

pub returns : goal.returns
returns c =
    let walked = lowered_walked c.self.inside.pairs.items c.args.bid.0 (map tid_number c.args.acts.now) c.self.inside.register c.lower_each.new.register c.self.inside.walked.items c.self.invariant c.lower_each.ensures in
    let acts : c.change_walked.new.register ≡ doomed_by_order c.args.a.0 (map (lowered c.args.bid.0 (map tid_number c.args.acts.now)) c.self.inside.register) =
    crossed_acts c.self.inside.pairs.items c.args.a.0 c.lower_each.new.register c.change_walked.new.register c.self.inside.walked.items walked c.change_walked.ensures.acts
    ∙ ap (λ (zs : List Act). doomed_by_order c.args.a.0 zs) c.lower_each.ensures in
    rw (← c.self.view_is, acts) refl
