use Rattle.std.proofs.Common.{sym, ◌∙◌}
use Rattle.std.specs.Prelude.{◌==◌}
use Rattle.protocol.specs.Parts.{Act}
use Rattle.protocol.specs.Words.{is_value}
use Rattle.protocol.specs.OnBook.{change_if, decided_as}
use Rattle.order_book.proofs.Walked.{kept, one_rests, places_rests}
use Rattle.order_book.proofs.book.Book.decide.Goals as goal

pub invariant_of-self : goal.invariant_of-self
invariant_of-self c =
    kept c.self.inside.pairs.items c.self.inside.pairs.items (λ (x : Act). change_if (x.tid == c.args.t.0) (decided_as 0) x) c.self.inside.register c.change.new.self c.self.inside.walked.items c.keep_walked.new.walked.items
    (λ x e. one_rests c.self.inside.pairs.items (decided_as 0) (x.tid == c.args.t.0) x (places_rests c.self.inside.pairs.items x.tid x.status (is_value x.result)) e)
    c.self.invariant (c.change.ensures ∙ sym (c.place_of-at.ensures.changes (decided_as 0))) (rw c.as_slice.ensures.value at c.keep_walked.ensures)
